-- A person joins or does not.
use mathlib.Core.Path.{◌≡◌, refl, sym, ap, ap₂, ◌∙◌}
use mathlib.Core.Logic.{◌⊎◌, inl, inr}
use mathlib.Core.Bool.{Bool, true, false, not, ◌||◌, true≢false}
use Prim.Native.Nat.{ℕ, zero, suc, ◌+◌, ◌*◌, ◌^◌, ◌≤◌, ◌<◌}
use native.Mathlib.Nat.{add-zero, add_right_comm, mul-add, mul_left_comm, mul-zero, zero-mul, not-suc-le-zero, le_of_suc-le-suc}
use native.Mathlib.Decide.{dec_lt}
use native.Mathlib.Omega.{arith}
use borrow.Author.Tests.{eq-eqb, ne_eqb, eqb-true}
use lib.Dec.{eqb}
use Rattle.sets.specs.Lists.{pick}
use Rattle.sets.specs.Sets.{has, bit}
use Rattle.sets.proofs.Lists.{lt-or-eq}
use Rattle.sets.proofs.Listed.{mem-within, size-within}
use Rattle.sums.specs.Sums.{over, but, Reached}
use Rattle.sums.proofs.Joins.{joined-has, joined-self, joined-other, joined-lt, joined-size}
use Rattle.sums.proofs.Sums.{over-nobody, over-there, over-joins, over-weights, over-cong, over_nothing}

pub but-self : (w : ℕ → ℕ) (u : ℕ) → but w u u ≡ 0
but-self w u = ap (λ (b : Bool). pick b 0 (w u)) (eq-eqb u u refl)

pub but-other : (w : ℕ → ℕ) (u v : ℕ) → (v ≡ u → ⊥) → but w u v ≡ w v
but-other w u v d = ap (λ (b : Bool). pick b 0 (w v)) (ne_eqb v u d)

-- somebody of no weight
pub over-never : (f : ℕ → ℕ → ℕ) (w : ℕ → ℕ) (m r A u : ℕ) → w u ≡ 0 → over f w m r A ≡ over f (but w u) m r A
over-never f w m r A u z = over-weights f w (but w u) m r A (λ v l e. at v (dec_lt v u) (dec_lt u v))
  where
    at : (v : ℕ) → Dec (v < u) → Dec (u < v) → w v ≡ but w u v
    at v (yes a) b = sym (but-other w u v (λ d. omega arith))
    at v (no a) (yes b) = sym (but-other w u v (λ d. omega arith))
    at v (no a) (no b) = let same : v ≡ u = omega arith in ap w same ∙ z ∙ sym (but-self w u) ∙ ap (but w u) (sym same)

module _ (f : ℕ → ℕ → ℕ) (w : ℕ → ℕ) (n : ℕ) where
  split-last : (m r A : ℕ) → m < n → A < 2 ^ n → has A m ≡ false → over f w (suc m) (suc r) A ≡ over f (but w m) (suc m) (suc r) A + w m * over f w (suc m) r (A + 2 ^ m)
  split-last m r A l g e =
      over-joins f w m r A e
      ∙ ap₂ ◌+◌
      (over-weights f w (but w m) m (suc r) A (λ v k q. sym (but-other w m v (λ d. omega arith))) ∙ sym without)
      (ap (λ (x : ℕ). w m * x) (sym (over-there f w m r (A + 2 ^ m) (joined-self n m A l g e))))
    where
      without : over f (but w m) (suc m) (suc r) A ≡ over f (but w m) m (suc r) A
      without =
          over-joins f (but w m) m r A e
          ∙ ap (λ (x : ℕ). over f (but w m) m (suc r) A + x * over f (but w m) m r (A + 2 ^ m)) (but-self w m)
          ∙ ap (λ (x : ℕ). over f (but w m) m (suc r) A + x) (zero-mul (over f (but w m) m r (A + 2 ^ m)))
          ∙ add-zero (over f (but w m) m (suc r) A)

  -- the sets without u, and those with u
  pub over-split : (u m r A : ℕ) → u < m → m ≤ n → A < 2 ^ n → has A u ≡ false → over f w m (suc r) A ≡ over f (but w u) m (suc r) A + w u * over f w m r (A + 2 ^ u)
  over-split u zero r A l k g e = absurd (not-suc-le-zero l)
  over-split u (suc m) r A l k g e = go (lt-or-eq u m (le_of_suc-le-suc l)) (λ b s B. over-split u m s B b (omega arith))
    where
      there : (b : Bool) → has A m ≡ b → u < m → has (A + 2 ^ u) m ≡ b
      there b q h = joined-other n u A (omega arith) g e m (λ d. omega arith) ∙ q

      at : (b : Bool) → has A m ≡ b → (s : ℕ) → u < m
          → ((s B : ℕ) → B < 2 ^ n → has B u ≡ false → over f w m (suc s) B ≡ over f (but w u) m (suc s) B + w u * over f w m s (B + 2 ^ u))
          → over f w (suc m) (suc s) A ≡ over f (but w u) (suc m) (suc s) A + w u * over f w (suc m) s (A + 2 ^ u)
      at true q s h low =
          over-there f w m (suc s) A q
          ∙ low s A g e
          ∙ sym (ap₂ (λ (x y : ℕ). x + w u * y) (over-there f (but w u) m (suc s) A q) (over-there f w m s (A + 2 ^ u) (there true q h)))
      at false q zero h low =
          omega (
            arith,
            over-joins f w m 0 A q,
            over-joins f (but w u) m 0 A q,
            low 0 A g e,
            ap₂ ◌*◌ (but-other w u m (λ d. omega arith)) (over-nobody f (but w u) m (A + 2 ^ m) ∙ sym (over-nobody f w m (A + 2 ^ m))),
            ap (λ (x : ℕ). w u * x) (over-nobody f w (suc m) (A + 2 ^ u) ∙ sym (over-nobody f w m (A + 2 ^ u))),
          )
      at false q (suc s) h low =
          omega (
            arith,
            over-joins f w m (suc s) A q,
            over-joins f (but w u) m (suc s) A q,
            low (suc s) A g e,
            ap (λ (x : ℕ). w m * x) (low s (A + 2 ^ m) (joined-lt n m A k g q) (joined-other n m A k g q u (λ d. omega arith) ∙ e))
                ∙ mul-add (w m) (over f (but w u) m (suc s) (A + 2 ^ m)) (w u * over f w m s (A + 2 ^ m + 2 ^ u)),
            ap (λ (x : ℕ). x * over f (but w u) m (suc s) (A + 2 ^ m)) (but-other w u m (λ d. omega arith)),
            ap (λ (x : ℕ). w u * x) (over-joins f w m s (A + 2 ^ u) (there false q h))
                ∙ mul-add (w u) (over f w m (suc s) (A + 2 ^ u)) (w m * over f w m s (A + 2 ^ u + 2 ^ m)),
            mul_left_comm (w m) (w u) (over f w m s (A + 2 ^ m + 2 ^ u)) ∙ ap (λ (x : ℕ). w u * (w m * over f w m s x)) (add_right_comm A (2 ^ m) (2 ^ u)),
          )

      go : (u ≡ m) ⊎ (u < m) → (u < m → (s B : ℕ) → B < 2 ^ n → has B u ≡ false → over f w m (suc s) B ≡ over f (but w u) m (suc s) B + w u * over f w m s (B + 2 ^ u))
          → over f w (suc m) (suc r) A ≡ over f (but w u) (suc m) (suc r) A + w u * over f w (suc m) r (A + 2 ^ u)
      go (inl q) low = rw q (split-last m r A k g (ap (has A) (sym q) ∙ e))
      go (inr h) low = at (has A m) refl r h (low h)

-- ---- a person who is counted where present

pub over-present : (w : ℕ → ℕ) (n u m r A : ℕ) → u < m → m ≤ n → A < 2 ^ n → has A u ≡ false → over (λ S left. bit (not (has S u))) w m r A ≡ over (λ S left. 1) (but w u) m r A
over-present w n u m zero A l k g e = over-nobody _ w m A ∙ ap (λ (b : Bool). bit (not b)) e ∙ sym (over-nobody _ (but w u) m A)
over-present w n u m (suc r) A l k g e =
    over-split here w n u m r A l k g e
    ∙ ap₂ (λ (x y : ℕ). x + w u * y)
    (over-cong n here (λ S left. 1) (but w u) m (suc r) A k g (λ S left z. ap (λ (b : Bool). bit (not b)) (stays S left z (has S u) refl)))
    (over-cong n here (λ S left. 0) w m r (A + 2 ^ u) k (joined-lt n u A (omega arith) g e) (λ S left z. ap (λ (b : Bool). bit (not b)) (z.holds u (joined-self n u A (omega arith) g e)))
    ∙ over_nothing w m r (A + 2 ^ u))
    ∙ omega (arith, mul-zero (w u))
  where
    here : ℕ → ℕ → ℕ
    here S left = bit (not (has S u))

    stays : (S left : ℕ) → Reached n (but w u) m (suc r) A S left → (b : Bool) → has S u ≡ b → has S u ≡ false
    stays S left z true q = absurd (let j = (z.joins u e q).1 in omega (arith, but-self w u))
    stays S left z false q = q

-- ---- the sets with a person and those without

module _ (n : ℕ) (w : ℕ → ℕ) (u : ℕ) where
  -- u is not there, so u's weight does not matter
  pub reached-without : {m r A S left : ℕ} → Reached n w m r A S left → has S u ≡ false → Reached n (but w u) m r A S left
  reached-without {m} {r} {A} {S} h e = record { fits = h.fits; holds = h.holds; joins = at; many = h.many }
    where
      at : (v : ℕ) → has A v ≡ false → has S v ≡ true → (v < m) × (0 < but w u v)
      at v p q =
          let j = h.joins v p q in
          let same : but w u v ≡ w v = but-other w u v (λ d. true≢false (sym q ∙ ap (has S) d ∙ e)) in
          (j.0, omega (arith, j.1, same))

  -- nobody of no weight is there who was not
  pub reached-never : {m r A S left : ℕ} → Reached n w m r A S left → has A u ≡ false → w u ≡ 0 → has S u ≡ false
  reached-never {S = S} h e z = at (has S u) refl
    where
      at : (b : Bool) → has S u ≡ b → has S u ≡ false
      at true q = absurd (let j = (h.joins u e q).1 in omega arith)
      at false q = q

  module _ (A : ℕ) (listed : u < n) (fits : A < 2 ^ n) (outside : has A u ≡ false) where
    held : (S : ℕ) → ((v : ℕ) → has A v ≡ true → has S v ≡ true) → has S u ≡ true → (v : ℕ) → has (A + 2 ^ u) v ≡ true → has S v ≡ true
    held S h e v q = at (has A v) refl (sym (joined-has n u A listed fits outside v) ∙ q)
      where
        at : (b : Bool) → has A v ≡ b → has A v || eqb v u ≡ true → has S v ≡ true
        at true p k = h v p
        at false p k = ap (has S) (eqb-true v u (sym (ap (λ (b : Bool). b || eqb v u) p) ∙ k)) ∙ e

    -- u has joined
    pub reached-with : {m r S left : ℕ} → Reached n w m (suc r) A S left → has S u ≡ true → Reached n w m r (A + 2 ^ u) S left
    reached-with {S = S} h e =
        record {
          fits = h.fits;
          holds = held S h.holds e;
          joins = λ v p q. h.joins v (at v (has A v) refl p) q;
          many = omega (arith, h.many, joined-size n u A listed fits outside);
        }
      where
        at : (v : ℕ) (b : Bool) → has A v ≡ b → has (A + 2 ^ u) v ≡ false → has A v ≡ false
        at v true q p = absurd (true≢false (sym (joined-has n u A listed fits outside v ∙ ap (λ (b : Bool). b || eqb v u) q) ∙ p))
        at v false q p = q

    -- nobody may join
    pub reached-full : {m S left : ℕ} → Reached n w m 0 A S left → has S u ≡ false
    reached-full {S = S} h = at (has S u) refl
      where
        at : (b : Bool) → has S u ≡ b → has S u ≡ false
        at true q =
            absurd (let k = size-within n (A + 2 ^ u) S (mem-within n (A + 2 ^ u) S (λ v l. held S h.holds q v)) in omega (arith, h.many, joined-size n u A listed fits outside, k))
        at false q = q
