-- Searches, one for each set, that get nothing: the sum of their trials.
use mathlib.Core.Path.{◌≡◌, refl, sym, ap, ap₂, ◌∙◌}
use mathlib.Core.Bool.{Bool, true, false, not, ◌&&◌}
use mathlib.Core.Option.{none}
use Prim.Native.Nat.{ℕ, zero, suc, ◌+◌, ◌-◌, ◌*◌, ◌^◌, ◌≤◌, ◌<◌}
use native.Mathlib.Nat.{add_comm, add-zero, zero-mul, le_refl}
use native.Mathlib.Omega.{arith}
use Rattle.sets.specs.Lists.{◌∈◌, pick}
use Rattle.sets.specs.Sets.{has, bit, count, size, sets}
use Rattle.sets.proofs.Bits.{has-lt}
use Rattle.sets.proofs.Listed.{within-mem, sets-in}
use Rattle.games.specs.Walks.{Search, seek}
use Rattle.sums.specs.Sums.{over, but, Reached, how_many, how_many_miss, most, capped, Summed, Comes}
use Rattle.sums.proofs.Caps.{capped-plus, capped_left, capped-right, capped_le, capped-times, capped-next}
use Rattle.sums.proofs.Sums.{over-nobody, over-weights, over-cong, over-plus, over_nothing}
use Rattle.sums.proofs.Reached.{reached-here}
use Rattle.sums.proofs.Splits.{over-never, over-split, over-present, reached-without, reached-never, reached-with, reached-full}
use Rattle.sums.proofs.Again.{over-again}
use Rattle.sums.proofs.Seeks.{seek-over}

-- weights count only of the first n people
pub summed-weights : {B : Type 0} {f : ℕ → Search B} {n : ℕ} {v w : ℕ → ℕ} {r A x : ℕ} → ((u : ℕ) → u < n → v u ≡ w u) → Summed f n v r A x → Summed f n w r A x
summed-weights {B} {f} {n} {v} {w} {r} {A} {x} h s =
    record {
      holds = λ S left z. s.holds S left (record { fits = z.fits; holds = z.holds; joins = λ u p q. at u (z.joins u p q); many = z.many });
      sum = s.sum ∙ ap capped (over-weights (λ S left. (f S).trials) v w n r A (λ u l e. h u l));
    }
  where
    at : (u : ℕ) → (u < n) × (0 < w u) → (u < n) × (0 < v u)
    at u j = (j.0, omega (arith, j.0, j.1, h u j.0))

-- ---- a person is away or not

module _ {B : Type 0} (f : ℕ → Search B) (n : ℕ) (w : ℕ → ℕ) (v A : ℕ) (listed : v < n) (fits : A < 2 ^ n) (outside : has A v ≡ false) where
  abbrev trials : ℕ → ℕ → ℕ
  trials S left = (f S).trials

  -- without v, and with v
  pub summed-split : (r x y : ℕ) → Summed f n (but w v) (suc r) A x → Summed f n w r (A + 2 ^ v) y → Summed f n w (suc r) A (capped (x + w v * y))
  summed-split r x y a b = record { holds = λ S left z. at S left z (has S v) refl; sum = total }
    where
      at : (S left : ℕ) → Reached n w n (suc r) A S left → (b : Bool) → has S v ≡ b → (f S).got ≡ none
      at S left z true e = b.holds S left (reached-with n w v A listed fits outside z e)
      at S left z false e = a.holds S left (reached-without n w v z e)

      total : capped (x + w v * y) ≡ capped (over trials w n (suc r) A)
      total =
          ap₂ (λ (p q : ℕ). capped (p + w v * q)) a.sum b.sum
          ∙ capped_left (over trials (but w v) n (suc r) A) (w v * capped (over trials w n r (A + 2 ^ v)))
          ∙ sym (capped-right (over trials (but w v) n (suc r) A) (w v * capped (over trials w n r (A + 2 ^ v))))
          ∙ ap (λ (p : ℕ). capped (over trials (but w v) n (suc r) A + p)) (capped-times (w v) (over trials w n r (A + 2 ^ v)))
          ∙ capped-right (over trials (but w v) n (suc r) A) (w v * over trials w n r (A + 2 ^ v))
          ∙ ap capped (sym (over-split trials w n v n r A listed (le_refl n) fits outside))

  -- v cannot be away: nobody may join, or v does not
  pub summed-full : (x : ℕ) → Summed f n (but w v) 0 A x → Summed f n w 0 A x
  summed-full x a =
      record {
        holds = λ S left z. a.holds S left (reached-without n w v z (reached-full n w v A listed fits outside z));
        sum = a.sum ∙ ap capped (over-nobody trials (but w v) n A ∙ sym (over-nobody trials w n A));
      }

  pub summed-never : (r x : ℕ) → w v ≡ 0 → Summed f n (but w v) r A x → Summed f n w r A x
  summed-never r x e a =
      record {
        holds = λ S left z. a.holds S left (reached-without n w v z (reached-never n w v z outside e));
        sum = a.sum ∙ ap capped (sym (over-never trials w n r A v e));
      }

-- ---- person after person

-- what a loop over people holds: `sum` is told already, and what is still to come counts `scale` times
pub record Summing {B : Type 0} (f : ℕ → Search B) (n : ℕ) (w : ℕ → ℕ) (r₀ A₀ r A sum scale : ℕ) : Type 0 where
  pub told : sum ≤ most
  pub scaled : scale ≤ most
  pub rest : (y : ℕ) → Summed f n w r A y → Summed f n w r₀ A₀ (capped (sum + scale * y))

module _ {B : Type 0} (f : ℕ → Search B) (n : ℕ) (w : ℕ → ℕ) where
  same_sum : {r A x y : ℕ} → x ≡ y → Summed f n w r A x → Summed f n w r A y
  same_sum e s = record { holds = s.holds; sum = sym e ∙ s.sum }

  pub summing_start : (r A : ℕ) → Summing f n w r A r A 0 1
  summing_start r A = record { told = omega arith; scaled = omega arith; rest = λ y s. same_sum (at y s.sum) s }
    where
      at : (y : ℕ) → y ≡ capped (over (λ S left. (f S).trials) w n r A) → y ≡ capped (0 + 1 * y)
      at y e = omega (arith, e, capped_le (over (λ S left. (f S).trials) w n r A))

  module _ {r₀ A₀ A sum scale : ℕ} (v x : ℕ) (listed : v < n) (fits : A < 2 ^ n) (outside : has A v ≡ false) where
    -- v may be away: on to the sets with v
    pub summing-next : {r : ℕ} → Summing f n w r₀ A₀ (suc r) A sum scale → Summed f n (but w v) (suc r) A x
        → Summing f n w r₀ A₀ r (A + 2 ^ v) (capped (sum + capped (scale * x))) (capped (scale * w v))
    summing-next {r} s a =
        record {
          told = capped_le (sum + capped (scale * x));
          scaled = capped_le (scale * w v);
          rest = λ y b. same_sum (sym (capped-next sum scale x (w v) y)) (s.rest (capped (x + w v * y)) (summed-split f n w v A listed fits outside r x y a b));
        }

    -- v cannot be away: that is all
    pub summing-full : Summing f n w r₀ A₀ 0 A sum scale → Summed f n (but w v) 0 A x → Summed f n w r₀ A₀ (capped (sum + capped (scale * x)))
    summing-full s a = same_sum (sym (capped-right sum (scale * x))) (s.rest x (summed-full f n w v A listed fits outside x a))

    pub summing-never : {r : ℕ} → w v ≡ 0 → Summing f n w r₀ A₀ r A sum scale → Summed f n (but w v) r A x → Summed f n w r₀ A₀ (capped (sum + capped (scale * x)))
    summing-never {r} e s a = same_sum (sym (capped-right sum (scale * x))) (s.rest x (summed-never f n w v A listed fits outside r x e a))

-- ---- a turn of the desk that the first who fits holds

-- the people of M who are present, counted
over-missing : (w : ℕ → ℕ) (n r A M k : ℕ) → A < 2 ^ n → ((u : ℕ) → u < k → has M u ≡ true → (u < n) × (has A u ≡ false))
    → over (λ S left. count (λ u. has M u && not (has S u)) k) w n r A ≡ how_many_miss w n r A M k
unfolding count how_many_miss
over-missing w n r A M zero l h = over_nothing w n r A
over-missing w n r A M (suc k) l h =
    over-plus (λ S left. bit (has M k && not (has S k))) (λ S left. count (λ u. has M u && not (has S u)) k) w n r A
    ∙ ap₂ ◌+◌ (at (has M k) refl) (over-missing w n r A M k l (λ u b. h u (omega arith)))
    ∙ add_comm (pick (has M k) (how_many (but w k) n r A) 0) (how_many_miss w n r A M k)
  where
    at : (b : Bool) → has M k ≡ b → over (λ S left. bit (b && not (has S k))) w n r A ≡ pick b (how_many (but w k) n r A) 0
    at true e = let o = h k (le_refl (suc k)) e in over-present w n k n r A o.0 (le_refl n) l o.1
    at false e = over_nothing w n r A

-- each of M who is present and before v costs a trial, and so does v, who leads on to what is judged next
module _ {B C : Type 0} (f : ℕ → Search B) (next : ℕ → Search C) (n : ℕ) (w : ℕ → ℕ) (r A M v : ℕ) (fits : A < 2 ^ n)
    (known : (u : ℕ) → u < v → has M u ≡ true → (u < n) × (has A u ≡ false))
    (first : (S left : ℕ) → Reached n w n r A S left → (next S).got ≡ none
    → f S ≡ record { got = none; trials = suc (count (λ u. has M u && not (has S u)) v) + (next S).trials }) where
  pub summed-first : (here more : ℕ) → here ≡ capped (how_many w n r A + how_many_miss w n r A M v) → Summed next n w r A more → Summed f n w r A (capped (here + more))
  summed-first here more e s = record { holds = λ S left z. ap (λ (o : Search B). o.got) (first S left z (s.holds S left z)); sum = total }
    where
      before : ℕ → ℕ
      before S = count (λ u. has M u && not (has S u)) v

      later : ℕ
      later = over (λ S left. (next S).trials) w n r A

      one : (a b : ℕ) → suc a + b ≡ 1 + a + b
      one a b = omega arith

      whole : over (λ S left. (f S).trials) w n r A ≡ how_many w n r A + how_many_miss w n r A M v + later
      whole =
          over-cong n (λ S left. (f S).trials) (λ S left. 1 + before S + (next S).trials) w n r A (le_refl n) fits
          (λ S left z. ap (λ (o : Search B). o.trials) (first S left z (s.holds S left z)) ∙ one (before S) (next S).trials)
          ∙ over-plus (λ S left. 1 + before S) (λ S left. (next S).trials) w n r A
          ∙ ap (λ (x : ℕ). x + later) (over-plus (λ S left. 1) (λ S left. before S) w n r A ∙ ap (λ (x : ℕ). how_many w n r A + x) (over-missing w n r A M v fits known))

      total : capped (here + more) ≡ capped (over (λ S left. (f S).trials) w n r A)
      total = ap₂ (λ (x y : ℕ). capped (x + y)) e s.sum ∙ capped-plus (how_many w n r A + how_many_miss w n r A M v) later ∙ ap capped (sym whole)

-- ---- more may go before each later step

module _ (n : ℕ) (w : ℕ → ℕ) (r A : ℕ) where
  -- a set that has grown again
  reached-grown : {S left : ℕ} (T : ℕ) → Reached n w n r A S left → T ∈ sets n (r + size n A) S → Reached n (λ u. w u + 1) n r A T (r + size n A - size n T)
  reached-grown {S} T z m =
      let k = sets-in n (r + size n A) S T m in
      record {
        fits = k.0;
        holds = λ u e. let h = z.holds u e in within-mem n S T k.1 u (has-lt n S u z.fits h) h;
        joins = λ u p q. (has-lt n T u k.0 q, omega arith);
        many = omega (arith, k.2);
      }

  pub summed-grown : {B : Type 0} (g : ℕ → Search B) (x : ℕ) → A < 2 ^ n → Summed g n (λ u. w u + 1) r A x → Summed (λ S. seek g (sets n (r + size n A) S)) n w r A x
  summed-grown {B} g x l s =
      record {
        holds = λ S left z. ap (λ (o : Search B). o.got) (found S left z);
        sum = s.sum ∙ ap capped (sym (
            over-cong n (λ S left. (seek g (sets n (r + size n A) S)).trials) (λ S left. over (λ T more. (g T).trials) (λ u. 1) n left S) w n r A (le_refl n) l
            (λ S left z. ap (λ (o : Search B). o.trials) (found S left z) ∙ ap (λ (y : ℕ). over (λ T more. (g T).trials) (λ u. 1) n y S) (room S left z))
            ∙ over-again (λ T more. (g T).trials) w n n r A (le_refl n) l));
      }
    where
      room : (S left : ℕ) → Reached n w n r A S left → r + size n A - size n S ≡ left
      room S left z = omega (arith, z.many)

      found : (S left : ℕ) → Reached n w n r A S left
          → seek g (sets n (r + size n A) S) ≡ record { got = none; trials = over (λ T more. (g T).trials) (λ u. 1) n (r + size n A - size n S) S }
      found S left z =
          seek-over g n (r + size n A) S z.fits (omega (arith, z.many)) (λ T m. s.holds T (r + size n A - size n T) (reached-grown T z m))

-- ---- one set alone

over-alone : (f : ℕ → ℕ → ℕ) (m r A : ℕ) → over f (λ u. 0) m r A ≡ f A r
unfolding over
over-alone f zero r A = refl
over-alone f (suc m) zero A = over-alone f m zero A
over-alone f (suc m) (suc r) A = ap₂ ◌+◌ (over-alone f m (suc r) A) (at (has A m)) ∙ add-zero (f A (suc r))
  where
    at : (b : Bool) → pick b 0 (0 * over f (λ u. 0) m r (A + 2 ^ m)) ≡ 0
    at true = refl
    at false = zero-mul (over f (λ u. 0) m r (A + 2 ^ m))

-- a turn of the away side from A, up to r more: what is summed over its sets
pub summed-seek : {B : Type 0} (g : ℕ → Search B) (n r A x : ℕ) → A < 2 ^ n → Summed g n (λ u. 1) r A x → Comes (seek g (sets n (r + size n A) A)) x
summed-seek g n r A x l s =
    let z = summed-grown n (λ u. 0) r A g x l (summed-weights {v = λ u. 1} {w = λ u. 0 + 1} (λ u b. omega arith) s) in
    (z.holds A r (reached-here n (λ u. 0) n r A l), z.sum ∙ ap capped (over-alone (λ S left. (seek g (sets n (r + size n A) S)).trials) n r A))
