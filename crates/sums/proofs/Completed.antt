-- Sums in parts: a search that comes to the same for every set, and the sets that people join one after the other.
use mathlib.Core.Path.{◌≡◌, refl, sym, ap, ◌∙◌}
use mathlib.Core.Bool.{Bool, true, false}
use mathlib.Core.Option.{none}
use Prim.Native.Nat.{ℕ, suc, ◌+◌, ◌*◌, ◌^◌, ◌≤◌, ◌<◌}
use native.Mathlib.Nat.{mul-one, one-mul, le_refl}
use native.Mathlib.Decide.{ℕ_discrete}
use native.Mathlib.Omega.{arith}
use Rattle.sets.specs.Sets.{has}
use Rattle.games.specs.Walks.{Search}
use Rattle.sums.specs.Sums.{over, but, Reached, how_many, most, capped, Summed}
use Rattle.sums.proofs.Caps.{capped-times}
use Rattle.sums.proofs.Sums.{over-cong, over-times}
use Rattle.sums.proofs.Splits.{but-self, but-other}
use Rattle.sums.proofs.Summed.{summed-weights, summed-split}

-- ---- the same for every set

-- c trials for each of m sets
pub summed-alike : {B : Type 0} (f : ℕ → Search B) (n : ℕ) (w : ℕ → ℕ) (r A c m x : ℕ) → A < 2 ^ n → (f A).got ≡ none → (f A).trials ≡ c
    → ((S left : ℕ) → Reached n w n r A S left → f S ≡ f A) → m ≡ capped (how_many w n r A) → x ≡ capped (c * m) → Summed f n w r A x
summed-alike {B} f n w r A c m x l g t h e q =
    record {
      holds = λ S left z. ap (λ (o : Search B). o.got) (h S left z) ∙ g;
      sum = q ∙ ap (λ (y : ℕ). capped (c * y)) e ∙ capped-times c (how_many w n r A) ∙ ap capped (sym whole);
    }
  where
    whole : over (λ S left. (f S).trials) w n r A ≡ c * how_many w n r A
    whole =
        over-cong n (λ S left. (f S).trials) (λ S left. c * 1) w n r A (le_refl n) l
        (λ S left z. ap (λ (o : Search B). o.trials) (h S left z) ∙ t ∙ sym (mul-one c))
        ∙ over-times c (λ S left. 1) w n r A

-- everybody of M who is not there has no weight: each set holds the same people of M
pub reached-apart : {n : ℕ} {w : ℕ → ℕ} {m r A S left : ℕ} (M : ℕ) → ((u : ℕ) → u < m → has M u ≡ true → has A u ≡ false → w u ≡ 0)
    → Reached n w m r A S left → (u : ℕ) → has M u ≡ true → has A u ≡ has S u
reached-apart {A = A} {S = S} M h z u k = at (has A u) refl (has S u) refl
  where
    at : (a : Bool) → has A u ≡ a → (b : Bool) → has S u ≡ b → has A u ≡ has S u
    at true p b q = p ∙ sym (z.holds u p)
    at false p true q = absurd (let j = z.joins u p q in omega (arith, j.1, h u j.0 k p))
    at false p false q = p ∙ sym q

-- ---- one person after the other

-- what a loop over people holds: `sum` is told already, of the sets that somebody who is done joins; whoever is done stays in all that is still to come
pub record Completing {B : Type 0} (f : ℕ → Search B) (n : ℕ) (w₀ : ℕ → ℕ) (r A : ℕ) (w : ℕ → ℕ) (sum : ℕ) : Type 0 where
  pub told : sum ≤ most
  pub rest : (y : ℕ) → Summed f n w r A y → Summed f n w₀ r A (capped (sum + y))

pub completing-start : {B : Type 0} (f : ℕ → Search B) (n : ℕ) (w : ℕ → ℕ) (r A : ℕ) → Completing f n w r A w 0
completing-start f n w r A =
    record {
      told = omega arith;
      rest = λ y s. let e : capped (0 + y) ≡ y = omega (arith, s.sum) in record { holds = s.holds; sum = e ∙ s.sum };
    }

module _ {B : Type 0} {f : ℕ → Search B} {n : ℕ} {w₀ : ℕ → ℕ} {A : ℕ} {w : ℕ → ℕ} {sum : ℕ} where
  -- the sets that v joins are summed: on to those without v
  pub completing-next : {r : ℕ} (v more sum' : ℕ) → v < n → A < 2 ^ n → has A v ≡ false → w v ≡ 1 → Completing f n w₀ (suc r) A w sum
      → Summed f n w r (A + 2 ^ v) more → sum' ≡ capped (sum + more) → Completing f n w₀ (suc r) A (but w v) sum'
  completing-next {r} v more sum' l k e i c s q = record { told = omega (arith, q); rest = at }
    where
      once : w v * more ≡ more
      once = ap (λ (x : ℕ). x * more) i ∙ one-mul more

      at : (y : ℕ) → Summed f n (but w v) (suc r) A y → Summed f n w₀ (suc r) A (capped (sum' + y))
      at y a =
          let z = c.rest (capped (y + w v * more)) (summed-split f n w v A l k e r y more a s) in
          let same : capped (sum' + y) ≡ capped (sum + capped (y + w v * more)) = omega (arith, q, once) in
          record { holds = z.holds; sum = same ∙ z.sum }

  -- v has no weight
  pub completing-never : {r : ℕ} (v : ℕ) → w v ≡ 0 → Completing f n w₀ r A w sum → Completing f n w₀ r A (but w v) sum
  completing-never v e c = record { told = c.told; rest = λ y s. c.rest y (summed-weights (λ u l. at u (ℕ_discrete u v)) s) }
    where
      at : (u : ℕ) → Dec (u ≡ v) → but w v u ≡ w u
      at u (yes d) = ap (but w v) d ∙ but-self w v ∙ sym e ∙ ap w (sym d)
      at u (no d) = but-other w v u d

  pub completing-end : {r : ℕ} (x y : ℕ) → Completing f n w₀ r A w sum → Summed f n w r A y → x ≡ capped (sum + y) → Summed f n w₀ r A x
  completing-end x y c s q = let z = c.rest y s in record { holds = z.holds; sum = q ∙ z.sum }
