-- The laws of sums over sets: one step of a sum, where two sums are equal, the sum of two and a multiple.
use mathlib.Core.Path.{◌≡◌, refl, sym, ap, ap₂, ◌∙◌}
use mathlib.Core.Bool.{Bool, true, false}
use Prim.Native.Nat.{ℕ, zero, suc, ◌+◌, ◌*◌, ◌^◌, ◌≤◌, ◌<◌}
use native.Mathlib.Nat.{add-zero, mul-add, mul_left_comm, mul-zero, zero-mul, le_refl}
use native.Mathlib.Omega.{arith}
use Rattle.sets.specs.Lists.{pick}
use Rattle.sets.specs.Sets.{has}
use Rattle.sets.proofs.Bits.{joined-low}
use Rattle.sums.specs.Sums.{over, Reached}
use Rattle.sums.proofs.Joins.{joined-lt}
use Rattle.sums.proofs.Reached.{reached-here, reached-more, reached-joined}

-- nobody may join
pub over-nobody : (f : ℕ → ℕ → ℕ) (w : ℕ → ℕ) (m A : ℕ) → over f w m 0 A ≡ f A 0
unfolding over
over-nobody f w zero A = refl
over-nobody f w (suc m) A = over-nobody f w m A

-- a person who is there already does not join
pub over-there : (f : ℕ → ℕ → ℕ) (w : ℕ → ℕ) (m r A : ℕ) → has A m ≡ true → over f w (suc m) r A ≡ over f w m r A
unfolding over
over-there f w m zero A e = refl
over-there f w m (suc r) A e = ap (λ (b : Bool). over f w m (suc r) A + pick b 0 (w m * over f w m r (A + 2 ^ m))) e ∙ add-zero (over f w m (suc r) A)

-- a person who is not there joins or does not
pub over-joins : (f : ℕ → ℕ → ℕ) (w : ℕ → ℕ) (m r A : ℕ) → has A m ≡ false → over f w (suc m) (suc r) A ≡ over f w m (suc r) A + w m * over f w m r (A + 2 ^ m)
unfolding over
over-joins f w m r A e = ap (λ (b : Bool). over f w m (suc r) A + pick b 0 (w m * over f w m r (A + 2 ^ m))) e

-- ---- where two sums are equal

-- weights count only of those who may join
pub over-weights : (f : ℕ → ℕ → ℕ) (v w : ℕ → ℕ) (m r A : ℕ) → ((u : ℕ) → u < m → has A u ≡ false → v u ≡ w u) → over f v m r A ≡ over f w m r A
unfolding over
over-weights f v w zero r A h = refl
over-weights f v w (suc m) zero A h = over-weights f v w m zero A (λ u l e. h u (omega arith) e)
over-weights f v w (suc m) (suc r) A h =
    ap₂ ◌+◌ (over-weights f v w m (suc r) A (λ u l e. h u (omega arith) e))
    (at (has A m) refl (over-weights f v w m r (A + 2 ^ m) (λ u l e. h u (omega arith) (sym (joined-low m A u l) ∙ e))))
  where
    at : (b : Bool) → has A m ≡ b → over f v m r (A + 2 ^ m) ≡ over f w m r (A + 2 ^ m)
        → pick b 0 (v m * over f v m r (A + 2 ^ m)) ≡ pick b 0 (w m * over f w m r (A + 2 ^ m))
    at true e q = refl
    at false e q = ap₂ ◌*◌ (h m (le_refl (suc m)) e) q

module _ (n : ℕ) (f g : ℕ → ℕ → ℕ) (w : ℕ → ℕ) where
  -- f and g need be equal at those sets alone
  pub over-cong : (m r A : ℕ) → m ≤ n → A < 2 ^ n → ((S left : ℕ) → Reached n w m r A S left → f S left ≡ g S left) → over f w m r A ≡ over g w m r A
  unfolding over
  over-cong zero r A l k h = h A r (reached-here n w 0 r A k)
  over-cong (suc m) zero A l k h = over-cong m zero A (omega arith) k (λ S left s. h S left (reached-more n w s))
  over-cong (suc m) (suc r) A l k h =
      ap₂ ◌+◌ (over-cong m (suc r) A (omega arith) k (λ S left s. h S left (reached-more n w s))) (at (has A m) refl (w m) refl (over-cong m r (A + 2 ^ m) (omega arith)))
    where
      at : (b : Bool) → has A m ≡ b → (x : ℕ) → w m ≡ x
          → (A + 2 ^ m < 2 ^ n → ((S left : ℕ) → Reached n w m r (A + 2 ^ m) S left → f S left ≡ g S left) → over f w m r (A + 2 ^ m) ≡ over g w m r (A + 2 ^ m))
          → pick b 0 (x * over f w m r (A + 2 ^ m)) ≡ pick b 0 (x * over g w m r (A + 2 ^ m))
      at true e x q rest = refl
      at false e zero q rest = zero-mul _ ∙ sym (zero-mul _)
      at false e (suc x) q rest =
          ap (λ (y : ℕ). suc x * y) (rest (joined-lt n m A l k e) (λ S left s. h S left (reached-joined n w l (le_refl (suc m)) k e (omega arith) (reached-more n w s))))

-- ---- the sum of two, and a multiple

pub over-plus : (f g : ℕ → ℕ → ℕ) (w : ℕ → ℕ) (m r A : ℕ) → over (λ S left. f S left + g S left) w m r A ≡ over f w m r A + over g w m r A
unfolding over
over-plus f g w zero r A = refl
over-plus f g w (suc m) zero A = over-plus f g w m zero A
over-plus f g w (suc m) (suc r) A = at (has A m) (over-plus f g w m (suc r) A) (over-plus f g w m r (A + 2 ^ m))
  where
    at : (b : Bool) → over (λ S left. f S left + g S left) w m (suc r) A ≡ over f w m (suc r) A + over g w m (suc r) A
        → over (λ S left. f S left + g S left) w m r (A + 2 ^ m) ≡ over f w m r (A + 2 ^ m) + over g w m r (A + 2 ^ m)
        → over (λ S left. f S left + g S left) w m (suc r) A + pick b 0 (w m * over (λ S left. f S left + g S left) w m r (A + 2 ^ m))
        ≡ over f w m (suc r) A + pick b 0 (w m * over f w m r (A + 2 ^ m)) + (over g w m (suc r) A + pick b 0 (w m * over g w m r (A + 2 ^ m)))
    at true p q = omega arith
    at false p q = omega (arith, p, ap (λ (x : ℕ). w m * x) q ∙ mul-add (w m) (over f w m r (A + 2 ^ m)) (over g w m r (A + 2 ^ m)))

pub over-times : (c : ℕ) (f : ℕ → ℕ → ℕ) (w : ℕ → ℕ) (m r A : ℕ) → over (λ S left. c * f S left) w m r A ≡ c * over f w m r A
unfolding over
over-times c f w zero r A = refl
over-times c f w (suc m) zero A = over-times c f w m zero A
over-times c f w (suc m) (suc r) A =
    ap₂ ◌+◌ (over-times c f w m (suc r) A) (at (has A m) (over-times c f w m r (A + 2 ^ m))) ∙ sym (mul-add c (over f w m (suc r) A) (pick (has A m) 0 (w m * over f w m r (A + 2 ^ m))))
  where
    at : (b : Bool) → over (λ S left. c * f S left) w m r (A + 2 ^ m) ≡ c * over f w m r (A + 2 ^ m)
        → pick b 0 (w m * over (λ S left. c * f S left) w m r (A + 2 ^ m)) ≡ c * pick b 0 (w m * over f w m r (A + 2 ^ m))
    at true e = sym (mul-zero c)
    at false e = ap (λ (x : ℕ). w m * x) e ∙ mul_left_comm (w m) c (over f w m r (A + 2 ^ m))

pub over_nothing : (w : ℕ → ℕ) (m r A : ℕ) → over (λ S left. 0) w m r A ≡ 0
over_nothing w m r A = over-times 0 (λ S left. 0) w m r A ∙ zero-mul (over (λ S left. 0) w m r A)
