-- Sets that grow twice.
use mathlib.Core.Path.{◌≡◌, refl, sym, ap, ap₂, ◌∙◌}
use mathlib.Core.Bool.{Bool, true, false}
use Prim.Native.Nat.{ℕ, zero, suc, ◌+◌, ◌*◌, ◌^◌, ◌≤◌, ◌<◌}
use native.Mathlib.Nat.{add-zero, add_right_comm, mul-zero, add-mul, one-mul, le_refl}
use native.Mathlib.Omega.{arith}
use Rattle.sets.specs.Lists.{pick}
use Rattle.sets.specs.Sets.{has}
use Rattle.sets.proofs.Bits.{joined-low}
use Rattle.sums.specs.Sums.{over, Reached}
use Rattle.sums.proofs.Joins.{joined-self, joined-lt}
use Rattle.sums.proofs.Sums.{over-nobody, over-there, over-joins, over-cong, over-plus}

-- ---- a place is taken, or a person is there from the first

-- h with one place fewer, nothing where there is none
abbrev pub fewer : (ℕ → ℕ → ℕ) → ℕ → ℕ → ℕ
fewer h S zero = 0
fewer h S (suc left) = h S left

pub over-fewer : (h : ℕ → ℕ → ℕ) (w : ℕ → ℕ) (m r A : ℕ) → over (fewer h) w m (suc r) A ≡ over h w m r A
unfolding over
over-fewer h w zero r A = refl
over-fewer h w (suc m) zero A = ap₂ ◌+◌ (over-fewer h w m zero A) (at (has A m) (over-nobody (fewer h) w m (A + 2 ^ m))) ∙ add-zero (over h w m zero A)
  where
    at : (b : Bool) → over (fewer h) w m 0 (A + 2 ^ m) ≡ 0 → pick b 0 (w m * over (fewer h) w m 0 (A + 2 ^ m)) ≡ 0
    at true e = refl
    at false e = ap (λ (x : ℕ). w m * x) e ∙ mul-zero (w m)
over-fewer h w (suc m) (suc r) A = ap₂ (λ (x y : ℕ). x + pick (has A m) 0 (w m * y)) (over-fewer h w m (suc r) A) (over-fewer h w m r (A + 2 ^ m))

-- somebody above those who may join
pub over-moved : (g : ℕ → ℕ → ℕ) (w : ℕ → ℕ) (v m r A : ℕ) → m ≤ v → over (λ S left. g (S + 2 ^ v) left) w m r A ≡ over g w m r (A + 2 ^ v)
unfolding over
over-moved g w v zero r A l = refl
over-moved g w v (suc m) zero A l = over-moved g w v m zero A (omega arith)
over-moved g w v (suc m) (suc r) A l =
    ap₂ (λ (x y : ℕ). x + pick (has A m) 0 (w m * y)) (over-moved g w v m (suc r) A (omega arith))
    (over-moved g w v m r (A + 2 ^ m) (omega arith) ∙ ap (over g w m r) (add_right_comm A (2 ^ m) (2 ^ v)))
    ∙ ap (λ (b : Bool). over g w m (suc r) (A + 2 ^ v) + pick b 0 (w m * over g w m r (A + 2 ^ v + 2 ^ m))) (sym (joined-low v A m l))

-- ---- twice

-- a set is reached from each set in between: from A first by weights w, then by anybody
module _ (f : ℕ → ℕ → ℕ) (w : ℕ → ℕ) (n : ℕ) where
  abbrev again : ℕ → ℕ → ℕ → ℕ
  again m S left = over f (λ u. 1) m left S

  abbrev raised : ℕ → ℕ
  raised u = w u + 1

  -- person m may come in between, or not
  again-there : (m S left : ℕ) → has S m ≡ true → again (suc m) S left ≡ again m S left
  again-there m S left e = over-there f (λ u. 1) m left S e

  again-joins : (m S left : ℕ) → has S m ≡ false → again (suc m) S left ≡ again m S left + fewer (λ B. again m (B + 2 ^ m)) S left
  unfolding over
  again-joins m S zero e = sym (add-zero (again m S 0))
  again-joins m S (suc left) e = over-joins f (λ u. 1) m left S e ∙ ap (λ (x : ℕ). again m S (suc left) + x) (one-mul (again m (S + 2 ^ m) left))

  pub over-again : (m r A : ℕ) → m ≤ n → A < 2 ^ n → over (again m) w m r A ≡ over f raised m r A
  over-again zero r A l k = unfold over in refl
  over-again (suc m) zero A l k = over-nobody (again (suc m)) w (suc m) A ∙ over-nobody f (λ u. 1) (suc m) A ∙ sym (over-nobody f raised (suc m) A)
  over-again (suc m) (suc r) A l k = at (has A m) refl (λ s B. over-again m s B (omega arith))
    where
      -- m is in each set that is reached
      kept : (s B : ℕ) → B < 2 ^ n → has B m ≡ true → over (again (suc m)) w m s B ≡ over (again m) w m s B
      kept s B h e = over-cong n (again (suc m)) (again m) w m s B (omega arith) h (λ S left z. again-there m S left (z.holds m e))

      at : (b : Bool) → has A m ≡ b → ((s B : ℕ) → B < 2 ^ n → over (again m) w m s B ≡ over f raised m s B)
          → over (again (suc m)) w (suc m) (suc r) A ≡ over f raised (suc m) (suc r) A
      at true e low = over-there (again (suc m)) w m (suc r) A e ∙ kept (suc r) A k e ∙ low (suc r) A k ∙ sym (over-there f raised m (suc r) A e)
      at false e low =
          omega (
            arith,
            over-joins (again (suc m)) w m r A e,
            over-cong n (again (suc m)) (λ S left. again m S left + fewer (λ B. again m (B + 2 ^ m)) S left) w m (suc r) A (omega arith) k
                (λ S left z. again-joins m S left (outside S left z (has S m) refl))
                ∙ over-plus (again m) (fewer (λ B. again m (B + 2 ^ m))) w m (suc r) A
                ∙ ap₂ ◌+◌ (low (suc r) A k) (over-fewer (λ B. again m (B + 2 ^ m)) w m r A ∙ over-moved (again m) w m m r A (le_refl m) ∙ low r (A + 2 ^ m) joined),
            ap (λ (x : ℕ). w m * x) (kept r (A + 2 ^ m) joined (joined-self n m A l k e) ∙ low r (A + 2 ^ m) joined),
            over-joins f raised m r A e,
            add-mul (w m) 1 (over f raised m r (A + 2 ^ m)),
          )
        where
          joined : A + 2 ^ m < 2 ^ n
          joined = joined-lt n m A l k e

          outside : (S left : ℕ) → Reached n w m (suc r) A S left → (b : Bool) → has S m ≡ b → has S m ≡ false
          outside S left z true q = absurd (let j = (z.joins m e q).0 in omega arith)
          outside S left z false q = q
