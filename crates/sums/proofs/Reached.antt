-- The sets that a sum goes over.
use mathlib.Core.Path.{◌≡◌, refl, sym, ap, ◌∙◌}
use mathlib.Core.Bool.{Bool, true, false, ◌||◌, true≢false}
use Prim.Native.Nat.{ℕ, suc, ◌+◌, ◌^◌, ◌<◌}
use native.Mathlib.Decide.{dec_lt}
use native.Mathlib.Omega.{arith}
use lib.Dec.{eqb}
use Rattle.sets.specs.Sets.{has}
use Rattle.sums.specs.Sums.{Reached}
use Rattle.sums.proofs.Joins.{joined-has, joined-other, joined-size}

module _ (n : ℕ) (w : ℕ → ℕ) where
  pub reached-here : (m r A : ℕ) → A < 2 ^ n → Reached n w m r A A r
  reached-here m r A l = record { fits = l; holds = λ u e. e; joins = λ u p q. absurd (true≢false (sym q ∙ p)); many = refl }

  -- with one person more to join
  pub reached-more : {m r A S left : ℕ} → Reached n w m r A S left → Reached n w (suc m) r A S left
  reached-more h = record { fits = h.fits; holds = h.holds; joins = λ u p q. (omega (arith, (h.joins u p q).0), (h.joins u p q).1); many = h.many }

  -- person v joined
  pub reached-joined : {m r A S left v : ℕ} → v < n → v < m → A < 2 ^ n → has A v ≡ false → 0 < w v → Reached n w m r (A + 2 ^ v) S left → Reached n w m (suc r) A S left
  reached-joined {m} {r} {A} {S} {left} {v} l k g e z h =
      record {
        fits = h.fits;
        holds = λ u p. h.holds u (joined-has n v A l g e u ∙ ap (λ (b : Bool). b || eqb u v) p);
        joins = λ u p q. at u p q (dec_lt u v) (dec_lt v u);
        many = omega (arith, h.many, joined-size n v A l g e);
      }
    where
      at : (u : ℕ) → has A u ≡ false → has S u ≡ true → Dec (u < v) → Dec (v < u) → (u < m) × (0 < w u)
      at u p q (yes a) b = h.joins u (joined-other n v A l g e u (λ d. omega arith) ∙ p) q
      at u p q (no a) (yes b) = h.joins u (joined-other n v A l g e u (λ d. omega arith) ∙ p) q
      at u p q (no a) (no b) = let same : v ≡ u = omega arith in (omega arith, rw same at z)
