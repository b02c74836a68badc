-- "Limit" exactly if the walk needs more trials than allowed, with the limit as count; otherwise the count is the walk's trials. A higher limit
-- never alters a finished answer.
use mathlib.Core.Path.{◌≡◌, refl, sym, ap, ◌∙◌}
use mathlib.Core.Logic.{◌↔◌}
use mathlib.Core.Bool.{Bool, true, false}
use Prim.Native.Nat.{ℕ, ◌≤◌, ◌<◌}
use native.Mathlib.Nat.{le_trans}
use native.Mathlib.Omega.{arith}
use borrow.Author.Tests.{leb-true, leb-false, le-leb, lt-leb}
use lib.Dec.{leb}
use Rattle.sets.specs.Lists.{pick}
use Rattle.games.specs.Walks.{Walk}
use Rattle.games.specs.Limit.{limit, ended, Answer, stopped, whole, cut}

module _ {B : Type 0} where
  pub limit-ended : (b : B) → limit ≡ ended b → ⊥
  limit-ended b e = let z : ◌≡◌ {A = ℕ} 0 1 = cc in omega arith

  -- within the limit nothing is lost
  pub cut-within : (l : ℕ) (w : Walk B) → w.trials ≤ l → cut l w ≡ whole w
  unfolding cut
  cut-within l w h = ap (λ (b : Bool). pick b (whole w) (stopped l)) (le-leb w.trials l h)

  -- past it nothing is shown
  pub cut-past : (l : ℕ) (w : Walk B) → l < w.trials → cut l w ≡ stopped l
  unfolding cut
  cut-past l w h = ap (λ (b : Bool). pick b (whole w) (stopped l)) (lt-leb w.trials l h)

  -- "limit" exactly if the walk needs more trials
  pub cut-limit : (l : ℕ) (w : Walk B) → ((cut l w).out ≡ limit) ↔ (l < w.trials)
  unfolding cut
  cut-limit l w = (λ e. go (leb w.trials l) refl e, λ h. ap (λ (a : Answer B). a.out) (cut-past l w h))
    where
      go : (b : Bool) → leb w.trials l ≡ b → (pick b (whole w) (stopped l)).out ≡ limit → l < w.trials
      go true q e = absurd (limit-ended w.got (sym e))
      go false q e = leb-false w.trials l q

  -- and then the count is the limit
  pub cut-count : (l : ℕ) (w : Walk B) → (cut l w).out ≡ limit → cut l w ≡ stopped l
  cut-count l w e = cut-past l w ((cut-limit l w).0 e)

  -- a finished answer is the walk's, which needs no more than the limit
  pub cut-ended : (l : ℕ) (w : Walk B) (b : B) → ((cut l w).out ≡ ended b) ↔ ((w.trials ≤ l) × (w.got ≡ b))
  unfolding cut
  cut-ended l w b = (λ e. go (leb w.trials l) refl e, λ h. ap (λ (a : Answer B). a.out) (cut-within l w h.0) ∙ ap ended h.1)
    where
      go : (c : Bool) → leb w.trials l ≡ c → (pick c (whole w) (stopped l)).out ≡ ended b → (w.trials ≤ l) × (w.got ≡ b)
      go true q e = (leb-true w.trials l q, cc)
      go false q e = absurd (limit-ended b e)

  -- and then the count is the walk's trials
  pub cut-trials : (l : ℕ) (w : Walk B) (b : B) → (cut l w).out ≡ ended b → (cut l w).count ≡ w.trials
  cut-trials l w b e = ap (λ (a : Answer B). a.count) (cut-within l w ((cut-ended l w b).0 e).0)

  -- a higher limit never alters a finished answer
  pub cut-higher : (l m : ℕ) (w : Walk B) (b : B) → l ≤ m → (cut l w).out ≡ ended b → cut m w ≡ cut l w
  cut-higher l m w b h e =
      let k = (cut-ended l w b).0 e in
      cut-within m w (le_trans k.0 h) ∙ sym (cut-within l w k.0)
