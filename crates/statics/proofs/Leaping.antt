-- A leap of the loop over the sets of at most t people: from set s, who has nobody below h, over all sets with people below h besides.
use mathlib.Core.Path.{◌≡◌, sym, ap, ◌∙◌}
use mathlib.Core.Option.{none}
use mathlib.Core.List.{List, [], ◌∷◌, ◌++◌, append_assoc, append-nil}
use Prim.Native.Nat.{ℕ, ◌+◌, ◌-◌, ◌*◌, ◌^◌, ◌≤◌, ◌<◌}
use native.Mathlib.Decide.{dec_lt}
use native.Mathlib.Omega.{arith}
use Rattle.sets.specs.Lists.{◌∈◌}
use Rattle.sets.specs.Sets.{size}
use Rattle.games.specs.Walks.{Search, plus, seek}
use Rattle.games.specs.Limit.{stopped, whole, cut}
use Rattle.games.proofs.Cuts.{plus-plus, ends, stops}
use Rattle.sums.specs.Sums.{over, only_below, capped, Summed}
use Rattle.sums.proofs.Jumps.{block, sets-jump, sets-jump-end, seek-jump, jump-reached, over_below}
use Rattle.tries.proofs.Sweeps.{Sweep, sweep-known}

module _ {f : ℕ → Search ℕ} {total : Search ℕ} {n t limit s used : ℕ} (w : Sweep f total n t 0 limit s used) (h q x : ℕ) (few : h ≤ n) (apart : s ≡ q * 2 ^ h)
    (z : Summed f n (only_below h) (t - size n s) s x) where
  abbrev leapt : List ℕ
  leapt = block h (t - size n s) s

  -- the trials of all these sets
  abbrev spent : ℕ
  spent = over (λ S left. (f S).trials) (λ u. 1) h (t - size n s) s

  told : x ≡ capped spent
  told = z.sum ∙ ap capped (over_below (λ S left. (f S).trials) n h (t - size n s) s few)

  none_found : (S : ℕ) → S ∈ leapt → (f S).got ≡ none
  none_found S m = let r = jump-reached n h (t - size n s) s q S few apart (sweep-known w) m in z.holds S r.0 r.1

  behind-them : (ys : List ℕ) → s ∷ w.behind ≡ leapt ++ ys → total ≡ plus (used + spent) (seek f ys)
  behind-them ys e = w.rest ∙ ap (λ (l : List ℕ). plus used (seek f l)) e ∙ ap (plus used) (seek-jump f h (t - size n s) s q ys apart none_found) ∙ plus-plus used spent (seek f ys)

  -- what follows them
  abbrev onward : s + 2 ^ h < 2 ^ n → size n s < t → (later : List ℕ) × (s ∷ w.behind ≡ leapt ++ ((s + 2 ^ h) ∷ later))
  onward l g = sets-jump n t s h q few apart w.passed w.behind w.split l g

  abbrev nothing-on : 2 ^ n ≤ s + 2 ^ h → s ∷ w.behind ≡ leapt ++ []
  nothing-on l = sets-jump-end n t s h q few apart w.passed w.behind w.split l ∙ sym (append-nil leapt)

  -- they take more trials than there are
  pub leap-limit : size n s < t → limit < used + x → stopped limit ≡ cut limit total
  leap-limit g l = at (dec_lt (s + 2 ^ h) (2 ^ n))
    where
      over-it : (ys : List ℕ) → s ∷ w.behind ≡ leapt ++ ys → stopped limit ≡ cut limit total
      over-it ys e = stops limit (used + spent) total (seek f ys) (behind-them ys e) (omega (arith, told))

      at : Dec (s + 2 ^ h < 2 ^ n) → stopped limit ≡ cut limit total
      at (yes k) = let o = onward k g in over-it _ o.1
      at (no k) = over-it [] (nothing-on (omega arith))

  module _ (small : limit < 2 ^ 32) (enough : used + x ≤ limit) where
    exactly : spent ≡ x
    exactly = omega (arith, told)

    -- on to the set after them
    pub leap-on : s + 2 ^ h < 2 ^ n → size n s < t → Sweep f total n t 0 limit (s + 2 ^ h) (used + x)
    leap-on l g =
        let o = onward l g in
        record {
          enough = enough;
          passed = w.passed ++ leapt;
          behind = o.0;
          split = w.split ∙ ap (λ (y : List ℕ). w.passed ++ y) o.1 ∙ sym (append_assoc w.passed leapt ((s + 2 ^ h) ∷ o.0));
          rest = behind-them _ o.1 ∙ ap (λ (k : ℕ). plus (used + k) (seek f ((s + 2 ^ h) ∷ o.0))) exactly;
        }

    -- they are the last
    pub leap-end : 2 ^ n ≤ s + 2 ^ h → whole (record { got = none; trials = used + x }) ≡ cut limit total
    unfolding plus seek
    leap-end l =
        let k : used + spent + 0 ≡ used + x = omega (arith, exactly) in
        ends limit total none (used + x) (behind-them [] (nothing-on l) ∙ ap (λ (y : ℕ). record { got = none; trials = y }) k) enough
