-- A loop over the sets of at most t people that contain c, in ascending number: one law for each way through a turn.
use mathlib.Core.Path.{◌≡◌, refl, sym, ap, ap₂, ◌∙◌, subst}
use mathlib.Core.Option.{Option, none, some}
use mathlib.Core.List.{List, [], ◌∷◌, ◌++◌, append_assoc}
use mathlib.Core.Logic.{inl}
use Prim.Native.Nat.{ℕ, ◌+◌, ◌-◌, ◌≤◌, ◌<◌, ◌^◌}
use native.Mathlib.Omega.{arith}
use Rattle.sets.specs.Lists.{◌∈◌}
use Rattle.sets.specs.Sets.{size, sets, next_set}
use Rattle.sets.proofs.Lists.{mem-middle}
use Rattle.sets.proofs.Listed.{sets-in, sets_first, sets-on, sets_over, sets-apart}
use Rattle.games.specs.Walks.{Search, plus, or_else, seek}
use Rattle.games.specs.Limit.{stopped, whole, cut}
use Rattle.games.proofs.Cuts.{plus-plus, plus-zero, finished, over, ends, stops}

module _ {B : Type 0} where
  -- the first of a list gets something, or nothing
  seek-some : {A : Type 0} (f : A → Search B) (x : A) (xs : List A) (b : B) (k : ℕ) → (f x).got ≡ some b → (f x).trials ≡ k
      → seek f (x ∷ xs) ≡ record { got = some b; trials = k }
  unfolding seek or_else
  seek-some f x xs b k e n = ap₂ (λ o c. or_else o c (λ _. seek f xs)) e n

  seek-next : {A : Type 0} (f : A → Search B) (x : A) (xs : List A) (k : ℕ) → (f x).got ≡ none → (f x).trials ≡ k → seek f (x ∷ xs) ≡ plus k (seek f xs)
  unfolding seek or_else
  seek-next f x xs k e n = ap₂ (λ o c. or_else o c (λ _. seek f xs)) e n

  seek-least : {A : Type 0} (f : A → Search B) (x : A) (xs : List A) → (f x).trials ≤ (seek f (x ∷ xs)).trials
  unfolding seek or_else plus
  seek-least f x xs = at (f x).got (f x).trials
    where
      at : (o : Option B) (c : ℕ) → c ≤ (or_else o c (λ _. seek f xs)).trials
      at (some b) c = omega arith
      at none c = omega arith

-- What the loop holds when set s is to be tried: `used` trials are used, and s stands where the walk has come to.
pub record Sweep (f : ℕ → Search ℕ) (total : Search ℕ) (n t c limit s used : ℕ) : Type 0 where
  pub enough : used ≤ limit
  pub passed : List ℕ
  pub behind : List ℕ
  pub split : sets n t c ≡ passed ++ (s ∷ behind)
  pub rest : total ≡ plus used (seek f (s ∷ behind))

-- c itself comes first
unfoldable pub sweep-start : (f : ℕ → Search ℕ) (total : Search ℕ) (n t c limit : ℕ) → c < 2 ^ n → size n c ≤ t → total ≡ seek f (sets n t c) → Sweep f total n t c limit c 0
sweep-start f total n t c limit l h e =
    let k = sets_first n t c l h in
    record { enough = omega arith; passed = []; behind = k.0; split = k.1; rest = e ∙ ap (seek f) k.1 ∙ sym (plus-zero (seek f (c ∷ k.0))) }

module _ {f : ℕ → Search ℕ} {total : Search ℕ} {n t c limit s used : ℕ} (w : Sweep f total n t c limit s used) where
  -- it is one of the sets
  pub sweep-known : s < 2 ^ n
  sweep-known = (sets-in n t c s (subst (λ l. s ∈ l) (sym w.split) (mem-middle w.passed s w.behind))).0

  pub sweep-few : size n s ≤ t
  sweep-few = (sets-in n t c s (subst (λ l. s ∈ l) (sym w.split) (mem-middle w.passed s w.behind))).2

  -- its turn stops at the limit
  pub sweep-limit : stopped (limit - used) ≡ cut (limit - used) (f s) → stopped limit ≡ cut limit total
  sweep-limit e =
      stops limit used total (seek f (s ∷ w.behind)) w.rest
      (omega (arith, over (limit - used) (f s) e, w.enough, seek-least f s w.behind))

  pub sweep-beats : (b k : ℕ) → whole (record { got = some b; trials = k }) ≡ cut (limit - used) (f s) → used + k ≤ limit
  sweep-beats b k e = let d = finished (limit - used) (f s) (some b) k e in omega (arith, d.within, w.enough)

  -- it beats the desk
  pub sweep-beaten : (b k : ℕ) → whole (record { got = some b; trials = k }) ≡ cut (limit - used) (f s) → whole (record { got = some b; trials = used + k }) ≡ cut limit total
  unfolding plus
  sweep-beaten b k e =
      let d = finished (limit - used) (f s) (some b) k e in
      ends limit total (some b) (used + k) (w.rest ∙ ap (plus used) (seek-some f s w.behind b k d.got d.trials)) (omega (arith, d.within, w.enough))

  module _ (k : ℕ) (e : whole (record { got = none; trials = k }) ≡ cut (limit - used) (f s)) where
    pub sweep-within : used + k ≤ limit
    sweep-within = let d = finished (limit - used) (f s) none k e in omega (arith, d.within, w.enough)

    pub held : total ≡ plus (used + k) (seek f w.behind)
    held =
        let d = finished (limit - used) (f s) none k e in
        w.rest ∙ ap (plus used) (seek-next f s w.behind k d.got d.trials) ∙ plus-plus used k (seek f w.behind)

    -- it does not, and was the last
    pub sweep-end : none ≡ next_set n t c s → whole (record { got = none; trials = used + k }) ≡ cut limit total
    unfolding plus seek
    sweep-end z =
        let l = sets_over n t c w.passed s w.behind w.split (sym z) in
        let n : used + k + 0 ≡ used + k = omega arith in
        ends limit total none (used + k) (held ∙ ap (λ x. plus (used + k) (seek f x)) l ∙ ap (λ (x : ℕ). record { got = none; trials = x }) n) sweep-within

    -- it does not, and x comes next
    unfoldable pub sweep-on : (x : ℕ) → some x ≡ next_set n t c s → Sweep f total n t c limit x (used + k)
    sweep-on x z =
        let l = sets-on n t c w.passed s w.behind x w.split (sym z) in
        record {
          enough = sweep-within;
          passed = w.passed ++ (s ∷ []);
          behind = l.0;
          split = w.split ∙ ap (λ y. w.passed ++ (s ∷ y)) l.1 ∙ sym (append_assoc w.passed (s ∷ []) (x ∷ l.0));
          rest = held ∙ ap (λ y. plus (used + k) (seek f y)) l.1;
        }

  -- the next set is of a higher number
  pub sweep-higher : (x : ℕ) → some x ≡ next_set n t c s → s < x
  sweep-higher x z =
      let l = sets-on n t c w.passed s w.behind x w.split (sym z) in
      (sets-apart n t c w.passed s w.behind w.split).0 x (subst (λ y. x ∈ y) (sym l.1) (inl refl))
