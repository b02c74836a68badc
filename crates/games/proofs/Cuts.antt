-- What the answer of a call under a limit says of its walk, and what a walk says of the answer: the steps of every search's proof.
use mathlib.Core.Path.{◌≡◌, refl, sym, ap, ap₂, ◌∙◌}
use mathlib.Core.Option.{Option, none, some, some-injective, none-ne-some, some-ne-none}
use mathlib.Core.Bool.{Bool, true, false}
use Prim.Native.Nat.{ℕ, ◌+◌, ◌-◌, ◌≤◌, ◌<◌}
use native.Mathlib.Nat.{add_assoc}
use native.Mathlib.Omega.{arith}
use Rattle.sets.specs.Lists.{only_if}
use Rattle.games.specs.Walks.{Walk, Search, plus, or_else}
use Rattle.games.specs.Limit.{ended, Answer, stopped, whole, cut}
use Rattle.games.proofs.Limits.{cut-within, cut-past, cut-limit, cut-ended, cut-trials}

module _ {B : Type 0} where
  pub plus-plus : (a b : ℕ) (w : Walk B) → plus a (plus b w) ≡ plus (a + b) w
  unfolding plus
  plus-plus a b w = ap (λ (k : ℕ). record { got = w.got; trials = k }) (sym (add_assoc a b w.trials))

  pub plus-trials : (c : ℕ) (w : Walk B) → (plus c w).trials ≡ c + w.trials
  unfolding plus
  plus-trials c w = refl

  pub plus-zero : (w : Walk B) → plus 0 w ≡ w
  unfolding plus
  plus-zero w = let e : 0 + w.trials ≡ w.trials = omega arith in ap (λ (k : ℕ). record { got = w.got; trials = k }) e

  -- what a finished call says of its walk
  pub record Finished (l : ℕ) (w : Walk B) (b : B) (c : ℕ) : Type 0 where
    pub got : w.got ≡ b
    pub trials : w.trials ≡ c
    pub within : c ≤ l

  pub finished : (l : ℕ) (w : Walk B) (b : B) (c : ℕ) → whole (record { got = b; trials = c }) ≡ cut l w → Finished l w b c
  finished l w b c e =
      let out : (cut l w).out ≡ ended b = ap (λ (a : Answer B). a.out) (sym e) in
      let k = (cut-ended l w b).0 out in
      let n : w.trials ≡ c = sym (cut-trials l w b out) ∙ ap (λ (a : Answer B). a.count) (sym e) in
      record { got = k.1; trials = n; within = omega (arith, k.0, n) }

  -- a call that says "limit" has a walk that needs more
  pub over : (l : ℕ) (w : Walk B) → stopped l ≡ cut l w → l < w.trials
  over l w e = (cut-limit l w).0 (ap (λ (a : Answer B). a.out) (sym e))

  -- the answer of a walk that has come to its end after c trials
  pub ends : (l : ℕ) (w : Walk B) (b : B) (c : ℕ) → w ≡ record { got = b; trials = c } → c ≤ l → whole (record { got = b; trials = c }) ≡ cut l w
  ends l w b c e h = sym (ap (cut l) e ∙ cut-within l (record { got = b; trials = c }) h)

  -- the answer of a walk that needs more than the limit
  pub stops : (l c : ℕ) (w v : Walk B) → w ≡ plus c v → l < c + v.trials → stopped l ≡ cut l w
  unfolding plus
  stops l c w v e h = sym (ap (cut l) e ∙ cut-past l (plus c v) h)

-- a walk that goes on after `used` trials: its answer under the limit that is left, told as one under the whole limit
module _ {B : Type 0} (l used : ℕ) (w : Walk B) (h : used ≤ l) where
  pub after-limit : stopped (l - used) ≡ cut (l - used) w → stopped l ≡ cut l (plus used w)
  after-limit e = stops l used (plus used w) w refl (omega (arith, over (l - used) w e))

  module _ (b : B) (c : ℕ) (e : whole (record { got = b; trials = c }) ≡ cut (l - used) w) where
    pub after-within : used + c ≤ l
    after-within = omega (arith, (finished (l - used) w b c e).within)

    pub after-ended : whole (record { got = b; trials = used + c }) ≡ cut l (plus used w)
    unfolding plus
    after-ended =
        let d = finished (l - used) w b c e in
        ends l (plus used w) b (used + c) (ap₂ (λ (o : B) (k : ℕ). record { got = o; trials = used + k }) d.got d.trials) after-within

-- one search, or else another: what the answer of the first says of both
module _ {B : Type 0} (l : ℕ) (w : Search B) (rest : Unit {0} → Search B) where
  pub first-limit : stopped l ≡ cut l w → stopped l ≡ cut l (or_else w.got w.trials rest)
  unfolding or_else plus
  first-limit e = sym (cut-past l (or_else w.got w.trials rest) (at w.got (over l w e)))
    where
      at : (o : Option B) → l < w.trials → l < (or_else o w.trials rest).trials
      at none h = omega arith
      at (some b) h = h

  pub first-got : (b : B) (c : ℕ) → whole (record { got = some b; trials = c }) ≡ cut l w → whole (record { got = some b; trials = c }) ≡ cut l (or_else w.got w.trials rest)
  unfolding or_else
  first-got b c e =
      let d = finished l w (some b) c e in
      ends l (or_else w.got w.trials rest) (some b) c (ap₂ (λ (o : Option B) (k : ℕ). or_else o k rest) d.got d.trials) d.within

  pub first-none : (c : ℕ) → whole (record { got = none; trials = c }) ≡ cut l w → or_else w.got w.trials rest ≡ plus c (rest tt)
  unfolding or_else
  first-none c e = let d = finished l w none c e in ap₂ (λ (o : Option B) (k : ℕ). or_else o k rest) d.got d.trials

module _ {A : Type 0} where
  pub only-some : (b : Bool) (a x : A) → some x ≡ only_if b a → (b ≡ true) × (x ≡ a)
  only-some true a x e = (refl, some-injective x a e)
  only-some false a x e = absurd (some-ne-none x e)

  pub only_none : (b : Bool) (a : A) → none ≡ only_if b a → b ≡ false
  only_none true a e = absurd (none-ne-some a e)
  only_none false a e = refl
