-- The invariant: none of the entries passed fails.
use Rattle.std.proofs.Common.{◌≡◌, ℕ, Bool, ◌<◌}
use Rattle.refusals.proofs.Search.{Searched}
use Rattle.judging.proofs.refuse_first.Given as goal

abbrev pub invariant-loop-i : goal.invariant-loop-i
invariant-loop-i g l =
    (test : ℕ → Bool) → ((i : ℕ) (b : Bool) → i < l.count → goal.F-post g l.fails i b → b ≡ test i) → Searched test l.count l.i
