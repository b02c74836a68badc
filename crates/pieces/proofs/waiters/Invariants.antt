use Rattle.std.proofs.Common.{◌≡◌, ℕ, ◌<◌}
use Rattle.pieces.specs.Pieces.{Waiting}
use Rattle.pieces.proofs.waiters.Given as goal

abbrev pub invariant-loop-i : goal.invariant-loop-i
invariant-loop-i g l =
    (steps : ℕ → ℕ) → ((i : ℕ) → i < l.n → (told : ℕ) → goal.F-post g l.on i told → told ≡ steps i) → Waiting steps l.i l.out
