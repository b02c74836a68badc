use Rattle.std.proofs.Common.{◌≡◌, ℕ, ◌<◌}
use Rattle.pieces.specs.Pieces.{Put}
use Rattle.laying.proofs.put.Given as goal

abbrev pub invariant-loop-i : goal.invariant-loop-i
invariant-loop-i g l =
    (f : ℕ → ℕ) → ((i : ℕ) → i < l.n → (told : ℕ) → goal.F-post g l.entry i told → told ≡ f i) → Put l.start l.n f l.initial.out l.i l.out
