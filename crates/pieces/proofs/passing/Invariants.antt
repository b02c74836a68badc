use Rattle.std.proofs.Common.{◌≡◌, ℕ, Bool, ◌<◌}
use mathlib.Core.Bool.{◌&&◌}
use lib.Dec.{ltb}
use Rattle.sets.specs.Stored.{width, number}
use Rattle.pieces.specs.Pieces.{Collected}
use Rattle.pieces.proofs.passing.Given as goal

abbrev pub invariant-loop-u : goal.invariant-loop-u
invariant-loop-u g l =
    (passes : ℕ → Bool) → ((u : ℕ) → u < l.n → (told : Bool) → goal.F-post g l.test u told → told ≡ passes u)
    → Collected (λ u. ltb u l.n && passes u) width l.u (number l.set)
