use mathlib.Core.Path.{ap₂, ◌∙◌}
use Prim.Native.Nat.{ℕ}
use Rattle.sets.specs.Sets.{common}
use Rattle.boards.specs.Board.{both_on}
use Rattle.boards.proofs.in_both.Goals as goal

pub returns : goal.returns
unfolding both_on
returns c = c.shared.ensures ∙ ap₂ (λ (x y : ℕ). common 32 x y) c.number_at.ensures c.number_at-2.ensures
