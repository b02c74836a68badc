use mathlib.Core.Path.{ap₂, ◌∙◌}
use Prim.Native.Nat.{ℕ}
use Rattle.sets.specs.Sets.{common}
use Rattle.boards.specs.Board.{due_on}
use Rattle.boards.proofs.due.Goals as goal

pub returns : goal.returns
unfolding due_on
returns c = c.shared.ensures ∙ ap₂ (λ (x y : ℕ). common 32 x y) c.named.ensures c.full.ensures
