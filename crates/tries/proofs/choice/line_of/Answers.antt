-- The line of a step, the same from every position that agrees at the steps looked at.
use mathlib.Core.Path.{ap, ap₂, ◌∙◌}
use Prim.Native.Nat.{ℕ}
use Rattle.sets.specs.Sets.{common}
use Rattle.sets.specs.Stored.{width}
use Rattle.boards.specs.Board.{fits_on}
use Rattle.lines.proofs.Taking.{is-stored}
use Rattle.tries.proofs.choice.line_of.Goals as goal

pub returns : goal.returns
returns c = λ q a.
    let tried = c.common-tried.ensures ∙ ap₂ (common width) c.allowed.ensures c.everybody.ensures in
    ap₂ (λ x y. record { step = c.args.s; tried = x; fit = y }) (is-stored _ _ tried)
    (is-stored _ _ (c.fitting-fitted.ensures q a ∙ ap (λ (x : ℕ). common width x (fits_on c.args.board.now q c.args.s.0)) tried))
