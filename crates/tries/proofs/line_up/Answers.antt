-- The line for the step that is ready, the same from every position that agrees at the steps looked at.
use mathlib.Core.Path.{sym, ◌∙◌}
use native.Mathlib.Omega.{arith}
use Rattle.tries.proofs.Agreeing.{step-agree}
use Rattle.tries.proofs.Lines.{line-is, line-none}
use Rattle.tries.proofs.Turns.{nobody-shown}
use Rattle.tries.proofs.line_up.Goals as goal

pub returns-then-at-ge-STEPS : goal.returns-then-at-ge-STEPS
returns-then-at-ge-STEPS c = λ q a.
    line-none _ _ _ q _ (c.requires ∙ sym (step-agree _ a)) _ _ c.if-at-ge-STEPS.true (nobody-shown c.none.ensures) (nobody-shown c.none-then-at-ge-STEPS.ensures)

pub returns : goal.returns
returns c = λ q a.
    line-is _ _ _ q _ (c.requires ∙ sym (step-agree _ a)) _ _ _ _ _ (omega arith)
    c.allowed.ensures c.difference.ensures c.everybody.ensures
    c.common-tried.ensures (c.fitting-fitted.ensures q a)
