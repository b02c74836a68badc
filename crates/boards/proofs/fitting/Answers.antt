-- Of some people those who fit: everybody where no rule is due.
use mathlib.Core.Path.{sym, ◌∙◌}
use native.Mathlib.Omega.{arith}
use Rattle.sets.specs.Stored.{number}
use Rattle.boards.proofs.Looked.{due-agree}
use Rattle.boards.proofs.Pairs.{all_fit}
use Rattle.boards.proofs.fitting.Goals as goal

pub due-due-requires : goal.due-due-requires
due-due-requires c = tt

pub returns-then-due-eq0 : goal.returns-then-due-eq0
unfolding number
returns-then-due-eq0 c = λ q a. all_fit _ q _ _ (omega arith) (due-agree _ a _ ∙ sym c.due-due.ensures ∙ c.if-due-eq0.true)

pub narrowed-requires : goal.narrowed-requires
narrowed-requires c = c.due-due.ensures

pub returns : goal.returns
returns c = c.narrowed.ensures
