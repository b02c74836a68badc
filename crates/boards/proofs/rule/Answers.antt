use mathlib.Core.Path.{ap, ◌∙◌}
use Rattle.boards.specs.Board.{unpacked, rule_on}
use Rattle.boards.proofs.rule.Goals as goal

pub returns : goal.returns
unfolding rule_on
returns c = c.unpack.ensures ∙ ap unpacked c.number_at.ensures
