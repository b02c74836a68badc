use mathlib.Core.Path.{ap}
use Rattle.lines.proofs.Taking.{is-stored}
use Rattle.lines.proofs.left_of.Goals as goal

pub returns : goal.returns
returns c = ap (λ s. record { step = c.args.line.step; tried = s; fit = c.args.line.fit }) (is-stored _ _ c.difference.ensures)
