use native.Mathlib.Omega.{arith}
use Rattle.cases.specs.Positions.{persons}
use Rattle.cases.proofs.Positions.{persons-length}
use Rattle.telling.proofs.Lists.{list-start, list-step, list-end}
use Rattle.telling.proofs.text_lines.each_person.Goals as goal

pub loop-i-init : goal.loop-i-init
loop-i-init c = list-start c.args.text (persons c.args.p)

pub loop-i-preserved : goal.loop-i-preserved
loop-i-preserved c =
    list-step _ _ _ (persons c.args.p) _ _ (omega (arith, persons-length c.args.p)) c.person.ensures c.loop-i.invariant
    c.add_number.ensures

pub returns : goal.returns
returns c = list-end _ _ (persons c.args.p) _ (omega (arith, persons-length c.args.p)) c.loop-i.invariant
