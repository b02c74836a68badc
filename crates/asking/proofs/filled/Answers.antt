-- The invariant: the entries before i are placed.
use Rattle.asking.proofs.Steps.{placed-start, placed-step, placed-all}
use Rattle.asking.proofs.filled.Goals as goal

pub loop-i-init : goal.loop-i-init
loop-i-init c = placed-start _ c.start-q.ensures

pub loop-i-preserved : goal.loop-i-preserved
loop-i-preserved c = placed-step _ c.loop-i.invariant c.loop-i-test.true c.person.ensures c.placed-q.ensures

pub returns : goal.returns
returns c = placed-all _ c.loop-i.invariant c.loop-i-test.false
