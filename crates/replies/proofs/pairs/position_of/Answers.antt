use native.Mathlib.Omega.{arith}
use Rattle.replies.proofs.Entries.{placed-none, placed-more, placed-all}
use Rattle.replies.proofs.pairs.position_of.Goals as goal

pub loop-i-init : goal.loop-i-init
loop-i-init c = placed-none _ c.start-p.ensures

pub returns-then-bytes-i : goal.returns-then-bytes-i
returns-then-bytes-i c = placed-all _ c.loop-i.invariant (omega (arith, c.if-bytes-i.true))

pub loop-i-preserved : goal.loop-i-preserved
loop-i-preserved c =
    placed-more _ c.loop-i.invariant (omega arith) (omega (arith, c.if-bytes-i.false)) c.person_in.ensures
    c.placed-p.ensures.1
