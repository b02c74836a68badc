-- The invariant: the entries passed are those of the shorter position, and none of them failed.
use Rattle.asking.proofs.Steps.{passed_start, passed-step, position-long, position-hit, position-end}
use Rattle.asking.proofs.judge_position.Goals as goal

pub returns-then-steps-len : goal.returns-then-steps-len
returns-then-steps-len c = position-long _ _ _ _ c.if-steps-len.true

pub loop-i-init : goal.loop-i-init
loop-i-init c = passed_start _ _ _ c.start-passed.ensures

pub returns-then-bad_next : goal.returns-then-bad_next
returns-then-bad_next c =
    position-hit _ _ _ _ c.if-steps-len.false c.loop-i.invariant c.loop-i-test.true c.person-v.ensures
    c.bad_next.ensures c.if-bad_next.true

pub loop-i-preserved : goal.loop-i-preserved
loop-i-preserved c =
    passed-step _ _ _ c.loop-i.invariant c.loop-i-test.true c.person-v.ensures c.bad_next.ensures
    c.if-bad_next.false c.placed-passed.ensures

pub returns : goal.returns
returns c = position-end _ _ _ _ c.if-steps-len.false c.loop-i.invariant c.loop-i-test.false
