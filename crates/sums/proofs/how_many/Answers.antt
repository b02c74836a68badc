use Rattle.sums.proofs.Counts.{counting-start, counting-under, counting-alone, counting-step}
use Rattle.sums.proofs.how_many.Goals as goal

pub returns-then-room-eq0 : goal.returns-then-room-eq0
returns-then-room-eq0 c = counting-alone _ _ _ _ c.if-room-eq0.true

pub loop-u-init : goal.loop-u-init
loop-u-init c = counting-start _ _ _ c.requires.1

pub one_more-sums-requires : goal.one_more-sums-requires
one_more-sums-requires c = (c.requires.1, counting-under _ _ _ _ c.loop-u.sums c.loop-u.invariant)

pub loop-u-preserved : goal.loop-u-preserved
loop-u-preserved c = counting-step _ _ _ _ _ c.loop-u.sums _ c.loop-u.invariant c.weight.ensures c.one_more-sums.ensures
