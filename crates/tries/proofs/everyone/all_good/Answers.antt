use Rattle.std.proofs.Common.{arith}
use Rattle.tries.proofs.Good.{good-limit, good-all, good-over, good-within}
use Rattle.tries.proofs.everyone.all_good.Goals as goal

pub returns-in-None : goal.returns-in-None
returns-in-None c = good-limit _ _ _ _ _ c.size.ensures (omega arith) c.in-None.ensures

pub returns-in-Some : goal.returns-in-Some
returns-in-Some c = good-all _ _ _ _ _ c.size.ensures (omega arith) _ c.in-Some.ensures

pub returns-then-limit-all : goal.returns-then-limit-all
returns-then-limit-all c = good-over _ _ _ _ _ c.size.ensures (omega arith) c.member_at-last.ensures c.before-passed.ensures c.if-limit-all.true

pub returns : goal.returns
returns c = good-within _ _ _ _ _ c.size.ensures (omega arith) c.member_at-last.ensures c.before-passed.ensures c.if-limit-all.false
