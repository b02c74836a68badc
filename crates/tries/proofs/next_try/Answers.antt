use Rattle.std.proofs.Common.{arith}
use Rattle.tries.proofs.Tries.{tried-over, tried-within}
use Rattle.tries.proofs.next_try.Goals as goal

pub returns-then-limit-used : goal.returns-then-limit-used
returns-then-limit-used c = tried-over _ _ _ _ _ c.in-None.ensures (omega (arith, c.size-trials.ensures))

pub returns-then-limit-used-2 : goal.returns-then-limit-used-2
returns-then-limit-used-2 c = tried-over _ _ _ _ _ c.in-Some.ensures (omega (arith, c.before-passed.ensures))

pub returns-else-limit-used : goal.returns-else-limit-used
returns-else-limit-used c = tried-within _ _ _ _ _ c.in-None.ensures _ (omega (arith, c.size-trials.ensures)) (omega arith)

pub returns-else-limit-used-2 : goal.returns-else-limit-used-2
returns-else-limit-used-2 c = tried-within _ _ _ _ _ c.in-Some.ensures _ (omega (arith, c.before-passed.ensures)) (omega arith)
