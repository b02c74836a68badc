use Rattle.std.proofs.Common.{arith}
use Rattle.lines.proofs.Finding.{move-over, move-within, nobody-over, nobody-within}
use Rattle.lines.proofs.next_move.Goals as goal

pub returns-then-limit-used : goal.returns-then-limit-used
returns-then-limit-used c = move-over _ _ _ _ _ _ c.in-Some.ensures.0 c.moves_between-passed.ensures c.in-Some.ensures.1 (omega arith)

pub returns-else-limit-used : goal.returns-else-limit-used
returns-else-limit-used c = move-within _ _ _ _ _ _ c.in-Some.ensures.0 c.moves_between-passed.ensures c.in-Some.ensures.1 _ (omega arith) (omega arith)

pub returns-then-limit-used-2 : goal.returns-then-limit-used-2
returns-then-limit-used-2 c = nobody-over _ _ _ _ _ _ c.in-None.ensures c.moves_between-passed-in-None.ensures (omega arith) (omega arith)

pub returns-else-limit-used-2 : goal.returns-else-limit-used-2
returns-else-limit-used-2 c = nobody-within _ _ _ _ _ _ c.in-None.ensures c.moves_between-passed-in-None.ensures (omega arith) _ (omega arith) (omega arith)
