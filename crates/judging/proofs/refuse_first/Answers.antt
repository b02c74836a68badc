-- The invariant: none of the entries passed fails.
use Rattle.std.proofs.Common.{arith}
use Rattle.refusals.proofs.Search.{search-start, search-step}
use Rattle.judging.proofs.Entries.{first-fails, none-fails}
use Rattle.judging.proofs.refuse_first.Goals as goal

pub loop-i-init : goal.loop-i-init
loop-i-init g c = λ test h. search-start _ _

pub returns-then-fails : goal.returns-then-fails
returns-then-fails g c = λ test h. first-fails _ _ (c.loop-i.invariant test h) (omega arith) (h _ _ (omega arith) c.fails.ensures) c.if-fails.true

pub loop-i-preserved : goal.loop-i-preserved
loop-i-preserved g c = λ test h. search-step _ _ (c.loop-i.invariant test h) (omega arith) (h _ _ (omega arith) c.fails.ensures) c.if-fails.false

pub returns : goal.returns
returns g c = λ test h. none-fails _ _ (c.loop-i.invariant test h) (omega arith)
