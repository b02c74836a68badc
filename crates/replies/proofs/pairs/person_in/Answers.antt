use native.Mathlib.Omega.{arith}
use Rattle.replies.proofs.Entries.{person-alone, person-other, person-there}
use Rattle.replies.proofs.pairs.person_in.Goals as goal

pub returns-then-bytes-at : goal.returns-then-bytes-at
returns-then-bytes-at c = person-alone _ _ c.if-bytes-at.true

pub returns-then-bytes-at-2 : goal.returns-then-bytes-at-2
returns-then-bytes-at-2 c = person-other _ _ (omega arith) c.if-bytes-at-2.true

pub returns : goal.returns
returns c = person-there _ _ (omega arith) c.if-bytes-at-2.false
