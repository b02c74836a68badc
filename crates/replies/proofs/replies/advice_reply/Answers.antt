use Rattle.std.proofs.Common.{arith}
use Rattle.std.proofs.lemmas.Grind.{common_steps}
use Rattle.sets.proofs.Records.{number-none}
use Rattle.cases.proofs.Positions.{persons-start}
use Rattle.replies.proofs.replies.advice_reply.Goals as goal

pub returns-in-Ok-Person : goal.returns-in-Ok-Person
returns-in-Ok-Person c = grind (arith, common_steps, number-none, persons-start)
