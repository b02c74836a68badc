use Rattle.std.proofs.Common.{arith}
use Rattle.std.proofs.lemmas.Bool.Decides.{nat_tests}
use Rattle.headers.specs.Checks.{misplaced}
use Rattle.headers.proofs.is_misplaced.Goals as goal

pub returns-then-offset-rules_at : goal.returns-then-offset-rules_at
unfolding misplaced
returns-then-offset-rules_at c = grind (arith, nat_tests)

pub returns-else-offset-rules_at : goal.returns-else-offset-rules_at
unfolding misplaced
returns-else-offset-rules_at c = grind (arith, nat_tests)
