use Rattle.std.proofs.Common.{arith}
use Rattle.std.proofs.lemmas.Bool.Decides.{nat_tests}
use Rattle.refusals.specs.CaseChecks.{too_many}
use Rattle.judging.proofs.too_many.Goals as goal

pub returns-then-n-gt-TABLES : goal.returns-then-n-gt-TABLES
unfolding too_many
returns-then-n-gt-TABLES c = grind (arith, nat_tests)

pub returns-else-n-gt-TABLES : goal.returns-else-n-gt-TABLES
unfolding too_many
returns-else-n-gt-TABLES c = grind (arith, nat_tests)
