use Rattle.std.proofs.Common.{◌≡◌, arith}
use Rattle.std.proofs.lemmas.Bool.Decides.{nat_tests}
use Rattle.sets.specs.Sets.{past}
use Rattle.sets.proofs.NotBelow.{past-width}
use Rattle.cases.specs.Case.{most_steps}
use Rattle.refusals.specs.CaseChecks.{bad_rule}
use Rattle.judging.proofs.bad_rule.Goals as goal

pub returns-then-past : goal.returns-then-past
unfolding bad_rule
returns-then-past c =
    let e : past most_steps c.args.rule.group c.args.n.steps ≡ past 16 c.args.rule.group c.args.n.steps =
    past-width most_steps 16 _ _ (omega arith) (omega arith) in
    grind (arith, nat_tests, e)

pub returns-else-past : goal.returns-else-past
unfolding bad_rule
returns-else-past c =
    let e : past most_steps c.args.rule.group c.args.n.steps ≡ past 16 c.args.rule.group c.args.n.steps =
    past-width most_steps 16 _ _ (omega arith) (omega arith) in
    grind (arith, nat_tests, e)
