use Rattle.std.proofs.Common.{sym, ◌∙◌}
use Rattle.refusals.specs.CaseChecks.{counts_check, entry_checks, case_checks, judged_case}
use Rattle.refusals.proofs.Cases.{limited}
use Rattle.judging.proofs.Turns.{turn-over, turn-ends, not-met}
use Rattle.judging.proofs.judge_case.Goals as goal

pub judge_entries-requires : goal.judge_entries-requires
judge_entries-requires c = limited _ (sym c.too_many.ensures ∙ not-met _ _ c.refused_if.ensures c.in_ok-refused_if.was)

pub returns-in_err-refused_if : goal.returns-in_err-refused_if
unfolding judged_case case_checks counts_check
returns-in_err-refused_if c =
    turn-ends (counts_check c.args.c) (entry_checks c.args.c) (rw c.too_many.ensures at c.refused_if.ensures) c.in_err-refused_if.was c.from_residual.ensures.1

pub returns : goal.returns
unfolding judged_case case_checks counts_check
returns c =
    turn-over (counts_check c.args.c) (entry_checks c.args.c) (rw c.too_many.ensures at c.refused_if.ensures) c.in_ok-refused_if.was c.judge_entries.ensures
