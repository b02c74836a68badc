use mathlib.Core.Path.{refl, ap, ◌∙◌}
use Rattle.std.specs.Result.{result_map_both}
use Rattle.judging.specs.declared.GoodCase.{GoodCase}
use Rattle.refusals.specs.declared.Refusal.{Refusal}
use Rattle.planner.proofs.Answering.{turned}
use Rattle.rodcrank.proofs.Replying.{refused-case, good-case, case-good}
use Rattle.rodcrank.proofs.good_case.Goals as goal

pub returns-in_err-got : goal.returns-in_err-got
returns-in_err-got c =
    ap (result_map_both (λ (good : GoodCase). good.case) (λ (refusal : Refusal). refusal)) (turned _ c.from_residual.ensures.1 refl)
    ∙ refused-case _ c.read-got.ensures c.in_err-got.was

pub returns : goal.returns
returns c = good-case _ c.read-got.ensures c.in_ok-got.was

pub invariant_of-result : goal.invariant_of-result
invariant_of-result c = record { good = case-good _ (good-case _ c.read-got.ensures c.in_ok-got.was) }
