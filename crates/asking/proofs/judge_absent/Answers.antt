use mathlib.Core.Path.{◌≡◌, refl, sym, ap, ◌∙◌}
use mathlib.Core.List.{[], ◌∷◌}
use lib.Dec.{ltb}
use Rattle.std.specs.Prelude.{Err}
use Rattle.sets.specs.Sets.{size}
use Rattle.sets.specs.Stored.{width, number}
use Rattle.refusals.specs.Refusals.{Judged, only_check, judged_by, or_else}
use Rattle.asking.proofs.Steps.{absent-judged}
use borrow.Author.Rules.{rules}
use Rattle.asking.proofs.judge_absent.Goals as goal

pub returns-in_err-refused_if : goal.returns-in_err-refused_if
returns-in_err-refused_if c =
    let a = c.args in
    let later = judged_by (only_check 14 (ltb a.t (size width (number a.absent))) ∷ []) in
    let given : c.from_residual.result ≡ Err c.in_err-refused_if.field-0.0 = search rules in
    given ∙ sym (ap (λ (i : Judged). or_else i later) c.in_err-refused_if.was)
    ∙ absent-judged a.people a.t (number a.absent) _ later c.past.ensures c.refused_if.ensures refl refl

pub returns : goal.returns
returns c =
    let a = c.args in
    sym (ap (λ (i : Judged). or_else i c.refused_if-2.result) c.in_ok-refused_if.was)
    ∙ absent-judged a.people a.t (number a.absent) _ _ c.past.ensures c.refused_if.ensures c.size.ensures c.refused_if-2.ensures
