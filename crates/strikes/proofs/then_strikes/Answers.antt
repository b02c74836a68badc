-- The strikes: the static walk under the limit that the pass has left, told as one under the whole limit.
use mathlib.Core.Path.{sym, ap, ◌∙◌}
use native.Mathlib.Omega.{arith}
use Rattle.boards.proofs.Looked.{agree_same}
use Rattle.tries.specs.Outcomes.{verdict_outcome}
use Rattle.games.proofs.Cuts.{after-limit, after-within, after-ended}
use Rattle.strikes.proofs.then_strikes.Goals as goal

pub overflow_add-verdict : goal.overflow_add-verdict
overflow_add-verdict c =
    let e = sym (ap (verdict_outcome _) c.in-Yes.is) ∙ c.static_from-walked.ensures _ (agree_same _ _) in
    omega (arith, c.ranges.limit.fits, after-within _ _ _ c.requires _ _ e)

pub overflow_add-verdict-in-No : goal.overflow_add-verdict-in-No
overflow_add-verdict-in-No c =
    let e = sym (ap (verdict_outcome _) c.in-No.is) ∙ c.static_from-walked.ensures _ (agree_same _ _) in
    omega (arith, c.ranges.limit.fits, after-within _ _ _ c.requires _ _ e)

pub returns-in-Limit : goal.returns-in-Limit
returns-in-Limit c = λ q a.
    after-limit _ _ _ c.requires (sym (ap (verdict_outcome _) c.in-Limit.is) ∙ c.static_from-walked.ensures q a)

pub returns-in-Yes : goal.returns-in-Yes
returns-in-Yes c = λ q a.
    after-ended _ _ _ c.requires _ _ (sym (ap (verdict_outcome _) c.in-Yes.is) ∙ c.static_from-walked.ensures q a)

pub returns-in-No : goal.returns-in-No
returns-in-No c = λ q a.
    after-ended _ _ _ c.requires _ _ (sym (ap (verdict_outcome _) c.in-No.is) ∙ c.static_from-walked.ensures q a)
