use Rattle.std.proofs.Common.{sym, ap, ◌∙◌}
use Rattle.sets.specs.Stored.{lowest_number}
use Rattle.tries.proofs.Good.{at_none, at_first, at_next}
use Rattle.tries.proofs.everyone.member_at.Goals as goal

pub returns-then-before-eq0 : goal.returns-then-before-eq0
returns-then-before-eq0 c = at_first _ _ _ c.in-Some.ensures c.if-before-eq0.true ∙ sym c.loop-v.invariant

pub loop-v-preserved : goal.loop-v-preserved
loop-v-preserved c = c.loop-v.invariant ∙ at_next _ _ _ _ c.in-Some.ensures c.if-before-eq0.false c.without-rest.ensures

pub returns : goal.returns
returns c = at_none _ _ (ap lowest_number (sym c.in_default.is) ∙ c.lowest.ensures) ∙ sym c.loop-v.invariant
