use mathlib.Core.Path.{ap, ◌∙◌}
use mathlib.Core.Bool.{Bool}
use Rattle.sets.specs.Sets.{set_of}
use Rattle.sets.specs.Stored.{width}
use Rattle.boards.proofs.Pairs.{pair-next, pair-column, pair_row, pair-filled}
use Rattle.boards.proofs.pair.Goals as goal

pub returns-then-x-s : goal.returns-then-x-s
returns-then-x-s c = c.at.ensures ∙ pair-next _ _ _ _ _ _ c.if-own-s.true c.if-x-s.true

pub returns-then-own-s : goal.returns-then-own-s
returns-then-own-s c = c.at-then-own-s.ensures ∙ pair-column _ _ _ _ _ _ _ c.person-of_x.ensures
    c.if-x-s.false c.if-own-s.true

pub returns-then-x-s-2 : goal.returns-then-x-s-2
returns-then-x-s-2 c = c.at-row.ensures ∙ pair_row _ _ _ _ _ _ _ c.person-of_own.ensures
    c.if-own-s.false c.if-x-s-2.true

pub returns : goal.returns
returns c =
    c.everybody_if.ensures
    ∙ ap (λ (t : Bool). set_of (λ u. t) width) c.has.ensures
    ∙ pair-filled _ _ _ _ _ _ _ c.person-of_x.ensures
    c.if-x-s-2.false _ _ c.person-of_own.ensures
    c.at-row.ensures c.if-own-s.false
