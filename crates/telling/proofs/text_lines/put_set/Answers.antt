use mathlib.Core.Path.{sym, ap, ◌∙◌}
use Rattle.sets.specs.Stored.{lowest_number}
use Rattle.telling.specs.Lines.{spaced}
use Rattle.telling.proofs.Growing.{put_same}
use Rattle.telling.proofs.Lists.{members-none, members-some}
use Rattle.telling.proofs.text_lines.put_set.Goals as goal

pub returns-in-None : goal.returns-in-None
unfolding spaced
returns-in-None c =
    let nobody = sym c.lowest.ensures ∙ ap lowest_number c.in-None.is in
    put_same _ _ _ _ c.put.ensures (ap spaced (sym (members-none _ _ nobody)))

pub returns-in-Some : goal.returns-in-Some
returns-in-Some c =
    let somebody = sym c.lowest.ensures ∙ ap lowest_number c.in-Some.is in
    put_same _ _ _ _ c.each_member.ensures (ap spaced (sym (members-some _ _ _ somebody)))
