use mathlib.Core.Path.{sym, ◌∙◌}
use Rattle.sets.specs.Stored.{number}
use Rattle.telling.proofs.Lists.{set-start, set-step, member-put, member-passed}
use Rattle.telling.proofs.text_lines.each_member.Goals as goal
use Rattle.telling.proofs.text_lines.each_member.Goals.{then-has, else-has}

pub loop-v-init : goal.loop-v-init
loop-v-init c = set-start c.args.text (number c.args.set)

pub loop-v-preserved : goal.loop-v-preserved
loop-v-preserved c =
    set-step _ _ _ _ _ c.loop-v.invariant
    (elim c.if-has.branch [
      | then-has w ↦ w.text-is ∙ member-put _ _ _ _ (sym c.has.ensures ∙ w.if-has.true) w.add_number.ensures
      | else-has w ↦ w.text-is ∙ member-passed _ _ _ (sym c.has.ensures ∙ w.if-has.false)
    ])
