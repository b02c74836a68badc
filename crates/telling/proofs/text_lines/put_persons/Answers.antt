use mathlib.Core.Path.{sym, ap, ◌∙◌}
use native.Mathlib.Nat.{pos_of_ne-zero}
use Rattle.telling.specs.Lines.{spaced}
use Rattle.telling.specs.Telling.{listed}
use Rattle.telling.specs.Held.{put}
use Rattle.telling.proofs.Growing.{put_same}
use Rattle.telling.proofs.Lists.{persons-none, persons-some}
use Rattle.telling.proofs.text_lines.put_persons.Goals as goal

pub returns-then-p-eq0 : goal.returns-then-p-eq0
unfolding spaced
returns-then-p-eq0 c =
    c.put.ensures ∙ ap (λ l. put c.args.text (spaced (listed l)))
    (sym (persons-none _ c.if-p-eq0.true))

pub returns : goal.returns
returns c = put_same _ _ _ _ c.each_person.ensures (ap spaced (sym (persons-some _ (pos_of_ne-zero c.if-p-eq0.false))))
