use mathlib.Core.List.{append_assoc}
use Rattle.telling.specs.Lines.{spaced}
use Rattle.telling.proofs.Growing.{then-put, then-byte, put_same}
use Rattle.telling.proofs.Lists.{append-nil}
use Rattle.telling.proofs.text_lines.end_refused.Goals as goal

pub returns : goal.returns
unfolding spaced
returns c =
    let numbered = c.put_number.ensures in
    let worded = then-put _ _ _ _ numbered _ c.put-numbered.ensures in
    let placed = then-put _ _ _ _ worded _ c.put_number-2.ensures in
    put_same _ _ _ _ (then-byte _ _ _ _ placed _ c.put_byte.ensures) (simp (append_assoc, append-nil))
