use mathlib.Core.List.{append_assoc}
use Rattle.telling.proofs.Growing.{then-put, then-byte, put_same}
use Rattle.telling.proofs.Lists.{append-nil}
use Rattle.telling.specs.Lines.{spaced}
use Rattle.telling.proofs.text_lines.end_trials.Goals as goal

pub returns : goal.returns
unfolding spaced
returns c =
    let worded = c.put.ensures in
    let counted = then-put _ _ _ _ worded _ c.put_number.ensures in
    put_same _ _ _ _ (then-byte _ _ _ _ counted _ c.put_byte.ensures) (simp (append_assoc, append-nil))
