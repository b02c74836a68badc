use mathlib.Core.List.{append_assoc}
use Rattle.telling.specs.Lines.{spaced, line}
use Rattle.telling.specs.Telling.{asked_line}
use Rattle.telling.proofs.Growing.{then-put, then-byte, put_same}
use Rattle.telling.proofs.Lists.{append-nil}
use Rattle.telling.proofs.text_lines.put_asked.Goals as goal

pub returns : goal.returns
unfolding asked_line line spaced
returns c =
    let named = c.put.ensures in
    let absent = then-put _ _ _ _ named _ c.put_number-absent.ensures in
    let worded = then-put _ _ _ _ absent _ c.put-2.ensures in
    let most = then-put _ _ _ _ worded _ c.put_number.ensures in
    put_same _ _ _ _ (then-byte _ _ _ _ most _ c.put_byte.ensures) (simp (append_assoc, append-nil))
