use mathlib.Core.List.{append_assoc}
use Rattle.telling.specs.Lines.{spaced, line}
use Rattle.telling.specs.Telling.{case_line}
use Rattle.telling.proofs.Growing.{then-put, then-byte, put_same}
use Rattle.telling.proofs.Lists.{append-nil}
use Rattle.telling.proofs.text_lines.put_case.Goals as goal

pub returns : goal.returns
unfolding case_line line spaced
returns c =
    let named = c.put.ensures in
    let people = then-put _ _ _ _ named _ c.put_number.ensures in
    let steps = then-put _ _ _ _ people _ c.put_number-entries.ensures in
    let roles = then-put _ _ _ _ steps _ c.put_number-2.ensures in
    let tables = then-put _ _ _ _ roles _ c.put_number-rest.ensures in
    let rules = then-put _ _ _ _ tables _ c.put_number-3.ensures in
    put_same _ _ _ _ (then-byte _ _ _ _ rules _ c.put_byte.ensures) (simp (append_assoc, append-nil))
