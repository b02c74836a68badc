use mathlib.Core.Path.{sym, ◌∙◌}
use Rattle.files.proofs.Ways.{room, read_head, read-entries, read_held}
use Rattle.files.proofs.read.Goals as goal

pub returns-in_default : goal.returns-in_default
returns-in_default c = read_head _ c.judge_header-head.ensures c.in_default.is c.refused.ensures

pub case_at-held-requires : goal.case_at-held-requires
case_at-held-requires c = room _ (sym c.judge_header-head.ensures ∙ c.in-Ok.is) c.counts.ensures

pub returns-in_default-judged : goal.returns-in_default-judged
returns-in_default-judged c =
    read-entries _ c.judge_header-head.ensures c.in-Ok.is c.counts.ensures
    c.case_at-held.ensures c.judge_case-judged.ensures c.in_default-judged.is c.refused-in_default-judged.ensures

pub returns : goal.returns
returns c =
    read_held _ c.judge_header-head.ensures c.in-Ok.is c.counts.ensures
    c.case_at-held.ensures c.judge_case-judged.ensures c.in-Ok-judged.is
