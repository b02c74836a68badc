use native.Mathlib.Omega.{arith}
use Rattle.words.specs.Word.{AllBytes}
use Rattle.telling.proofs.Laid.{input-good}
use Rattle.telling.proofs.Writing.{input-judged, told-refused, told-good}
use Rattle.telling.proofs.tell.Goals as goal

pub answer_lines-requires : goal.answer_lines-requires
answer_lines-requires c = input-good c.args.input.now _ _ _ c.read_file-file.ensures c.judge_number.ensures c.in-Ok.ensures

pub returns-in-Err : goal.returns-in-Err
returns-in-Err c =
    let bytes : AllBytes c.args.input.now = λ i. omega (arith, c.type_inv.input i) in
    let judged = input-judged _ _ _ _ _ c.read_file-file.ensures c.word_at-t.ensures c.judge_number.ensures c.in-Err.ensures in
    told-refused _ _ _ _ bytes judged c.empty.ensures c.put_refusal.ensures

pub returns-in-Ok : goal.returns-in-Ok
returns-in-Ok c =
    let bytes : AllBytes c.args.input.now = λ i. omega (arith, c.type_inv.input i) in
    let file = c.read_file-file.ensures in
    let t = c.word_at-t.ensures in
    let judged = input-judged _ _ _ _ _ file t c.judge_number.ensures c.in-Ok.ensures in
    told-good _ _ _ _ _ bytes judged file t c.long_at-limit.ensures c.answer_lines.ensures
