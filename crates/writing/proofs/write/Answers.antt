-- `write` answers and leaves what the definition says, refused or not.
use Rattle.std.proofs.Common.{sym, ap, ◌∙◌, arith}
use Rattle.std.proofs.lemmas.Result.{err_from_is_err_and}
use Rattle.refusals.proofs.Cases.{good-limited}
use Rattle.writing.specs.Writing.{Bytes}
use Rattle.writing.proofs.Laws.{rows-most}
use Rattle.writing.proofs.Judged.{write-good, good-leaves, refused-leaves}
use Rattle.writing.proofs.write.Goals as goal

pub returns-in_err-judge_write : goal.returns-in_err-judge_write
returns-in_err-judge_write c =
    let p = err_from_is_err_and c.from_residual.result c.from_residual.ensures.1 in
    rw (p.1, p.2) (refused-leaves _ _ _ (sym c.judge_write.ensures ∙ c.in_err-judge_write.was))

pub write_file-requires : goal.write_file-requires
write_file-requires c =
    let good = write-good _ _ (sym c.judge_write.ensures ∙ c.in_ok-judge_write.was) in
    (good-limited _ good.0, good.1)

pub overflow_cast-bytes : goal.overflow_cast-bytes
overflow_cast-bytes c =
    let good = write-good _ _ (sym c.judge_write.ensures ∙ c.in_ok-judge_write.was) in
    let w = good-limited _ good.0 in
    omega (arith, c.total-bytes.ensures, rows-most _ w, w.people, w.steps, w.rules)

pub returns : goal.returns
returns c =
    let w = good-leaves _ _ (sym c.judge_write.ensures ∙ c.in_ok-judge_write.was) in
    (ap Bytes c.total-bytes.ensures ∙ w.0, c.write_file.ensures ∙ w.1)
