-- One check after another: each that is good leaves the rest, and the first that refuses is the refusal.
use Rattle.headers.specs.Checks.{head_checks}
use Rattle.judging.proofs.Turns.{turn-over, turn-ends}
use Rattle.headers.proofs.judge_header.Goals as goal

pub returns-in_err-refused_if : goal.returns-in_err-refused_if
unfolding head_checks
returns-in_err-refused_if c =
    turn-ends _ _ c.refused_if.ensures c.in_err-refused_if.was c.from_residual.ensures.1

pub returns-in_err-refused_if-2 : goal.returns-in_err-refused_if-2
unfolding head_checks
returns-in_err-refused_if-2 c =
    turn-over _ _ c.refused_if.ensures c.in_ok-refused_if.was
    (turn-ends _ _ (rw c.word_at.ensures at c.refused_if-2.ensures) c.in_err-refused_if-2.was c.from_residual-in_err-refused_if-2.ensures.1)

pub returns-in_err-refused_if-3 : goal.returns-in_err-refused_if-3
unfolding head_checks
returns-in_err-refused_if-3 c =
    turn-over _ _ c.refused_if.ensures c.in_ok-refused_if.was
    (turn-over _ _ (rw c.word_at.ensures at c.refused_if-2.ensures) c.in_ok-refused_if-2.was
    (turn-ends _ _ (rw c.word_at-2.ensures at c.refused_if-3.ensures) c.in_err-refused_if-3.was c.from_residual-in_err-refused_if-3.ensures.1))

pub returns-in_err-refused_if-4 : goal.returns-in_err-refused_if-4
unfolding head_checks
returns-in_err-refused_if-4 c =
    turn-over _ _ c.refused_if.ensures c.in_ok-refused_if.was
    (turn-over _ _ (rw c.word_at.ensures at c.refused_if-2.ensures) c.in_ok-refused_if-2.was
    (turn-over _ _ (rw c.word_at-2.ensures at c.refused_if-3.ensures) c.in_ok-refused_if-3.was
    (turn-ends _ _ (rw (c.too_many.ensures, c.counts-n.ensures) at c.refused_if-4.ensures) c.in_err-refused_if-4.was c.from_residual-in_err-refused_if-4.ensures.1)))

pub returns-in_err-refused_if-5 : goal.returns-in_err-refused_if-5
unfolding head_checks
returns-in_err-refused_if-5 c =
    turn-over _ _ c.refused_if.ensures c.in_ok-refused_if.was
    (turn-over _ _ (rw c.word_at.ensures at c.refused_if-2.ensures) c.in_ok-refused_if-2.was
    (turn-over _ _ (rw c.word_at-2.ensures at c.refused_if-3.ensures) c.in_ok-refused_if-3.was
    (turn-over _ _ (rw (c.too_many.ensures, c.counts-n.ensures) at c.refused_if-4.ensures) c.in_ok-refused_if-4.was
    (turn-ends _ _ (rw (c.is_misplaced.ensures, c.counts-n.ensures) at c.refused_if-5.ensures) c.in_err-refused_if-5.was c.from_residual-in_err-refused_if-5.ensures.1))))

pub returns : goal.returns
unfolding head_checks
returns c =
    turn-over _ _ c.refused_if.ensures c.in_ok-refused_if.was
    (turn-over _ _ (rw c.word_at.ensures at c.refused_if-2.ensures) c.in_ok-refused_if-2.was
    (turn-over _ _ (rw c.word_at-2.ensures at c.refused_if-3.ensures) c.in_ok-refused_if-3.was
    (turn-over _ _ (rw (c.too_many.ensures, c.counts-n.ensures) at c.refused_if-4.ensures) c.in_ok-refused_if-4.was
    (turn-over _ _ (rw (c.is_misplaced.ensures, c.counts-n.ensures) at c.refused_if-5.ensures) c.in_ok-refused_if-5.was (rw c.offset.ensures at c.refused_if-6.ensures)))))
