-- The invariant: the entries passed are those of the shorter position, and none of them failed.
use Rattle.asking.proofs.Steps.{Passed}
use Rattle.asking.proofs.judge_position.Given as goal

abbrev pub invariant-loop-i : goal.invariant-loop-i
invariant-loop-i l = Passed l.board l.people l.p l.i l.passed
