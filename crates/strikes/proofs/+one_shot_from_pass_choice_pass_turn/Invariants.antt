-- The turns of the one-shot game before the strike call for each other until no step is left: the away side's, and the desk's, which goes along one line where
use Prim.Native.Nat.{◌+◌, ◌-◌, ◌*◌}
use Rattle.sets.specs.Sets.{size}
use Rattle.sets.specs.Stored.{width, number}
use Rattle.cases.specs.declared.Filled.{Filled}
use Rattle.boards.specs.Looked.{Agree}
use Rattle.lines.proofs.Scans as many
use Rattle.tries.specs.Outcomes.{pass_on}
use Rattle.tries.proofs.Scans.{Going}
use Rattle.tries.proofs.Turns.{pass_hunt}
use Rattle.tries.proofs.Choosing as choosing
use Rattle.strikes.proofs.+one_shot_from_pass_choice_pass_turn.Given as goal

abbrev pub decreases-one_shot_from : goal.decreases-one_shot_from
decreases-one_shot_from l = 3 * l.left + 2

abbrev pub decreases-pass_choice : goal.decreases-pass_choice
decreases-pass_choice l = 3 * l.left

abbrev pub decreases-pass_turn : goal.decreases-pass_turn
decreases-pass_turn l = 3 * l.left + 1

abbrev pub invariant-pass_choice-loop-trials : goal.invariant-pass_choice-loop-trials
invariant-pass_choice-loop-trials l =
    (q : Filled) → Agree l.looked l.p q
    → many.Going (choosing.pass_hunt l.board.words l.board.people q l.lines l.t (l.left - 1)) l.lines (pass_on l.board.words l.board.people l.t (l.left - 1) q) l.limit l.at l.used tt

abbrev pub decreases-pass_choice-loop-trials : goal.decreases-pass_choice-loop-trials
decreases-pass_choice-loop-trials l = many.togo l.at

abbrev pub invariant-pass_turn-loop-trials : goal.invariant-pass_turn-loop-trials
invariant-pass_turn-loop-trials l =
    (q : Filled) → Agree l.looked l.p q
    → Going (pass_hunt l.board.words l.board.people l.t (l.left - 1) q) (pass_on l.board.words l.board.people l.t (l.left - 1) q) l.limit (number l.line.tried) (number l.line.fit) l.used tt

abbrev pub decreases-pass_turn-loop-trials : goal.decreases-pass_turn-loop-trials
decreases-pass_turn-loop-trials l = size width (number l.line.fit)
