-- Each position calls for the next: the desk's choice first, at the same number of steps left. A loop holds what is left to try, from each position that agrees.
use Prim.Native.Nat.{ℕ, ◌+◌, ◌-◌, ◌*◌}
use Rattle.sets.specs.Sets.{size, difference}
use Rattle.sets.specs.Stored.{width, number}
use Rattle.games.specs.Walks.{plan}
use Rattle.cases.specs.declared.Filled.{Filled}
use Rattle.boards.specs.Arena.{board_arena}
use Rattle.boards.specs.Looked.{Agree}
use Rattle.lines.proofs.Scans as many
use Rattle.tries.specs.Outcomes.{SameAway}
use Rattle.tries.proofs.Scans.{Inside, Going}
use Rattle.tries.proofs.Turns.{plan_hunt}
use Rattle.tries.proofs.Choosing as choosing
use Rattle.plans.proofs.+plan_choice_plan_walk.Given as goal

abbrev pub decreases-plan_choice : goal.decreases-plan_choice
decreases-plan_choice l = 2 * l.left

abbrev pub decreases-plan_walk : goal.decreases-plan_walk
decreases-plan_walk l = 2 * l.left + 1

abbrev pub invariant-plan_choice-loop-trials : goal.invariant-plan_choice-loop-trials
invariant-plan_choice-loop-trials l =
    (q : Filled) → Agree l.looked l.p q
    → many.Going (choosing.plan_hunt l.board.words l.board.people q l.lines (number l.absent) (l.left - 1)) l.lines (plan (board_arena l.board.words l.board.people) (number l.absent) l.left q) l.limit l.at l.used tt

abbrev pub decreases-plan_choice-loop-trials : goal.decreases-plan_choice-loop-trials
decreases-plan_choice-loop-trials l = many.togo l.at

abbrev pub invariant-plan_walk-loop-trials : goal.invariant-plan_walk-loop-trials
invariant-plan_walk-loop-trials l =
    Inside (number l.line.fit) (number l.line.tried)
    × ((q : Filled) (B : ℕ) → Agree l.looked l.p q → SameAway (number l.met) (number l.absent) B
    → Going (plan_hunt l.board.words l.board.people B (l.left - 1) q) (plan (board_arena l.board.words l.board.people) B l.left q) l.limit (difference width (number l.line.tried) B) (difference width (number l.line.fit) B) l.used tt)

abbrev pub decreases-plan_walk-loop-trials : goal.decreases-plan_walk-loop-trials
decreases-plan_walk-loop-trials l = size width (difference width (number l.line.fit) (number l.absent))
