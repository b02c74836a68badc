-- The two turns of the decremental game call for each other until no step is left: where one step is ready along one line, else among lines of moves.
use Prim.Native.Nat.{◌+◌, ◌-◌, ◌*◌, ◌^◌}
use Rattle.sets.specs.Sets.{size}
use Rattle.sets.specs.Stored.{width, number}
use Rattle.games.specs.Walks.{decremental}
use Rattle.cases.specs.declared.Filled.{Filled}
use Rattle.boards.specs.Arena.{board_arena}
use Rattle.boards.specs.Looked.{Agree}
use Rattle.lines.proofs.Scans as many
use Rattle.tries.specs.Outcomes.{beats_on}
use Rattle.tries.proofs.Scans.{Going}
use Rattle.tries.proofs.Sweeps.{Sweep}
use Rattle.tries.proofs.Turns.{desk_hunt}
use Rattle.tries.proofs.Choosing as choosing
use Rattle.losses.proofs.+away_choice_away_from_desk_choice_desk_turn.Given as goal

abbrev pub decreases-away_choice : goal.decreases-away_choice
decreases-away_choice l = 3 * l.left + 1

abbrev pub decreases-away_from : goal.decreases-away_from
decreases-away_from l = 3 * l.left + 2

abbrev pub decreases-desk_choice : goal.decreases-desk_choice
decreases-desk_choice l = 3 * l.left

abbrev pub decreases-desk_turn : goal.decreases-desk_turn
decreases-desk_turn l = 3 * l.left

abbrev pub invariant-away_from-loop-trials : goal.invariant-away_from-loop-trials
invariant-away_from-loop-trials l =
    (q : Filled) → Agree l.looked l.p q
    → Sweep (beats_on l.board.words l.board.people l.t (l.left - 1) q) (decremental (board_arena l.board.words l.board.people) l.t l.left (number l.away) q) l.board.people l.t (number l.away) l.limit (number l.gone) l.used

abbrev pub decreases-away_from-loop-trials : goal.decreases-away_from-loop-trials
decreases-away_from-loop-trials l = 2 ^ l.board.people - number l.gone

abbrev pub invariant-away_choice-loop-trials : goal.invariant-away_choice-loop-trials
invariant-away_choice-loop-trials l =
    (q : Filled) → Agree l.looked l.p q
    → Sweep (beats_on l.board.words l.board.people l.t (l.left - 1) q) (decremental (board_arena l.board.words l.board.people) l.t l.left (number l.away) q) l.board.people l.t (number l.away) l.limit (number l.gone) l.used

abbrev pub decreases-away_choice-loop-trials : goal.decreases-away_choice-loop-trials
decreases-away_choice-loop-trials l = 2 ^ l.board.people - number l.gone

abbrev pub invariant-desk_turn-loop-trials : goal.invariant-desk_turn-loop-trials
invariant-desk_turn-loop-trials l =
    (q : Filled) → Agree l.looked l.p q
    → Going (desk_hunt l.board.words l.board.people l.t (number l.away) (l.left - 1) q) (beats_on l.board.words l.board.people l.t (l.left - 1) q (number l.away)) l.limit (number l.line.tried) (number l.line.fit) l.used tt

abbrev pub decreases-desk_turn-loop-trials : goal.decreases-desk_turn-loop-trials
decreases-desk_turn-loop-trials l = size width (number l.line.fit)

abbrev pub invariant-desk_choice-loop-trials : goal.invariant-desk_choice-loop-trials
invariant-desk_choice-loop-trials l =
    (q : Filled) → Agree l.looked l.p q
    → many.Going (choosing.desk_hunt l.board.words l.board.people q l.lines l.t (number l.away) (l.left - 1)) l.lines (beats_on l.board.words l.board.people l.t (l.left - 1) q (number l.away)) l.limit l.at l.used tt

abbrev pub decreases-desk_choice-loop-trials : goal.decreases-desk_choice-loop-trials
decreases-desk_choice-loop-trials l = many.togo l.at
