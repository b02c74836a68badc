-- The dynamic walk, where one step is ready and where the desk may choose its step: each calls for the walks of the positions with one step more filled.
-- What a loop holds it holds from every position that agrees with p at the steps looked at so far.
use Rattle.std.proofs.Common.{◌+◌, ◌-◌, ◌*◌}
use Rattle.sets.specs.Sets.{size}
use Rattle.sets.specs.Stored.{width, number}
use Rattle.games.specs.Walks.{dynamic}
use Rattle.cases.specs.declared.Filled.{Filled}
use Rattle.boards.specs.Arena.{board_arena}
use Rattle.boards.specs.Looked.{Agree}
use Rattle.lines.proofs.Scans as many
use Rattle.lines.proofs.Showing as many-shown
use Rattle.tries.specs.Trying.{InLine}
use Rattle.tries.proofs.Scans.{Going}
use Rattle.tries.proofs.Turns.{dynamic_hunt}
use Rattle.tries.proofs.Showing.{Shown}
use Rattle.tries.proofs.Choosing as choosing
use Rattle.rounds.proofs.+dynamic_choice_dynamic_from.Given as goal

-- the steps left fall with each placing; the choice at a position comes after the walk from it
abbrev pub decreases-dynamic_choice : goal.decreases-dynamic_choice
decreases-dynamic_choice l = 2 * l.left

abbrev pub decreases-dynamic_from : goal.decreases-dynamic_from
decreases-dynamic_from l = 2 * l.left + 1

abbrev pub invariant-dynamic_choice-loop-trials : goal.invariant-dynamic_choice-loop-trials
invariant-dynamic_choice-loop-trials l =
    ((q : Filled) → Agree l.looked l.p q
    → many.Going (choosing.dynamic_hunt l.board.words l.board.people q l.lines l.t (l.left - 1)) l.lines (dynamic (board_arena l.board.words l.board.people) l.t l.left q) l.limit l.at l.used (l.found, number l.shown))
    × many-shown.Shown l.at.person (number l.shown) l.found l.t

abbrev pub decreases-dynamic_choice-loop-trials : goal.decreases-dynamic_choice-loop-trials
decreases-dynamic_choice-loop-trials l = many.togo l.at

abbrev pub invariant-dynamic_from-loop-trials : goal.invariant-dynamic_from-loop-trials
invariant-dynamic_from-loop-trials l =
    ((q : Filled) → Agree l.looked l.p q
    → InLine l.board.words l.board.people 0 q (number l.whole.tried) (number l.whole.fit)
    × Going (dynamic_hunt l.board.words l.board.people l.t (l.left - 1) q) (dynamic (board_arena l.board.words l.board.people) l.t l.left q) l.limit (number l.line.tried) (number l.line.fit) l.used (l.found, number l.shown))
    × Shown (number l.line.tried) (number l.shown) l.found l.t

abbrev pub decreases-dynamic_from-loop-trials : goal.decreases-dynamic_from-loop-trials
decreases-dynamic_from-loop-trials l = size width (number l.line.fit)
