-- Advice, where one step is ready: the first person in line whose placing leaves a good position. The line goes by: the loop holds that whatever walk began
-- with the whole line goes on with what is left of it.
use Rattle.std.proofs.Common.{ℕ, ◌-◌}
use Rattle.sets.specs.Sets.{size}
use Rattle.sets.specs.Stored.{width, number}
use Rattle.games.specs.Walks.{Search}
use Rattle.boards.specs.Arena.{Done}
use Rattle.tries.proofs.Scans.{Going}
use Rattle.tries.proofs.Turns.{advice_hunt}
use Rattle.advising.proofs.advice_walk.Given as goal

abbrev pub invariant-loop-trials : goal.invariant-loop-trials
invariant-loop-trials l =
    (w : Search (ℕ × Done)) → Going (advice_hunt l.board.words l.board.people l.t (l.left - 1) l.p) w l.limit (number l.initial.line.tried) (number l.initial.line.fit) l.initial.used tt
    → Going (advice_hunt l.board.words l.board.people l.t (l.left - 1) l.p) w l.limit (number l.line.tried) (number l.line.fit) l.used tt

abbrev pub decreases-loop-trials : goal.decreases-loop-trials
decreases-loop-trials l = size width (number l.line.fit)
