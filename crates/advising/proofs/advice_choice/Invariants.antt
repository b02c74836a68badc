-- Advice, where the desk may choose its step: the first good move of the lowest present person who has one. The cursor goes by: the loop holds that whatever
-- walk began with the first move goes on at the cursor.
use Rattle.std.proofs.Common.{ℕ, ◌-◌}
use Rattle.games.specs.Walks.{Search}
use Rattle.boards.specs.Arena.{Done}
use Rattle.lines.proofs.Scans.{Going, togo}
use Rattle.tries.proofs.Choosing.{advice_hunt}
use Rattle.advising.proofs.advice_choice.Given as goal

abbrev pub invariant-loop-trials : goal.invariant-loop-trials
invariant-loop-trials l =
    (w : Search (ℕ × Done)) → Going (advice_hunt l.board.words l.board.people l.p l.lines l.t (l.left - 1)) l.lines w l.limit l.initial.at l.initial.used tt
    → Going (advice_hunt l.board.words l.board.people l.p l.lines l.t (l.left - 1)) l.lines w l.limit l.at l.used tt

abbrev pub decreases-loop-trials : goal.decreases-loop-trials
decreases-loop-trials l = togo l.at
