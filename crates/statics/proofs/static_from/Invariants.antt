-- The sets of at most t people, in ascending number, a plan walk each.
use Prim.Native.Nat.{◌-◌, ◌^◌}
use Rattle.sets.specs.Stored.{number}
use Rattle.games.specs.Walks.{if_none, plan, static}
use Rattle.cases.specs.declared.Filled.{Filled}
use Rattle.boards.specs.Arena.{board_arena}
use Rattle.boards.specs.Looked.{Agree}
use Rattle.tries.proofs.Sweeps.{Sweep}
use Rattle.statics.proofs.static_from.Given as goal

abbrev pub invariant-loop-trials : goal.invariant-loop-trials
invariant-loop-trials l =
    (q : Filled) → Agree l.looked l.p q
    → Sweep (λ A. if_none A (plan (board_arena l.board.words l.board.people) A l.left q)) (static (board_arena l.board.words l.board.people) l.t l.left q) l.board.people l.t 0 l.limit (number l.set) l.used

abbrev pub decreases-loop-trials : goal.decreases-loop-trials
decreases-loop-trials l = 2 ^ l.board.people - number l.set
