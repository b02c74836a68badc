-- The walk of a question, from the start.
use mathlib.Core.Path.{◌≡◌, sym, ap, ◌∙◌}
use mathlib.Core.Option.{Option}
use native.Mathlib.Omega.{arith}
use lib.Pow.{pow_pos}
use Prim.Native.Nat.{ℕ}
use Rattle.sets.proofs.Counting.{size-empty}
use Rattle.games.specs.Limit.{Answer, cut}
use Rattle.tries.proofs.Turns.{nobody-shown}
use Rattle.planner.specs.declared.Question.{Question}
use Rattle.planner.specs.OnBoard.{walk_on}
use mathlib.Core.List.{List}
use Prim.Native.Nat.{ℕ}
use Rattle.planner.proofs.walk.Goals as goal

-- the walk of the question that was asked
asked : (board : List ℕ) (people t steps limit : ℕ) (q x : Question) {a : Answer (Option ℕ)} → q ≡ x
    → a ≡ cut limit (walk_on x board people t steps)
    → a ≡ cut limit (walk_on q board people t steps)
asked board people t steps limit q x e k = k ∙ ap (λ y. cut limit (walk_on y board people t steps)) (sym e)

pub away_turn-requires : goal.away_turn-requires
away_turn-requires c = (rw (nobody-shown c.none.ensures) (pow_pos _), rw (nobody-shown c.none.ensures, size-empty) (omega arith))

pub returns-in-Static : goal.returns-in-Static
returns-in-Static c =
    asked _ _ _ _ _ c.args.question _ c.in-Static.is (rw c.start-start.ensures at c.static_walk.ensures)

pub returns-in-Decremental : goal.returns-in-Decremental
returns-in-Decremental c =
    asked _ _ _ _ _ c.args.question _ c.in-Decremental.is
    (rw (c.start-start.ensures, nobody-shown c.none.ensures) at c.away_turn.ensures)

pub returns-in-OneShot : goal.returns-in-OneShot
returns-in-OneShot c =
    asked _ _ _ _ _ c.args.question _ c.in-OneShot.is (rw c.start-start.ensures at c.one_shot_walk.ensures)

pub returns-in-Dynamic : goal.returns-in-Dynamic
returns-in-Dynamic c =
    asked _ _ _ _ _ c.args.question _ c.in-Dynamic.is (rw c.start-start.ensures at c.dynamic_walk.ensures)
