-- The turns of the desk that are summed over, one for each absence set, and what is said of them.
use Rattle.std.proofs.Math.Option.{none}
use Rattle.std.specs.Prelude.{List, Option, Some, None, ℕ, zero, suc, ◌+◌}
use Rattle.sets.specs.Sets.{size}
use Rattle.sets.specs.Stored.{number}
use Rattle.games.specs.Walks.{Search, if_none, unbeaten, desk, decremental}
use Rattle.cases.specs.declared.Filled.{Filled}
use Rattle.boards.specs.Arena.{board_arena}
use Rattle.sums.specs.declared.Absences.{Absences}
use Rattle.sums.specs.Sums.{Summed, Comes}
use Rattle.sums.specs.Arrays.{weight_of}
use Rattle.reckoning.specs.declared.Reckoned.{Reckoned}

module _ (b : List ℕ) (n t : ℕ) where
  -- A turn of the desk with S away and k steps left: S where it beats the desk. More may go before each later step, up to t.
  unfoldable pub turn_on : ℕ → Filled → ℕ → Search ℕ
  turn_on zero p S = record { got = none; trials = 0 }
  turn_on (suc k) p S = if_none S (desk (board_arena b n) (λ q. unbeaten (decremental (board_arena b n) t k S q)) S p)

-- what an answer says of the turns with k steps left: where there is a sum, no set beats the desk, and it is that of their trials
abbrev pub Says : List ℕ → ℕ → Absences → ℕ → Filled → Option Reckoned → Type 0
Says b n sets k p (Some r) =
    Summed (turn_on b n (sets.room + size n (number sets.held)) k p) n (weight_of sets) sets.room (number sets.held) r.trials
Says b n sets k p None = Unit {0}

-- what an answer says of a walk: where there is a sum, the walk comes to no set, and it is that of its trials
abbrev pub Tells : Search ℕ → Option Reckoned → Type 0
Tells w (Some r) = Comes w r.trials
Tells w None = Unit {0}
