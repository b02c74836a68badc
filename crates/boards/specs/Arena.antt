-- The arena of a board: a position is which steps are filled and by whom, and a move is a step done by a person.
use Rattle.std.specs.Prelude.{◌&&◌, List, map, ℕ}
use Rattle.sets.specs.Lists.{only_if, upto, keep}
use Rattle.sets.specs.Sets.{has}
use Rattle.games.specs.Arena.{Arena}
use Rattle.cases.specs.declared.Filled.{Filled}
use Rattle.cases.specs.Case.{most_steps}
use Rattle.cases.specs.Filled.{placed_at}
use Rattle.boards.specs.Board.{allowed_on, ready_on, fits_on}

pub record Done : Type 0 where
  pub step : ℕ
  pub person : ℕ

-- done by person u, at step s
abbrev pub by : ℕ → ℕ → Done
by u s = record { step = s; person = u }

-- the position that person u at step s leaves
unfoldable pub put_on : Filled → ℕ → ℕ → Filled
put_on p u s = placed_at p s (record { 0 = u })

module _ (b : List ℕ) (n : ℕ) where
  -- for n people: a person's moves are the ready steps that they may do, ascending; a move leaves a position where the person fits
  abbrev pub board_arena : Arena
  board_arena =
      record {
        Pos = Filled;
        Move = Done;
        people = n;
        moves = λ p u. map (by u) (keep (λ s. has (ready_on b p) s && has (allowed_on b s) u) (upto most_steps));
        after = λ p m. only_if (has (fits_on b p m.step) m.person) (put_on p m.person m.step);
      }
