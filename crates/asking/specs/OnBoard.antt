-- 13 as a board tells it: for the board of a good case it is 13 of the case.
use Rattle.std.specs.Prelude.{Bool, not, ◌||◌, List, ℕ, ltb, length, get_or, take}
use Rattle.std.proofs.Math.Option.{some}
use Rattle.sets.specs.Lists.{pick}
use Rattle.sets.specs.Sets.{has}
use Rattle.cases.specs.declared.Filled.{Filled}
use Rattle.boards.specs.Board.{allowed_on, fits_on}
use Rattle.meaning.specs.Listed.{filled_by}
use Rattle.refusals.specs.Refusals.{Check, refusal, entry_check}

-- placed at step s, person v is unknown, not allowed, or breaks a rule
unfoldable pub bad_next : List ℕ → ℕ → Filled → ℕ → ℕ → Bool
bad_next board n p s v = not (ltb v n) || (not (has (allowed_on board s) v) || not (has (fits_on board p s) v))

-- for n people, entry i of a position is so
unfoldable pub bad_entry_on : List ℕ → ℕ → List ℕ → ℕ → Bool
bad_entry_on board n p i = bad_next board n (filled_by (take i p)) i (get_or p i 0)

-- for n people and so many steps
unfoldable pub position_check_on : List ℕ → ℕ → ℕ → List ℕ → Check
position_check_on board n steps p =
    pick (ltb (length p) steps) (entry_check 13 (λ i. i) (bad_entry_on board n p) (length p)) (some (refusal 13 steps))
