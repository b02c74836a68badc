-- 12, 13 and 14 of the scope's table in words, and the tables of the calls.
use Rattle.std.specs.Prelude.{◌≡◌, false, List, [], ◌∷◌, ◌++◌, ℕ, suc, ◌≤◌, ◌<◌, length, get_or, take}
use Rattle.sets.specs.Sets.{size}
use Rattle.sets.specs.Stored.{width}
use Rattle.cases.specs.declared.Case.{Case}
use Rattle.cases.specs.Case.{people, steps}
use Rattle.cases.specs.Plans.{may, holds}
use Rattle.refusals.specs.Table.{Row, whole, Earliest, NamesPast, case_table}
use Rattle.asking.specs.Asking.{most_absent}

-- 13: an entry is unknown, not allowed, or makes the position invalid
pub data BadEntry (c : Case) (p : List ℕ) (i : ℕ) : Type 0 where
  unknown : people c ≤ get_or p i 0 → BadEntry c p i
  not_allowed : may c (get_or p i 0) i ≡ false → BadEntry c p i
  invalid : holds c (take (suc i) p) ≡ false → BadEntry c p i

-- 13: a position has as many entries as steps or more (place: step count), else such an entry (place: first such index)
pub data BadPosition (c : Case) (p : List ℕ) (place : ℕ) : Type 0 where
  too_long : steps c ≤ length p → place ≡ steps c → BadPosition c p place
  at_entry : length p < steps c → Earliest (length p) (λ i. i) (BadEntry c p) place → BadPosition c p place

-- 14: an absence set names an unknown person or has more than t
pub data BadAbsence (n t A : ℕ) : Type 0 where
  unknown_person : NamesPast width A n → BadAbsence n t A
  more_than : t < size width A → BadAbsence n t A

abbrev pub number_row : ℕ → Row
number_row t = whole 12 (most_absent < t)

abbrev pub position_row : Case → List ℕ → Row
position_row c p = record { number = 13; Met = BadPosition c p }

abbrev pub absence_row : ℕ → ℕ → ℕ → Row
absence_row n t A = whole 14 (BadAbsence n t A)

-- the tables of the calls
abbrev pub question_table : Case → ℕ → List Row
question_table c t = case_table c ++ (number_row t ∷ [])

abbrev pub away_table : Case → List ℕ → ℕ → List Row
away_table c p t = case_table c ++ (number_row t ∷ (position_row c p ∷ []))

abbrev pub advice_table : Case → List ℕ → ℕ → ℕ → List Row
advice_table c p t A = case_table c ++ (number_row t ∷ (position_row c p ∷ (absence_row (people c) t A ∷ [])))
