-- The scope's table of refusals, 1 to 11, for a file.
use Rattle.std.specs.Prelude.{◌≡◌, List, ◌∷◌, ℕ, ◌<◌, length}
use Rattle.cases.specs.declared.Counts.{Counts}
use Rattle.refusals.specs.Offsets.{people_at, steps_at, tables_at, rules_at, total_of}
use Rattle.refusals.specs.Table.{Row, whole, TooMany, entry_rows}
use Rattle.words.specs.Word.{word}
use Rattle.layout.specs.Layout.{counts_of, case_of}

-- 5: an offset or the total is not what the counts give
pub data Misplaced (f : List ℕ) (n : Counts) : Type 0 where
  people_elsewhere : (word f 12 ≡ people_at → ⊥) → Misplaced f n
  steps_elsewhere : (word f 14 ≡ steps_at n → ⊥) → Misplaced f n
  tables_elsewhere : (word f 16 ≡ tables_at n → ⊥) → Misplaced f n
  rules_elsewhere : (word f 18 ≡ rules_at n → ⊥) → Misplaced f n
  other_total : (word f 20 ≡ total_of n → ⊥) → Misplaced f n

-- 1: fewer than 24 bytes; 2: edition is not 1; 3: last header number is not 0; 4: a count is above its limit; 5; 6: input length is not the total;
-- then 7 to 11 of the case that the file holds
abbrev pub file_table : List ℕ → List Row
file_table f =
    whole 1 (length f < 24)
    ∷ (whole 2 (word f 0 ≡ 1 → ⊥)
    ∷ (whole 3 (word f 22 ≡ 0 → ⊥)
    ∷ (whole 4 (TooMany (counts_of f))
    ∷ (whole 5 (Misplaced f (counts_of f)) ∷ (whole 6 (length f ≡ word f 20 → ⊥) ∷ entry_rows (case_of f))))))
