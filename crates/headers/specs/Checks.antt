-- What the header of a file is judged by: 1 to 6, by its numbers and the length of the file.
use Rattle.std.specs.Prelude.{Bool, not, ◌||◌, List, [], ◌∷◌, ℕ, ltb, eqb, length}
use Rattle.cases.specs.declared.Counts.{Counts}
use Rattle.refusals.specs.Refusals.{Check, only_check}
use Rattle.refusals.specs.Offsets.{people_at, steps_at, tables_at, rules_at, total_of}
use Rattle.refusals.specs.CaseChecks.{too_many}
use Rattle.words.specs.Word.{word}
use Rattle.layout.specs.Layout.{counts_of}

-- 5: an offset or the total is not what the counts give
unfoldable pub misplaced : List ℕ → Counts → Bool
misplaced f n =
    not (eqb (word f 12) people_at)
    || (not (eqb (word f 14) (steps_at n))
    || (not (eqb (word f 16) (tables_at n)) || (not (eqb (word f 18) (rules_at n)) || not (eqb (word f 20) (total_of n)))))

-- 1: fewer than 24 bytes; 2: edition is not 1; 3: last header number is not 0; 4: a count is above its limit; 5; 6: input length is not the total
unfoldable pub head_checks : List ℕ → List Check
head_checks f =
    only_check 1 (ltb (length f) 24)
    ∷ (only_check 2 (not (eqb (word f 0) 1))
    ∷ (only_check 3 (not (eqb (word f 22) 0))
    ∷ (only_check 4 (too_many (counts_of f))
    ∷ (only_check 5 (misplaced f (counts_of f)) ∷ (only_check 6 (not (eqb (length f) (word f 20))) ∷ [])))))
