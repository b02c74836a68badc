-- A file is judged exactly by the scope's table.
use mathlib.Core.Path.{◌≡◌, refl}
use mathlib.Core.Logic.{◌⊎◌, inl, inr, ◌↔◌}
use mathlib.Core.Bool.{true}
use mathlib.Core.List.{List}
use Prim.Native.Nat.{ℕ}
use Rattle.cases.specs.declared.Counts.{Counts}
use Rattle.refusals.specs.Offsets.{people_at, steps_at, tables_at, rules_at, total_of}
use Rattle.refusals.specs.Table.{Exactly}
use Rattle.refusals.proofs.Table.{Told, exactly, only-tells}
use Rattle.refusals.proofs.Conditions.{either_is, below-is, differs-is, too_many_lem}
use Rattle.refusals.proofs.Cases.{entries-tell}
use Rattle.words.specs.Word.{word}
use Rattle.layout.specs.Layout.{counts_of, case_of}
use Rattle.headers.specs.Checks.{misplaced, head_checks}
use Rattle.files.specs.Checks.{file_checks, judged_file}
use Rattle.files.specs.FileTable.{Misplaced, people_elsewhere, steps_elsewhere, tables_elsewhere, rules_elsewhere, other_total, file_table}

-- one of the five numbers is another
abbrev Elsewhere : List ℕ → Counts → Type 0
Elsewhere f n =
    (word f 12 ≡ people_at → ⊥)
    ⊎ ((word f 14 ≡ steps_at n → ⊥) ⊎ ((word f 16 ≡ tables_at n → ⊥) ⊎ ((word f 18 ≡ rules_at n → ⊥) ⊎ (word f 20 ≡ total_of n → ⊥))))

misplaced-is : (f : List ℕ) (n : Counts) → (misplaced f n ≡ true) ↔ Misplaced f n
unfolding misplaced
misplaced-is f n = (λ e. to (sums.0 e), λ k. sums.1 (from k))
  where
    sums : (misplaced f n ≡ true) ↔ Elsewhere f n
    sums =
        either_is _ _ (differs-is _ _)
        (either_is _ _ (differs-is _ _) (either_is _ _ (differs-is _ _) (either_is _ _ (differs-is _ _) (differs-is _ _))))

    to : Elsewhere f n → Misplaced f n
    to (inl h) = people_elsewhere h
    to (inr (inl h)) = steps_elsewhere h
    to (inr (inr (inl h))) = tables_elsewhere h
    to (inr (inr (inr (inl h)))) = rules_elsewhere h
    to (inr (inr (inr (inr h)))) = other_total h

    from : Misplaced f n → Elsewhere f n
    from (people_elsewhere h) = inl h
    from (steps_elsewhere h) = inr (inl h)
    from (tables_elsewhere h) = inr (inr (inl h))
    from (rules_elsewhere h) = inr (inr (inr (inl h)))
    from (other_total h) = inr (inr (inr (inr h)))

file-tells : (f : List ℕ) → Told (file_checks f) (file_table f)
unfolding file_checks head_checks
file-tells f = (
  only-tells 1 _ _ (below-is _ _),
  (
    only-tells 2 _ _ (differs-is _ _),
    (
      only-tells 3 _ _ (differs-is _ _),
      (
        only-tells 4 _ _ (too_many_lem (counts_of f)),
        (
          only-tells 5 _ _ (misplaced-is f (counts_of f)),
          (
            only-tells 6 _ _ (differs-is _ _),
            entries-tell (case_of f),
          ),
        ),
      ),
    ),
  ),
)

-- The number given is n exactly if n is met and no lower one is, and its place is the earliest entry's; a file is good exactly if none is met.
pub file-exactly : (f : List ℕ) → Exactly (file_table f) (judged_file f)
unfolding judged_file
file-exactly f = exactly (file_checks f) (file_table f) (file-tells f) refl
