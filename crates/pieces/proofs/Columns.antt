-- Columns and loops, relation by relation: told at once for the first two relations, and read off the rows for the tables.
use mathlib.Core.Path.{◌≡◌, sym, ap, ◌∙◌}
use mathlib.Core.Bool.{Bool}
use mathlib.Core.List.{List}
use Prim.Native.Nat.{ℕ, suc, ◌-◌, ◌≤◌, ◌<◌}
use native.Mathlib.Omega.{arith}
use borrow.Author.Tests.{lt-ltb, le-ltb}
use Rattle.sets.specs.Lists.{pick}
use Rattle.sets.specs.Sets.{everybody}
use Rattle.sets.specs.Stored.{width, set_at}
use Rattle.boards.specs.Board.{row_place}
use Rattle.pieces.specs.Pieces.{gathered_in, column_in, having_in, loops_in}

-- a column is a row, or is gathered
module _ (b : List ℕ) (k v r : ℕ) where
  pub column-row : k < 2 → r ≡ set_at b (row_place k v) → r ≡ column_in b k v
  unfolding column_in
  column-row h e = e ∙ sym (ap (λ (d : Bool). pick d (set_at b (row_place k v)) (gathered_in b k v)) (lt-ltb k 2 h))

  pub column-gathered : 2 ≤ k → r ≡ gathered_in b k v → r ≡ column_in b k v
  unfolding column_in
  column-gathered h e = e ∙ sym (ap (λ (d : Bool). pick d (set_at b (row_place k v)) (gathered_in b k v)) (le-ltb k 2 h))

-- the people who are in a relation with themselves, relation by relation
module _ (b : List ℕ) (n k r : ℕ) where
  pub loops-same : k ≡ 0 → r ≡ everybody width n → r ≡ loops_in b n k
  loops-same q e = e ∙ ap (loops_in b n) (sym q)

  pub loops-different : k ≡ 1 → r ≡ 0 → r ≡ loops_in b n k
  loops-different q e = e ∙ ap (loops_in b n) (sym q)

  pub loops-table : (k ≡ 0 → ⊥) → (k ≡ 1 → ⊥) → r ≡ having_in b k → r ≡ loops_in b n k
  loops-table a d e =
      let at : suc (suc (k - 2)) ≡ k = omega arith in
      e ∙ ap (having_in b) (sym at) ∙ ap (loops_in b n) at
