-- What is read off the rows of a board stays while what stands behind the rows is put.
use mathlib.Core.Path.{◌≡◌, refl, ap, ap₂, ◌∙◌}
use mathlib.Core.List.{List}
use Prim.Native.Nat.{ℕ, zero, suc, ◌≤◌, ◌<◌}
use native.Mathlib.Omega.{arith}
use lib.Dec.{ltb}
use lib.ListN.{get_or}
use Rattle.sets.specs.Lists.{pick}
use Rattle.sets.specs.Sets.{has}
use Rattle.sets.specs.Stored.{width, set_at}
use Rattle.sets.proofs.Counting.{set_of-ext}
use Rattle.cases.specs.Case.{most_people}
use Rattle.boards.specs.Board.{relations, columns_from, loops_from, row_place}
use Rattle.pieces.specs.Pieces.{gathered_in, column_in, having_in, loops_in, laid_from, Put}
use Rattle.pieces.proofs.Writing.{from-below, from-cong}
use Rattle.laying.specs.Putting.{PutBlocks}
use Rattle.laying.proofs.Building.{blocks-below}

-- two boards with the same rows
abbrev SameRows : List ℕ → List ℕ → Type 0
SameRows out l = (i : ℕ) → i < columns_from → get_or out i 0 ≡ get_or l i 0

module _ (out l : List ℕ) (same : SameRows out l) where
  row-still : (k u v : ℕ) → k < relations → u < most_people → has (set_at out (row_place k u)) v ≡ has (set_at l (row_place k u)) v
  unfolding set_at
  row-still k u v there h = ap (λ (s : ℕ). has s v) (same (row_place k u) (omega arith))

  column-still : (k v : ℕ) → k < relations → v < most_people → column_in out k v ≡ column_in l k v
  unfolding column_in gathered_in set_at
  column-still k v there h = ap₂ (λ (x y : ℕ). pick (ltb k 2) x y) (same (row_place k v) (omega arith)) (set_of-ext _ _ width (λ u i. row-still k u v there i))

  loops-still : (n k : ℕ) → k < relations → loops_in out n k ≡ loops_in l n k
  unfolding having_in
  loops-still n zero there = refl
  loops-still n (suc zero) there = refl
  loops-still n (suc (suc k)) there = set_of-ext _ _ width (λ u h. row-still (suc (suc k)) u u there h)

-- the columns of one relation, then of each
pub column-next : (a n k v r : ℕ) {i : ℕ} {l out : List ℕ} → Put a n (column_in l k) l i out → columns_from ≤ a → n ≤ most_people → k < relations
    → v < n → r ≡ column_in out k v → r ≡ column_in l k v
column-next a n k v r {i} {l} {out} g h small there known e =
    e ∙ column-still out l (λ j b. ap (λ (x : List ℕ). get_or x j 0) g.so ∙ from-below a (column_in l k) i l j (omega arith)) k v there (omega arith)

pub columns-next : (m n k a' : ℕ) {l out out' : List ℕ} → PutBlocks columns_from m n (column_in l) l k out → n ≤ most_people → k < relations
    → out' ≡ laid_from a' n (column_in out k) out → out' ≡ laid_from a' n (column_in l k) out
columns-next m n k a' {l} {out} {out'} g small there e =
    e ∙ from-cong a' n (column_in out k) (column_in l k) out
    (λ v h. column-still out l
    (λ j b. ap (λ (x : List ℕ). get_or x j 0) g.so ∙ blocks-below columns_from n (column_in l) k l j b) k v there (omega arith))

pub loops-next : (m n r : ℕ) {k : ℕ} {l out : List ℕ} → Put loops_from m (loops_in l n) l k out → k < relations → r ≡ loops_in out n k → r ≡ loops_in l n k
loops-next m n r {k} {l} {out} g there e =
    e ∙ loops-still out l (λ j b. ap (λ (x : List ℕ). get_or x j 0) g.so ∙ from-below loops_from (loops_in l n) k l j (omega arith)) n k there
