-- The sizes of a case, and a board with its parts put onto it.
use Rattle.std.specs.Prelude.{◌≡◌, ◌&&◌, List, ℕ, ◌+◌, ◌-◌, ◌*◌, ◌/◌, ◌%◌, ◌≤◌, ◌<◌, leb, ltb, length, get_or}
use Rattle.sets.specs.Lists.{pick}
use Rattle.words.specs.Part.{table}
use Rattle.cases.specs.declared.Counts.{Counts}
use Rattle.cases.specs.Case.{most_people}
use Rattle.boards.specs.Board.{places}
use Rattle.laying.specs.declared.sizes.Sizes.{Sizes}

-- the sizes of a case with these counts
pub record Sized (n : Counts) (z : Sizes) : Type 0 where
  pub people : z.people ≡ n.people
  pub kinds : z.kinds ≡ n.tables + 2
  pub rows : z.rows ≡ n.tables * n.people
  pub steps : z.steps ≡ n.steps
  pub rules : z.rules ≡ n.rules

-- from place a on m blocks, one after the other, each with room for every person: in block k f k 0, .., f k (n - 1)
unfoldable pub laid_blocks : ℕ → ℕ → ℕ → (ℕ → ℕ → ℕ) → List ℕ → List ℕ
laid_blocks a m n f l =
    table
    (λ i. pick (leb a i && (ltb ((i - a) / most_people) m && ltb ((i - a) % most_people) n)) (f ((i - a) / most_people) ((i - a) % most_people)) (get_or l i 0))
    (length l)

-- ---- How far the laying out has come

-- of m blocks of a part, k are put
pub record PutBlocks (a m n : ℕ) (f : ℕ → ℕ → ℕ) (l : List ℕ) (k : ℕ) (out : List ℕ) : Type 0 where
  pub upto : k ≤ m
  pub so : out ≡ laid_blocks a k n f l

-- of the board b the places below a are laid; from there on it is empty
pub record Front (b : List ℕ) (a : ℕ) (out : List ℕ) : Type 0 where
  pub long : length out ≡ places
  pub done : (i : ℕ) → i < a → get_or out i 0 ≡ get_or b i 0
  pub rest : (i : ℕ) → a ≤ i → get_or out i 0 ≡ 0
