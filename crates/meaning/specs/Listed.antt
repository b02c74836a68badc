-- A list of persons for the first steps, as a search carries it.
use Rattle.std.specs.Prelude.{List, [], ◌∷◌, ℕ, suc}
use Rattle.cases.specs.declared.Filled.{Filled}
use Rattle.cases.specs.Filled.{start_filled}
use Rattle.boards.specs.Arena.{put_on}

-- persons placed one by one, from step i on
unfoldable pub fill_from : ℕ → Filled → List ℕ → Filled
fill_from i q [] = q
fill_from i q (u ∷ us) = fill_from (suc i) (put_on q u i) us

unfoldable pub filled_by : List ℕ → Filled
filled_by p = fill_from 0 start_filled p
