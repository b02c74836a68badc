-- What a search looked at: of the filled steps, those whose people its tests asked for. Another position that agrees with this one there gives the same answer.
use Rattle.std.specs.Prelude.{◌≡◌, true, List, ℕ, ◌<◌, length}
use Rattle.sets.specs.Sets.{has, common}
use Rattle.sets.specs.Stored.{width, number}
use Rattle.cases.specs.declared.Filled.{Filled}
use Rattle.cases.specs.Case.{most_steps}
use Rattle.cases.specs.Filled.{who_in}
use Rattle.boards.specs.Board.{fits_on}
use Rattle.boards.specs.declared.Fitted.{Fitted}

-- the same steps are filled in p and q, and those of L by the same people
pub record Agree (L : ℕ) (p q : Filled) : Type 0 where
  pub steps : q.steps ≡ p.steps
  pub room : length q.who ≡ length p.who
  pub who : (x : ℕ) → (x < most_steps → has L x ≡ true) → who_in q x ≡ who_in p x

-- of the people in A those who fit at step s, also from every position that agrees with p at the steps looked at
abbrev pub Fits : List ℕ → Filled → ℕ → ℕ → Fitted → Type 0
Fits b p s A r = (q : Filled) → Agree r.looked p q → number r.people ≡ common width A (fits_on b q s)
