-- The lines at a position, one for each step that is ready, of everybody; the same from every position that agrees at the steps looked at.
use Rattle.std.specs.Prelude.{◌≡◌, List, map, ℕ, ◌≤◌}
use Rattle.sets.specs.Lists.{upto, keep}
use Rattle.sets.specs.Sets.{has, common, everybody}
use Rattle.sets.specs.Stored.{width, stored}
use Rattle.cases.specs.declared.Filled.{Filled}
use Rattle.cases.specs.Case.{most_steps}
use Rattle.boards.specs.Board.{allowed_on, ready_on, fits_on}
use Rattle.boards.specs.Looked.{Agree}
use Rattle.lines.specs.declared.Line.{Line}
use Rattle.lines.specs.declared.Lines.{Lines}
use Rattle.lines.specs.Moves.{lines_of}
use Rattle.tries.specs.declared.Looked.{Looked}

module _ (b : List ℕ) (n : ℕ) (p : Filled) where
  -- who of n people may do step s, each a trial there
  abbrev pub tried_at : ℕ → ℕ
  tried_at s = common width (allowed_on b s) (everybody width n)

  -- the line of step s
  abbrev pub line_on : ℕ → Line
  line_on s = record { step = record { 0 = s }; tried = stored (tried_at s); fit = stored (common width (tried_at s) (fits_on b p s)) }

  abbrev pub lines_on : List Line
  lines_on = map line_on (keep (has (ready_on b p)) (upto most_steps))

  abbrev pub LineOf : ℕ → Looked Line → Type 0
  LineOf s r = (q : Filled) → Agree r.looked p q → r.value ≡ record { step = record { 0 = s }; tried = stored (tried_at s); fit = stored (common width (tried_at s) (fits_on b q s)) }

-- the lines at p, also from every position that agrees with p at the steps looked at
pub record LinesUp (b : List ℕ) (n : ℕ) (p : Filled) (r : Looked Lines) : Type 0 where
  pub lines : (q : Filled) → Agree r.looked p q → lines_of r.value ≡ lines_on b n q
  pub few : r.value.count ≤ most_steps
