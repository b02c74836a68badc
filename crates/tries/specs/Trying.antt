-- A line of people at a position, and the next of them worth a try.
use Rattle.std.specs.Prelude.{◌≡◌, Bool, true, not, List, ℕ, suc, ◌+◌, ◌<◌, leb, ltb, eqb}
use Rattle.std.proofs.Math.Option.{Option, none, some}
use Rattle.sets.specs.Lists.{only_if, pick, value_or}
use Rattle.sets.specs.Sets.{has, without, common, difference, everybody, size, size_before, lowest}
use Rattle.sets.specs.Stored.{width, number}
use Rattle.cases.specs.declared.Filled.{Filled}
use Rattle.cases.specs.declared.Person.{Person}
use Rattle.cases.specs.Case.{most_steps}
use Rattle.boards.specs.Board.{allowed_on, ready_on, fits_on}
use Rattle.boards.specs.Looked.{Agree}
use Rattle.lines.specs.declared.Try.{Try}
use Rattle.lines.specs.declared.Try.TheVariants as try
use Rattle.tries.specs.declared.Line.{Line}
use Rattle.tries.specs.declared.Looked.{Looked}

module _ (b : List ℕ) where
  -- the lowest step that is ready, 32 where none is
  unfoldable pub step_on : Filled → ℕ
  step_on p = value_or 32 (lowest 32 (ready_on b p))

  -- some step is ready besides the lowest
  unfoldable pub several_on : Filled → Bool
  several_on p = not (eqb (without 32 (ready_on b p) (step_on p)) 0)

  -- no other step is ready
  abbrev pub Alone : Filled → Type 0
  Alone p = (s : ℕ) → s < most_steps → has (ready_on b p) s ≡ true → s ≡ step_on p

  -- those who may do it, nobody where none is
  abbrev pub asked : Filled → ℕ
  asked p = pick (ltb (step_on p) most_steps) (allowed_on b (step_on p)) 0

-- T are those of n people who are present and allowed for the step that is ready, each a trial; F are those of them with whom every rule holds
pub record InLine (b : List ℕ) (n A : ℕ) (p : Filled) (T F : ℕ) : Type 0 where
  pub tried : T ≡ common width (difference width (asked b p) A) (everybody width n)
  pub fit : F ≡ common width T (fits_on b p (step_on b p))

-- the line at p, also from every position that agrees with p at the steps looked at
abbrev pub LinedUp : List ℕ → ℕ → ℕ → Filled → Looked Line → Type 0
LinedUp b n A p r = (q : Filled) → Agree r.looked p q → InLine b n A q (number r.value.tried) (number r.value.fit)

-- the trials until the first of F is tried, who is the last of them; where F is empty, until all of T are
abbrev pub trials_to : ℕ → Option ℕ → ℕ
trials_to T none = size width T
trials_to T (some v) = suc (size_before width T v)

-- whom, and the trials used then; nothing where these are more than the limit
unfoldable pub tried : ℕ → ℕ → ℕ → ℕ → Option (Option ℕ × ℕ)
tried T F used limit = let c = used + trials_to T (lowest width F) in only_if (leb c limit) (lowest width F, c)

abbrev pub try_outcome : Try Person → Option (Option ℕ × ℕ)
try_outcome try.Limit = none
try_outcome (try.Nobody c) = some (none, c)
try_outcome (try.Move v c) = some (some v.0, c)
