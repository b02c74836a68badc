-- The limit of a call. `cut` is the only definition that knows one.
use Rattle.std.specs.Prelude.{ℕ, leb}
use Rattle.sets.specs.Lists.{pick}
use Rattle.games.specs.Walks.{Walk}

-- a call says "limit", or ends with what its walk got
pub data Ended (B : Type 0) : Type 0 where
  limit : Ended B
  ended : B → Ended B

pub record Answer (B : Type 0) : Type 0 where
  pub out : Ended B
  pub count : ℕ

-- "limit" with the limit as count, nothing else shown
abbrev pub stopped : {B : Type 0} → ℕ → Answer B
stopped l = record { out = limit; count = l }

-- what a walk got, with its trials as count
abbrev pub whole : {B : Type 0} → Walk B → Answer B
whole w = record { out = ended w.got; count = w.trials }

-- where the walk needs no more than l trials its answer, else "limit"
unfoldable pub cut : {B : Type 0} → ℕ → Walk B → Answer B
cut l w = pick (leb w.trials l) (whole w) (stopped l)
