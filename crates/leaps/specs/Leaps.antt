-- What is said of a leap: which sets it goes over, that none is without a plan, and the sum of their trials.
use Rattle.std.specs.Prelude.{◌≡◌, false, Result, Ok, Err, List, ℕ, ◌-◌, ◌*◌, ◌^◌, ◌≤◌, ◌<◌}
use Rattle.sets.specs.Sets.{has, size}
use Rattle.sets.specs.Stored.{number}
use Rattle.games.specs.Walks.{if_none, plan}
use Rattle.cases.specs.declared.Filled.{Filled}
use Rattle.boards.specs.Arena.{board_arena}
use Rattle.sums.specs.declared.Absences.{Absences}
use Rattle.sums.specs.Sums.{only_below, Summed}
use Rattle.sums.specs.Arrays.{weight_of}
use Rattle.leaps.specs.declared.Leap.{Leap}
use Rattle.leaps.specs.declared.Tally.{Tally}

-- From s on, of n people, with at most t away: each of s and of the sets with some of the first h people besides has a plan, and x is the sum of their
-- trials, as it is told. s has nobody below h, and not person h.
pub record Leapt (b : List ℕ) (n t s k : ℕ) (p : Filled) (h x : ℕ) : Type 0 where
  pub within : h ≤ n
  pub multiple : (q : ℕ) × (s ≡ q * 2 ^ h)
  pub free : h < n → has s h ≡ false
  pub room : size n s < t
  pub summed : Summed (λ S. if_none S (plan (board_arena b n) S k p)) n (only_below h) (t - size n s) s x

-- what an answer says
abbrev pub Leaps : List ℕ → ℕ → ℕ → ℕ → ℕ → Filled → Result Leap ℕ → Type 0
Leaps b n t s k p (Ok l) = Leapt b n t s k p l.below l.trials
Leaps b n t s k p (Err i) = Unit {0}

-- what a sum says of the sets that it is asked for: none is without a plan, and it is that of their trials
abbrev pub AllPlanned : List ℕ → ℕ → Absences → ℕ → Filled → Result Tally ℕ → Type 0
AllPlanned b n sets k p (Ok y) = Summed (λ S. if_none S (plan (board_arena b n) S k p)) n (weight_of sets) sets.room (number sets.held) y.trials
AllPlanned b n sets k p (Err i) = Unit {0}

-- a bound of at most n: where it is more than 0, s has nobody below it or at it
pub record Free (n s h : ℕ) : Type 0 where
  pub within : h ≤ n
  pub nobody : 0 < h → (u : ℕ) → u ≤ h → has s u ≡ false
