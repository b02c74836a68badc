-- A call is refused, stops at its limit, or ends within it.
use Rattle.std.specs.Prelude.{◌≡◌, ◌↔◌, List, ℕ, Ok, Err, ◌≤◌, ◌<◌}
use Rattle.std.proofs.Math.Option.{none, some}
use Rattle.games.specs.Walks.{Walk}
use Rattle.games.specs.Limit.{Answer, stopped, whole}
use Rattle.refusals.specs.Refusals.{Judged, Good}
use Rattle.refusals.specs.Table.{Row, Meets}
use Rattle.planner.specs.Told.{Told}

-- ---- What judging tells, in the scope's numbers: 0 and 0 where nothing is refused

abbrev pub number_in : Judged → ℕ
number_in (Ok nothing) = 0
number_in (Err r) = r.number

abbrev pub place_in : Judged → ℕ
place_in (Ok nothing) = 0
place_in (Err r) = r.place

-- ---- What a call tells

module _ {B : Type 0} where
  -- it is refused under number n at a place, and carries no result
  pub record RefusedAt (d : Told B) (n place : ℕ) : Type 0 where
    pub numbered : d.number ≡ n
    pub placed : d.place ≡ place
    pub nothing : d.answer ≡ none

  -- it says "limit", with the count n and nothing else
  abbrev pub SaysLimit : Told B → ℕ → Type 0
  SaysLimit d n = d ≡ record { number = 0; place = 0; answer = some (stopped n) }

  -- it ends within its limit with b, after n trials
  abbrev pub EndsAfter : Told B → B → ℕ → Type 0
  EndsAfter d b n = d ≡ record { number = 0; place = 0; answer = some (whole (record { got = b; trials = n })) }

  -- it ends within its limit with b
  abbrev pub Ends : Told B → B → Type 0
  Ends d b = (n : ℕ) × EndsAfter d b n

  -- Refused exactly by the table, lowest number first; otherwise it has an answer.
  pub record ByTable (table : List Row) (d : Told B) : Type 0 where
    pub given : (n place : ℕ) → RefusedAt d n place ↔ (Meets table n place × ((m p : ℕ) → m < n → Meets table m p → ⊥))
    pub good : ((a : Answer B) × (d ≡ record { number = 0; place = 0; answer = some a })) ↔ ((n place : ℕ) → Meets table n place → ⊥)

  -- what a call that ended says of its judgement j and of its walk w under limit l: it got b in n trials
  pub record Came (j : Judged) (l : ℕ) (w : Walk B) (b : B) (n : ℕ) : Type 0 where
    pub accepted : j ≡ Good
    pub got : w.got ≡ b
    pub trials : w.trials ≡ n
    pub within : n ≤ l
