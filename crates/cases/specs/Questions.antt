-- The five questions.
use Rattle.std.specs.Prelude.{◌≡◌, false, List, [], ◌∷◌, ◌++◌, ℕ}
use Rattle.sets.specs.Sets.{has}
use Rattle.games.specs.Games.{Absent, Decremental, OneShot, Dynamic}
use Rattle.cases.specs.declared.Case.{Case}
use Rattle.cases.specs.Case.{people, steps}
use Rattle.cases.specs.Plans.{Valid, Plan, Without}

-- Plan: is there a plan?
abbrev pub HasPlan : Case → Type 0
HasPlan c = (q : List ℕ) × Plan c q

-- Static: for every set of at most t people, is there a plan using none of them?
abbrev pub StaticYes : Case → ℕ → Type 0
StaticYes c t = (A : ℕ) → Absent (people c) t A → (q : List ℕ) × Plan c q × Without A q

-- With A away, the desk puts a present person into the next step, keeping the position valid. Past work by someone now away still counts. After as
-- many rounds as steps the position is a plan.
pub record Placed (c : Case) (A : ℕ) (p q : List ℕ) : Type 0 where
  pub person : ℕ
  pub present : has A person ≡ false
  pub next : q ≡ p ++ (person ∷ [])
  pub valid : Valid c q

-- Decremental: does the desk complete a plan, where before each step the away side may enlarge its set, never above t people over the whole job?
abbrev pub DecrementalYes : Case → ℕ → Type 0
DecrementalYes c t = Decremental (people c) (Placed c) t (steps c) 0 []

-- One-shot: does it, where before each step the away side passes or strikes, and strikes at most once, with at most t people, who stay away?
abbrev pub OneShotYes : Case → ℕ → Type 0
OneShotYes c t = OneShot (people c) (Placed c) t (steps c) []

-- Dynamic: does it, where before each step the away side names any set of at most t people?
abbrev pub DynamicYes : Case → ℕ → Type 0
DynamicYes c t = Dynamic (people c) (Placed c) t (steps c) []
