-- What a no shows.
use Rattle.std.specs.Prelude.{◌≡◌, ◌⊎◌, List, [], ℕ, ◌-◌, ◌<◌}
use Rattle.games.specs.Games.{Absent, Decremental, OneShot}
use Rattle.cases.specs.declared.Case.{Case}
use Rattle.cases.specs.Case.{people, steps}
use Rattle.cases.specs.Plans.{Plan, Without}
use Rattle.cases.specs.Questions.{Placed}

-- Static: the first set, in ascending number, of at most t people without whom there is no plan.
pub record StaticNo (c : Case) (t A : ℕ) : Type 0 where
  pub absent : Absent (people c) t A
  pub unplanned : (q : List ℕ) → Plan c q → Without A q → ⊥
  pub first : (B : ℕ) → B < A → Absent (people c) t B → (q : List ℕ) × Plan c q × Without B q

-- with A away before the first step the desk has a winning answer
abbrev pub Answers : Case → ℕ → ℕ → Type 0
Answers c t A = (q : List ℕ) × Placed c A [] q × Decremental (people c) (Placed c) t (steps c - 1) A q

-- Decremental: the first set, in ascending number, that beats the desk when named before the first step.
pub record DecrementalNo (c : Case) (t A : ℕ) : Type 0 where
  pub step : 0 < steps c
  pub absent : Absent (people c) t A
  pub beats : Answers c t A → ⊥
  pub first : (B : ℕ) → B < A → Absent (people c) t B → Answers c t B

-- after a pass before the first step the desk has a winning answer
abbrev pub AnswersPass : Case → ℕ → Type 0
AnswersPass c t = (q : List ℕ) × Placed c 0 [] q × OneShot (people c) (Placed c) t (steps c - 1) q

-- A is the empty set and a pass before the first step beats the desk; or the pass does not, and A is the first set, in ascending number, that beats it
-- when struck before the first step: that is, without whom there is no plan
abbrev pub FirstStrike : Case → ℕ → ℕ → Type 0
FirstStrike c t A = ((A ≡ 0) × (AnswersPass c t → ⊥)) ⊎ (AnswersPass c t × StaticNo c t A)

-- One-shot: the first-round strike, the empty set for a pass.
pub record OneShotNo (c : Case) (t A : ℕ) : Type 0 where
  pub step : 0 < steps c
  pub absent : Absent (people c) t A
  pub beats : FirstStrike c t A
