-- Who may do a step, and when a position is valid.
use Rattle.std.specs.Prelude.{◌≡◌, Bool, true, false, List, ℕ, ◌≤◌, ◌<◌, ltb, length, get_or, take}
use Rattle.sets.specs.Sets.{has, meets}
use Rattle.cases.specs.declared.Case.{Case}
use Rattle.cases.specs.Case.{most_roles, steps, roles_held, roles_for}
use Rattle.cases.specs.Rules.{rules_hold}

-- A person may do a step when one of their roles is among the step's roles.
unfoldable pub may : Case → ℕ → ℕ → Bool
may c u s = meets most_roles (roles_held c u) (roles_for c s)

-- A position is a list of persons for the first steps. At position p every rule holds, all of whose steps are filled.
unfoldable pub holds : Case → List ℕ → Bool
holds c p = rules_hold c (λ i. ltb i (length p)) (λ i. get_or p i 0)

-- It is valid when each may do their step and every rule, all of whose steps are filled, holds.
pub record Valid (c : Case) (p : List ℕ) : Type 0 where
  pub able : (i : ℕ) → i < length p → may c (get_or p i 0) i ≡ true
  pub kept : holds c p ≡ true

-- A plan is a valid position as long as the chain.
pub record Plan (c : Case) (q : List ℕ) : Type 0 where
  pub valid : Valid c q
  pub whole : length q ≡ steps c

-- none of its persons is in A
abbrev pub Without : ℕ → List ℕ → Type 0
Without A q = (i : ℕ) → i < length q → has A (get_or q i 0) ≡ false

-- q is the first plan in the walk's order: no plan begins as it does and goes on with a lower person
abbrev pub FirstPlan : Case → List ℕ → Type 0
FirstPlan c q = (r : List ℕ) → Plan c r → (i : ℕ) → i < steps c → take i r ≡ take i q → get_or q i 0 ≤ get_or r i 0
