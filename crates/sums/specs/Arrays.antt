-- Arrays of sums, one for each number of people who may join, and arrays of weights, one for each person.
use Rattle.std.specs.Prelude.{◌≡◌, List, ℕ, zero, suc, ◌+◌, ◌*◌, ◌≤◌, ◌<◌, get_or, set, replicate}
use Rattle.sets.specs.Sets.{with}
use Rattle.sets.specs.Stored.{width, number}
use Rattle.sets.specs.declared.People.{People}
use Rattle.sums.specs.declared.Absences.{Absences}
use Rattle.sums.specs.Sums.{only_below, most, capped}

-- the number at place j
abbrev pub entry : List ℕ → ℕ → ℕ
entry l j = get_or l j 0

-- how often a person counts
abbrev pub weight_of : Absences → ℕ → ℕ
weight_of sets u = entry sets.weights u

-- the sets that hold everybody of `held` and at most `room` others, each counted once
abbrev pub once : People → ℕ → Absences
once held room = record { held = held; room = room; weights = replicate 32 1 }

-- the sets that hold everybody of A and at most m of the first h people besides, each counted once
pub record OnceBelow (A : People) (m h : ℕ) (r : Absences) : Type 0 where
  pub held : r.held ≡ A
  pub room : r.room ≡ m
  pub weights : (u : ℕ) → u < width → weight_of r u ≡ only_below h u

-- each sum up to place r is one that is told
abbrev pub Under : ℕ → List ℕ → Type 0
Under r l = (j : ℕ) → j ≤ r → entry l j ≤ most

-- what stands before place j
abbrev pub earlier : (ℕ → ℕ) → ℕ → ℕ
earlier e zero = 0
earlier e (suc j) = e j

-- the sums e up to place r with one person more, who counts w times
abbrev pub OneMore : ℕ → ℕ → (ℕ → ℕ) → List ℕ → Type 0
OneMore r w e l = (j : ℕ) → j ≤ r → entry l j ≡ capped (e j + w * earlier e j)

-- the sets that person v does not join
abbrev pub staying : Absences → ℕ → Absences
staying sets v = record { held = sets.held; room = sets.room; weights = set sets.weights v 0 }

-- the sets that person v joins
pub record JoinedBy (sets : Absences) (v : ℕ) (r : Absences) : Type 0 where
  pub held : number r.held ≡ with width (number sets.held) v
  pub room : sets.room ≡ suc r.room
  pub weights : r.weights ≡ sets.weights

-- the same sets, where everybody who joins counts once more
pub record Raised (sets r : Absences) : Type 0 where
  pub held : r.held ≡ sets.held
  pub room : r.room ≡ sets.room
  pub weights : (u : ℕ) → u < width → weight_of r u ≡ weight_of sets u + 1
