-- The scope's table of refusals, and what it is to be judged by it.
use Rattle.std.specs.Prelude.{◌≡◌, ◌⊎◌, ◌↔◌, true, List, [], ◌∷◌, ℕ, ◌+◌, ◌≤◌, ◌<◌}
use Rattle.sets.specs.Sets.{has, size}
use Rattle.sets.specs.Stored.{width, number}
use Rattle.cases.specs.declared.Counts.{Counts}
use Rattle.cases.specs.declared.StepEntry.{StepEntry}
use Rattle.cases.specs.declared.Rule.{Rule}
use Rattle.cases.specs.declared.Case.{Case}
use Rattle.cases.specs.Case.{most_people, most_steps, most_roles, most_tables, most_rules, roles_held, roles_for}
use Rattle.refusals.specs.Refusals.{Judged}
use Rattle.refusals.specs.Refusals.{Good, Refused}
use Rattle.refusals.specs.Refusals.{refusal}
use Rattle.refusals.specs.Offsets.{rows_in, person_place, step_place, row_place, rule_place}
use Rattle.refusals.specs.CaseChecks.{step_entry, row_entry, rule_entry}

-- ---- A table of refusals

-- A row of the table: a number, and what it is for that number to be met at a place.
pub record Row : Type 1 where
  pub number : ℕ
  pub Met : ℕ → Type 0

-- a number that is met, or not, by the whole: its place is 0
abbrev pub whole : ℕ → Type 0 → Row
whole n Fails = record { number = n; Met = λ place. (place ≡ 0) × Fails }

-- Under one number the earliest entry: of m entries it fails, and none before it.
pub record Earliest (m : ℕ) (place_of : ℕ → ℕ) (Fails : ℕ → Type 0) (place : ℕ) : Type 0 where
  pub index : ℕ
  pub listed : index < m
  pub placed : place ≡ place_of index
  pub fails : Fails index
  pub earliest : (j : ℕ) → j < index → Fails j → ⊥

abbrev pub entries : ℕ → ℕ → (ℕ → ℕ) → (ℕ → Type 0) → Row
entries n m place_of Fails = record { number = n; Met = Earliest m place_of Fails }

-- number n of the table is met at this place
abbrev pub Meets : List Row → ℕ → ℕ → Type 0
Meets [] n place = ⊥
Meets (row ∷ rows) n place = ((n ≡ row.number) × row.Met place) ⊎ Meets rows n place

-- Lowest number first: a number is given exactly when it is met and no lower one is; nothing is refused exactly when none is met.
pub record Exactly (table : List Row) (judged : Judged) : Type 0 where
  pub given : (n place : ℕ)
      → (judged ≡ Refused (refusal n place)) ↔ (Meets table n place × ((m p : ℕ) → m < n → Meets table m p → ⊥))
  pub good : (judged ≡ Good) ↔ ((n place : ℕ) → Meets table n place → ⊥)

-- ---- What a case meets

-- a set, with room for so many members, has a member not below n
pub record NamesPast (room set n : ℕ) : Type 0 where
  pub member : ℕ
  pub fits : member < room
  pub listed : has set member ≡ true
  pub past : n ≤ member

-- 4: a count is above its limit
pub data TooMany (n : Counts) : Type 0 where
  in_people : most_people < n.people → TooMany n
  in_steps : most_steps < n.steps → TooMany n
  in_roles : most_roles < n.roles → TooMany n
  in_tables : most_tables < n.tables → TooMany n
  in_rules : most_rules < n.rules → TooMany n

-- 9: a preceding step is not below the step's own number, or the spare byte is not 0
pub data BadStep (s : ℕ) (e : StepEntry) : Type 0 where
  bad_before : NamesPast most_steps e.before s → BadStep s e
  bad_spare : (e.spare ≡ 0 → ⊥) → BadStep s e

-- 11: a rule's form is not 1 to 3, its relation or a step does not exist, or X has the wrong size: form 1 has exactly one step in X, forms 2 and 3
-- have at least one
pub data BadRule (n : Counts) (r : Rule) : Type 0 where
  bad_form : (r.form ≡ 1 → ⊥) → (r.form ≡ 2 → ⊥) → (r.form ≡ 3 → ⊥) → BadRule n r
  bad_relation : n.tables + 2 ≤ r.relation → BadRule n r
  bad_first : n.steps ≤ r.step.0 → BadRule n r
  bad_group : NamesPast most_steps r.group n.steps → BadRule n r
  not_one : r.form ≡ 1 → (size most_steps r.group ≡ 1 → ⊥) → BadRule n r
  empty : (r.form ≡ 2) ⊎ (r.form ≡ 3) → size most_steps r.group ≡ 0 → BadRule n r

module _ (c : Case) where
  abbrev pub counts_row : Row
  counts_row = whole 4 (TooMany c.counts)

  -- 7: a person holds a role not below the role count; 8: a step names such a role; 10: a table row names a person not below the people count
  abbrev pub entry_rows : List Row
  entry_rows =
      entries 7 c.counts.people person_place (λ u. NamesPast most_roles (roles_held c u) c.counts.roles)
      ∷ (entries 8 c.counts.steps (step_place c.counts) (λ s. NamesPast most_roles (roles_for c s) c.counts.roles)
      ∷ (entries 9 c.counts.steps (step_place c.counts) (λ s. BadStep s (step_entry c s))
      ∷ (entries 10 (rows_in c.counts) (row_place c.counts) (λ i. NamesPast width (number (row_entry c i)) c.counts.people)
      ∷ (entries 11 c.counts.rules (rule_place c.counts) (λ i. BadRule c.counts (rule_entry c i)) ∷ []))))

  -- 4, then 7 to 11
  abbrev pub case_table : List Row
  case_table = counts_row ∷ entry_rows
