-- What a case is judged by: 4 and 7 to 11. A good case meets none of them.
use Rattle.std.specs.Prelude.{Bool, not, ◌&&◌, ◌||◌, List, [], ◌∷◌, ℕ, ◌+◌, ◌≤◌, ltb, leb, eqb}
use Rattle.sets.specs.Lists.{pick}
use Rattle.sets.specs.Sets.{size, past}
use Rattle.sets.specs.Stored.{width, number, no_people}
use Rattle.sets.specs.declared.People.{People}
use Rattle.cases.specs.declared.Counts.{Counts}
use Rattle.cases.specs.declared.StepEntry.{StepEntry}
use Rattle.cases.specs.declared.Rule.{Rule}
use Rattle.cases.specs.declared.Case.{Case}
use Rattle.cases.specs.Case.{most_people, most_steps, most_roles, most_tables, most_rules, zero_step, zero_rule, entry, roles_held, roles_for}
use Rattle.refusals.specs.Refusals.{Judged}
use Rattle.refusals.specs.Refusals.{Check, judged_by, only_check, entry_check}
use Rattle.refusals.specs.Offsets.{rows_in, person_place, step_place, row_place, rule_place}

-- 4: a count is above its limit
unfoldable pub too_many : Counts → Bool
too_many n =
    ltb most_people n.people
    || (ltb most_steps n.steps || (ltb most_roles n.roles || (ltb most_tables n.tables || ltb most_rules n.rules)))

-- no count is above its limit
pub record Limited (n : Counts) : Type 0 where
  pub people : n.people ≤ most_people
  pub steps : n.steps ≤ most_steps
  pub roles : n.roles ≤ most_roles
  pub tables : n.tables ≤ most_tables
  pub rules : n.rules ≤ most_rules

-- Form 1 has exactly one step in X; forms 2 and 3 have at least one.
unfoldable pub right_size : ℕ → ℕ → Bool
right_size form x = pick (eqb form 1) (eqb (size most_steps x) 1) (leb 1 (size most_steps x))

-- 11: a rule's form is not 1 to 3, its relation or a step does not exist, or X has the wrong size
unfoldable pub bad_rule : Counts → Rule → Bool
bad_rule n r =
    not (leb 1 r.form && leb r.form 3)
    || (not (ltb r.relation (n.tables + 2))
    || (not (ltb r.step.0 n.steps) || (past most_steps r.group n.steps || not (right_size r.form r.group))))

module _ (c : Case) where
  -- entry s of the steps, entry i of the table rows, entry i of the rules
  unfoldable pub step_entry : ℕ → StepEntry
  step_entry s = entry zero_step c.counts.steps c.steps s

  unfoldable pub row_entry : ℕ → People
  row_entry i = entry no_people (rows_in c.counts) c.rows i

  unfoldable pub rule_entry : ℕ → Rule
  rule_entry i = entry zero_rule c.counts.rules c.rules i

  -- 7: a person holds a role not below the role count
  unfoldable pub bad_person : ℕ → Bool
  bad_person u = past most_roles (roles_held c u) c.counts.roles

  -- 8: a step names such a role
  unfoldable pub bad_roles : ℕ → Bool
  bad_roles s = past most_roles (roles_for c s) c.counts.roles

  -- 9: a preceding step is not below the step's own number, or the spare byte is not 0
  unfoldable pub bad_order : ℕ → Bool
  bad_order s = past most_steps (step_entry s).before s || not (eqb (step_entry s).spare 0)

  -- 10: a table row names a person not below the people count
  unfoldable pub bad_row : ℕ → Bool
  bad_row i = past width (number (row_entry i)) c.counts.people

  -- 4, placed at 0
  unfoldable pub counts_check : Check
  counts_check = only_check 4 (too_many c.counts)

  -- 7 to 11, each at the earliest entry's place
  unfoldable pub entry_checks : List Check
  entry_checks =
      entry_check 7 person_place bad_person c.counts.people
      ∷ (entry_check 8 (step_place c.counts) bad_roles c.counts.steps
      ∷ (entry_check 9 (step_place c.counts) bad_order c.counts.steps
      ∷ (entry_check 10 (row_place c.counts) bad_row (rows_in c.counts)
      ∷ (entry_check 11 (rule_place c.counts) (λ i. bad_rule c.counts (rule_entry i)) c.counts.rules ∷ []))))

-- 4, then 7 to 11
unfoldable pub case_checks : Case → List Check
case_checks c = counts_check c ∷ entry_checks c

-- how a case in memory is judged
unfoldable pub judged_case : Case → Judged
judged_case c = judged_by (case_checks c)
