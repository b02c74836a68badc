-- The case and its limits. Case entries above a count read as zero.
use Rattle.std.specs.Prelude.{◌≡◌, List, map, ℕ, ◌+◌, ◌*◌, ◌<◌, ltb, get_or, replicate}
use Rattle.sets.specs.Lists.{pick, upto}
use Rattle.sets.specs.Stored.{number, no_people}
use Rattle.cases.specs.declared.Counts.{Counts}
use Rattle.cases.specs.declared.StepEntry.{StepEntry}
use Rattle.cases.specs.declared.Rule.{Rule}
use Rattle.cases.specs.declared.Case.{Case}

-- the limits: people 32, steps 8, roles 16, tables 6, rules 32
abbrev pub most_people : ℕ
most_people = 32

abbrev pub most_steps : ℕ
most_steps = 8

abbrev pub most_roles : ℕ
most_roles = 16

abbrev pub most_tables : ℕ
most_tables = 6

abbrev pub most_rules : ℕ
most_rules = 32

-- ---- Entries of zero, and the case with nothing in it

abbrev pub zero_counts : Counts
zero_counts = record { people = 0; steps = 0; roles = 0; tables = 0; rules = 0 }

abbrev pub zero_step : StepEntry
zero_step = record { roles = 0; before = 0; spare = 0 }

abbrev pub zero_rule : Rule
zero_rule = record { form = 0; relation = 0; step = record { 0 = 0 }; group = 0 }

abbrev pub empty_case : Case
empty_case =
    record {
      counts = zero_counts;
      people = replicate most_people 0;
      steps = replicate most_steps zero_step;
      rows = replicate (most_tables * most_people) no_people;
      rules = replicate most_rules zero_rule;
    }

-- ---- Reading a case

-- entry i of a list of which n entries are in use: zero above the count
unfoldable pub entry : {A : Type 0} → A → ℕ → List A → ℕ → A
entry zero n entries i = pick (ltb i n) (get_or entries i zero) zero

module _ (c : Case) where
  abbrev pub people : ℕ
  people = c.counts.people

  abbrev pub steps : ℕ
  steps = c.counts.steps

  abbrev pub roles : ℕ
  roles = c.counts.roles

  abbrev pub tables : ℕ
  tables = c.counts.tables

  -- the set of roles that person u holds
  unfoldable pub roles_held : ℕ → ℕ
  roles_held u = entry 0 people c.people u

  -- the set of roles that may do step s
  unfoldable pub roles_for : ℕ → ℕ
  roles_for s = (entry zero_step steps c.steps s).roles

  -- person u's row in table k: those v for whom (u, v) is in the relation. Rows stand table by table, in each one row per person.
  unfoldable pub row : ℕ → ℕ → ℕ
  row k u = pick (ltb u people) (number (entry no_people (tables * people) c.rows (k * people + u))) 0

  -- the rules in use
  unfoldable pub rules : List Rule
  rules = map (λ i. get_or c.rules i zero_rule) (upto c.counts.rules)

-- ---- What stands above the counts

-- the same case with zero above its counts
unfoldable pub zeroed : Case → Case
zeroed c =
    record {
      counts = c.counts;
      people = map (entry 0 (people c) c.people) (upto most_people);
      steps = map (entry zero_step (steps c) c.steps) (upto most_steps);
      rows = map (entry no_people (tables c * people c) c.rows) (upto (most_tables * most_people));
      rules = map (entry zero_rule c.counts.rules c.rules) (upto most_rules);
    }

-- two cases with the same counts, and the same entries below them
pub record SameBelow (c d : Case) : Type 0 where
  pub counts : c.counts ≡ d.counts
  pub people : (i : ℕ) → i < c.counts.people → get_or c.people i 0 ≡ get_or d.people i 0
  pub steps : (i : ℕ) → i < c.counts.steps → get_or c.steps i zero_step ≡ get_or d.steps i zero_step
  pub rows : (i : ℕ) → i < c.counts.tables * c.counts.people → get_or c.rows i no_people ≡ get_or d.rows i no_people
  pub rules : (i : ℕ) → i < c.counts.rules → get_or c.rules i zero_rule ≡ get_or d.rules i zero_rule
