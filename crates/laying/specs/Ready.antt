-- What a case must give for the board to mean it: counts within their limits, and rules of a form up to 3 whose relation and step exist. A good case does.
use Rattle.std.specs.Prelude.{ℕ, ◌+◌, ◌≤◌, ◌<◌, get_or}
use Rattle.cases.specs.declared.Counts.{Counts}
use Rattle.cases.specs.declared.Rule.{Rule}
use Rattle.cases.specs.declared.Case.{Case}
use Rattle.cases.specs.Case.{most_people, most_steps, most_tables, most_rules, zero_rule, steps, tables}

pub record ReadyRule (c : Case) (r : Rule) : Type 0 where
  pub form : r.form ≤ 3
  pub relation : r.relation < tables c + 2
  pub step : r.step.0 < steps c

-- counts within their limits
pub record Bounded (n : Counts) : Type 0 where
  pub people : n.people ≤ most_people
  pub steps : n.steps ≤ most_steps
  pub tables : n.tables ≤ most_tables
  pub rules : n.rules ≤ most_rules

pub record Ready (c : Case) : Type 0 where
  pub counts : Bounded c.counts
  pub each : (i : ℕ) → i < c.counts.rules → ReadyRule c (get_or c.rules i zero_rule)
