-- What the entries of each part are judged by: 7 to 11, each over one list and the counts, with no case around them.
use Rattle.std.specs.Prelude.{Bool, not, ◌||◌, List, ℕ, eqb, get_or}
use Rattle.sets.specs.Sets.{past}
use Rattle.sets.specs.Stored.{width, number, no_people}
use Rattle.sets.specs.declared.People.{People}
use Rattle.cases.specs.declared.Counts.{Counts}
use Rattle.cases.specs.declared.StepEntry.{StepEntry}
use Rattle.cases.specs.declared.Rule.{Rule}
use Rattle.cases.specs.Case.{most_steps, most_roles, zero_step, zero_rule}
use Rattle.refusals.specs.Refusals.{Check, entry_check}
use Rattle.refusals.specs.Offsets.{rows_in, person_place, step_place, row_place, rule_place}
use Rattle.refusals.specs.CaseChecks.{bad_rule}

-- ---- What an entry is refused for

-- 7, 8: a person holds, or a step names, a role not below the role count
abbrev pub held_past : Counts → ℕ → Bool
held_past n held = past most_roles held n.roles

abbrev pub named_past : Counts → StepEntry → Bool
named_past n step = past most_roles step.roles n.roles

-- 9: a step that must precede step s is not below s, or the spare byte is not 0
abbrev pub bad_step : ℕ → StepEntry → Bool
bad_step s step = past most_steps step.before s || not (eqb step.spare 0)

-- 10: a table row names a person not below the people count
abbrev pub row_past : Counts → People → Bool
row_past n row = past width (number row) n.people

-- ---- The checks

module _ (n : Counts) where
  abbrev pub people_check : List ℕ → Check
  people_check people = entry_check 7 person_place (λ i. held_past n (get_or people i 0)) n.people

  abbrev pub roles_check : List StepEntry → Check
  roles_check steps = entry_check 8 (step_place n) (λ i. named_past n (get_or steps i zero_step)) n.steps

  abbrev pub order_check : List StepEntry → Check
  order_check steps = entry_check 9 (step_place n) (λ i. bad_step i (get_or steps i zero_step)) n.steps

  abbrev pub rows_check : List People → Check
  rows_check rows = entry_check 10 (row_place n) (λ i. row_past n (get_or rows i no_people)) (rows_in n)

  abbrev pub rules_check : List Rule → Check
  rules_check rules = entry_check 11 (rule_place n) (λ i. bad_rule n (get_or rules i zero_rule)) n.rules
