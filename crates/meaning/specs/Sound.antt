-- What a position must give for the board to speak of it: the form of one in memory; known steps and persons, and no broken rule.
use Rattle.std.specs.Prelude.{◌≡◌, true, ℕ, ◌^◌, ◌<◌, length}
use Rattle.sets.specs.Sets.{has}
use Rattle.cases.specs.declared.Case.{Case}
use Rattle.cases.specs.declared.Filled.{Filled}
use Rattle.cases.specs.Case.{most_steps, people, steps}
use Rattle.cases.specs.Rules.{rules_hold}
use Rattle.cases.specs.Filled.{who_in}

-- as every position in memory is: one person for each step, and no step past the last
pub record Formed (p : Filled) : Type 0 where
  pub long : length p.who ≡ most_steps
  pub small : p.steps < 2 ^ most_steps

-- the steps that are filled are steps of the case, the persons who fill them are people of the case, and no rule is broken
pub record Sound (c : Case) (p : Filled) : Type 0 where
  pub listed : p.steps < 2 ^ steps c
  pub known : (x : ℕ) → has p.steps x ≡ true → who_in p x < people c
  pub kept : rules_hold c (has p.steps) (who_in p) ≡ true
