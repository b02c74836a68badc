-- Where the parts of a case file and their entries stand. Parts follow in order with no gap, the first at 24.
use Rattle.std.specs.Prelude.{ℕ, ◌+◌, ◌*◌}
use Rattle.cases.specs.declared.Counts.{Counts}

-- how many bytes an entry of each part has
abbrev pub person_bytes : ℕ
person_bytes = 2

abbrev pub step_bytes : ℕ
step_bytes = 4

abbrev pub row_bytes : ℕ
row_bytes = 4

abbrev pub rule_bytes : ℕ
rule_bytes = 4

-- how many table rows there are: in each table one per person
abbrev pub rows_in : Counts → ℕ
rows_in n = n.tables * n.people

-- ---- Where each part starts, and where the file ends

abbrev pub people_at : ℕ
people_at = 24

abbrev pub steps_at : Counts → ℕ
steps_at n = people_at + person_bytes * n.people

abbrev pub tables_at : Counts → ℕ
tables_at n = steps_at n + step_bytes * n.steps

abbrev pub rules_at : Counts → ℕ
rules_at n = tables_at n + row_bytes * rows_in n

abbrev pub total_of : Counts → ℕ
total_of n = rules_at n + rule_bytes * n.rules

-- ---- The place of an entry is where it starts

abbrev pub person_place : ℕ → ℕ
person_place i = people_at + person_bytes * i

abbrev pub step_place : Counts → ℕ → ℕ
step_place n i = steps_at n + step_bytes * i

abbrev pub row_place : Counts → ℕ → ℕ
row_place n i = tables_at n + row_bytes * i

abbrev pub rule_place : Counts → ℕ → ℕ
rule_place n i = rules_at n + rule_bytes * i
