-- The case file, byte for byte. All numbers are little-endian. Parts follow the header in order with no gap.
use Rattle.std.specs.Prelude.{List, [], ◌∷◌, ◌++◌, ℕ, ◌+◌, ◌*◌, ◌/◌, ◌%◌, get_or}
use Rattle.sets.specs.Stored.{number, stored, no_people}
use Rattle.sets.specs.declared.People.{People}
use Rattle.cases.specs.declared.Counts.{Counts}
use Rattle.cases.specs.declared.StepEntry.{StepEntry}
use Rattle.cases.specs.declared.Rule.{Rule}
use Rattle.cases.specs.declared.Case.{Case}
use Rattle.cases.specs.Case.{most_people, most_steps, most_tables, most_rules, zero_step, zero_rule}
use Rattle.refusals.specs.Offsets.{person_bytes, step_bytes, row_bytes, rule_bytes, rows_in, people_at, steps_at, tables_at, rules_at, total_of}
use Rattle.words.specs.Word.{byte, word, long, le2, le4}
use Rattle.words.specs.Part.{table, run, stretch}
use Rattle.layout.specs.declared.Part.{Part}
use Rattle.layout.specs.declared.Part.TheVariants as parts

-- ---- The header: twelve 16-bit numbers

-- edition (1), people, steps, roles, tables, rules, then the offsets of the four parts, then total length, then 0
abbrev pub head_words : Counts → List ℕ
head_words n =
    1 ∷ n.people ∷ n.steps ∷ n.roles ∷ n.tables ∷ n.rules
    ∷ people_at ∷ steps_at n ∷ tables_at n ∷ rules_at n ∷ total_of n ∷ 0 ∷ []

-- the counts that a file states
abbrev pub counts_of : List ℕ → Counts
counts_of f = record { people = word f 2; steps = word f 4; roles = word f 6; tables = word f 8; rules = word f 10 }

-- ---- The bytes of each entry

-- a person: the set of roles held
abbrev pub bytes_of_person : ℕ → List ℕ
bytes_of_person held = le2 held

-- a step: the set of roles that may do it; the set of steps that must precede it; the spare byte
abbrev pub bytes_of_step : StepEntry → List ℕ
bytes_of_step s = s.roles % 256 ∷ s.roles / 256 ∷ s.before ∷ s.spare ∷ []

-- a table row: bit v for person v
abbrev pub bytes_of_row : People → List ℕ
bytes_of_row r = le4 (number r)

-- a rule: form, relation, step s, set X of steps
abbrev pub bytes_of_rule : Rule → List ℕ
bytes_of_rule u = u.form ∷ u.relation ∷ u.step.0 ∷ u.group ∷ []

-- ---- The bytes of each part, and the file of a case

-- the first n of a list of 16-bit numbers
abbrev pub bytes_of_words : List ℕ → ℕ → List ℕ
bytes_of_words numbers n = run (λ i. le2 (get_or numbers i 0)) n

abbrev pub head_bytes : Counts → List ℕ
head_bytes n = bytes_of_words (head_words n) 12

abbrev pub people_bytes : Case → List ℕ
people_bytes c = bytes_of_words c.people c.counts.people

abbrev pub steps_bytes : Case → List ℕ
steps_bytes c = run (λ i. bytes_of_step (get_or c.steps i zero_step)) c.counts.steps

abbrev pub tables_bytes : Case → List ℕ
tables_bytes c = run (λ i. bytes_of_row (get_or c.rows i no_people)) (rows_in c.counts)

abbrev pub rules_bytes : Case → List ℕ
rules_bytes c = run (λ i. bytes_of_rule (get_or c.rules i zero_rule)) c.counts.rules

-- the file of a case; entries above a count are no part of it
unfoldable pub file_of : Case → List ℕ
file_of c = head_bytes c.counts ++ people_bytes c ++ steps_bytes c ++ tables_bytes c ++ rules_bytes c

-- ---- Where each part starts and ends

abbrev pub start_of : Counts → Part → ℕ
start_of n parts.People = people_at
start_of n parts.Steps = steps_at n
start_of n parts.Tables = tables_at n
start_of n parts.Rules = rules_at n

abbrev pub end_of : Counts → Part → ℕ
end_of n parts.People = steps_at n
end_of n parts.Steps = tables_at n
end_of n parts.Tables = rules_at n
end_of n parts.Rules = total_of n

-- the stretch of a file in which a part stands, by these counts
abbrev pub stretch_of : List ℕ → Counts → Part → List ℕ
stretch_of f n part = stretch f (start_of n part) (end_of n part)

-- ---- The entries of a part. Past its end they are zero.

abbrev pub person_in : List ℕ → ℕ → ℕ
person_in part i = word part (person_bytes * i)

abbrev pub step_in : List ℕ → ℕ → StepEntry
step_in part i =
    record { roles = word part (step_bytes * i); before = byte part (step_bytes * i + 2); spare = byte part (step_bytes * i + 3) }

abbrev pub row_in : List ℕ → ℕ → People
row_in part i = stored (long part (row_bytes * i))

abbrev pub rule_in : List ℕ → ℕ → Rule
rule_in part i =
    record {
      form = byte part (rule_bytes * i);
      relation = byte part (rule_bytes * i + 1);
      step = record { 0 = byte part (rule_bytes * i + 2) };
      group = byte part (rule_bytes * i + 3);
    }

-- ---- The case that a file holds

-- the case that a file holds by these counts
unfoldable pub case_at : List ℕ → Counts → Case
case_at f n =
    record {
      counts = n;
      people = table (person_in (stretch_of f n parts.People)) most_people;
      steps = table (step_in (stretch_of f n parts.Steps)) most_steps;
      rows = table (row_in (stretch_of f n parts.Tables)) (most_tables * most_people);
      rules = table (rule_in (stretch_of f n parts.Rules)) most_rules;
    }

-- the case that a file holds by its own counts: above them every entry is zero
abbrev pub case_of : List ℕ → Case
case_of f = case_at f (counts_of f)
