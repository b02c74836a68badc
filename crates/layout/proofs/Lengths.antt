-- How long each part of a case's file is, and that the parts stand in order within the file.
use Prim.Native.Nat.{◌*◌, ◌≤◌}
use mathlib.Core.Path.{◌≡◌, refl}
use mathlib.Core.List.{◌++◌}
use native.Mathlib.Omega.{arith}
use lib.ListN.{length, get_or, length-append}
use Rattle.sets.specs.Stored.{no_people}
use Rattle.cases.specs.declared.Counts.{Counts}
use Rattle.cases.specs.declared.Case.{Case}
use Rattle.cases.specs.Case.{zero_step, zero_rule}
use Rattle.refusals.specs.Offsets.{rows_in, steps_at, tables_at, rules_at, total_of}
use Rattle.words.specs.Word.{le2}
use Rattle.words.proofs.Parts.{length_run}
use Rattle.layout.specs.declared.Part.{Part}
use Rattle.layout.specs.declared.Part.TheVariants.{People, Steps, Tables, Rules}
use Rattle.layout.specs.Layout.{head_words, bytes_of_step, bytes_of_row, bytes_of_rule, head_bytes, people_bytes, steps_bytes, tables_bytes, rules_bytes, file_of, start_of, end_of}

pub head-long : (n : Counts) → length (head_bytes n) ≡ 24
head-long n = length_run (λ i. le2 (get_or (head_words n) i 0)) 2 (λ k. refl) 12

module _ (c : Case) where
  pub people-long : length (people_bytes c) ≡ 2 * c.counts.people
  people-long = length_run (λ i. le2 (get_or c.people i 0)) 2 (λ k. refl) c.counts.people

  pub steps-long : length (steps_bytes c) ≡ 4 * c.counts.steps
  steps-long = length_run (λ i. bytes_of_step (get_or c.steps i zero_step)) 4 (λ k. refl) c.counts.steps

  pub tables-long : length (tables_bytes c) ≡ 4 * rows_in c.counts
  tables-long = length_run (λ i. bytes_of_row (get_or c.rows i no_people)) 4 (λ k. refl) (rows_in c.counts)

  pub rules-long : length (rules_bytes c) ≡ 4 * c.counts.rules
  rules-long = length_run (λ i. bytes_of_rule (get_or c.rules i zero_rule)) 4 (λ k. refl) c.counts.rules

  -- the file up to each part's end
  pub upto-people : length (head_bytes c.counts ++ people_bytes c) ≡ steps_at c.counts
  upto-people = omega (arith, length-append (head_bytes c.counts) (people_bytes c), head-long c.counts, people-long)

  pub upto-steps : length (head_bytes c.counts ++ people_bytes c ++ steps_bytes c) ≡ tables_at c.counts
  upto-steps = omega (arith, length-append (head_bytes c.counts ++ people_bytes c) (steps_bytes c), upto-people, steps-long)

  pub upto-tables : length (head_bytes c.counts ++ people_bytes c ++ steps_bytes c ++ tables_bytes c) ≡ rules_at c.counts
  upto-tables = omega (arith, length-append (head_bytes c.counts ++ people_bytes c ++ steps_bytes c) (tables_bytes c), upto-steps, tables-long)

  pub file-long : length (file_of c) ≡ total_of c.counts
  unfolding file_of
  file-long =
      omega (
        arith,
        length-append (head_bytes c.counts ++ people_bytes c ++ steps_bytes c ++ tables_bytes c) (rules_bytes c),
        upto-tables,
        rules-long,
      )

-- A part starts before it ends, and ends within the file.
pub part-within : (n : Counts) (part : Part) → (start_of n part ≤ end_of n part) × (end_of n part ≤ total_of n)
part-within n People = (omega arith, omega arith)
part-within n Steps = (omega arith, omega arith)
part-within n Tables = (omega arith, omega arith)
part-within n Rules = (omega arith, omega arith)
