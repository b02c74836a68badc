-- A file holds nothing above its counts: the case that is read has zero there.
use Prim.Native.Nat.{ℕ, ◌+◌, ◌-◌, ◌*◌, ◌≤◌, ◌<◌}
use mathlib.Core.Path.{◌≡◌, refl, sym}
use mathlib.Core.List.{List, map}
use native.Mathlib.Decide.{dec_lt}
use native.Mathlib.Omega.{arith}
use borrow.Author.Tests.{lt-ltb, le-ltb}
use lib.ListN.{length, drop, length-take, get_or-eq_default}
use Rattle.sets.specs.Lists.{upto}
use Rattle.sets.specs.Stored.{no_people}
use Rattle.cases.specs.declared.Counts.{Counts}
use Rattle.cases.specs.Case.{entry, zeroed, zero_step, zero_rule, most_people, most_steps, most_tables, most_rules}
use Rattle.refusals.specs.Offsets.{rows_in, steps_at, tables_at, rules_at, total_of}
use Rattle.words.specs.Word.{byte}
use Rattle.words.specs.Part.{table, stretch}
use Rattle.words.proofs.Parts.{get_or-table, table-cong}
use Rattle.layout.specs.declared.Part.TheVariants.{People, Steps, Tables, Rules}
use Rattle.layout.specs.Layout.{stretch_of, person_in, step_in, row_in, rule_in, case_at}

-- An array whose entries are zero from n on stays as it is where those above n are made zero.
zero-above : {A : Type 0} (z : A) (n m : ℕ) (g : ℕ → A) → ((i : ℕ) → n ≤ i → g i ≡ z) → map (entry z n (table g m)) (upto m) ≡ table g m
unfolding entry
zero-above z n m g h = table-cong (entry z n (table g m)) g m each
  where
    split : (i : ℕ) → i < m → Dec (i < n) → entry z n (table g m) i ≡ g i
    split i b (yes l) = rw (lt-ltb i n l) (get_or-table g m i z b)
    split i b (no l) = rw (le-ltb i n (omega arith)) (sym (h i (omega arith)))

    each : (i : ℕ) → i < m → entry z n (table g m) i ≡ g i
    each i b = split i b (dec_lt i n)

-- past its end every byte of a part is 0
past_end : (part : List ℕ) (i : ℕ) → length part ≤ i → byte part i ≡ 0
past_end part i h = get_or-eq_default part 0 h

-- and so are the four bytes of an entry that starts there
four-past : (part : List ℕ) (k : ℕ) → length part ≤ k
    → (byte part k ≡ 0) × (byte part (k + 1) ≡ 0) × (byte part (k + 2) ≡ 0) × (byte part (k + 3) ≡ 0)
four-past part k h =
    (past_end part k h, past_end part (k + 1) (omega arith), past_end part (k + 2) (omega arith), past_end part (k + 3) (omega arith))

module _ (f : List ℕ) (n : Counts) where
  stretch-long : (a b : ℕ) → length (stretch f a b) ≤ b - a
  stretch-long a b = omega (arith, length-take (b - a) (drop a f))

  person-above : (i : ℕ) → n.people ≤ i → person_in (stretch_of f n People) i ≡ 0
  person-above i h =
      let p = stretch_of f n People in
      let l = stretch-long 24 (steps_at n) in
      omega (arith, past_end p (2 * i) (omega arith), past_end p (2 * i + 1) (omega arith))

  step-above : (i : ℕ) → n.steps ≤ i → step_in (stretch_of f n Steps) i ≡ zero_step
  step-above i h =
      let l = stretch-long (steps_at n) (tables_at n) in
      let z = four-past (stretch_of f n Steps) (4 * i) (omega arith) in
      rw (z.0, z.1, z.2, z.3) refl

  row-above : (i : ℕ) → rows_in n ≤ i → row_in (stretch_of f n Tables) i ≡ no_people
  row-above i h =
      let l = stretch-long (tables_at n) (rules_at n) in
      let z = four-past (stretch_of f n Tables) (4 * i) (omega arith) in
      rw (z.0, z.1, z.2, z.3) refl

  rule-above : (i : ℕ) → n.rules ≤ i → rule_in (stretch_of f n Rules) i ≡ zero_rule
  rule-above i h =
      let l = stretch-long (rules_at n) (total_of n) in
      let z = four-past (stretch_of f n Rules) (4 * i) (omega arith) in
      rw (z.0, z.1, z.2, z.3) refl

  -- The case that a file holds has zero above its counts.
  pub held-zeroed : zeroed (case_at f n) ≡ case_at f n
  unfolding zeroed case_at
  held-zeroed =
      let people = zero-above 0 n.people most_people (person_in (stretch_of f n People)) person-above in
      let steps = zero-above zero_step n.steps most_steps (step_in (stretch_of f n Steps)) step-above in
      let rows = zero-above no_people (rows_in n) (most_tables * most_people) (row_in (stretch_of f n Tables)) row-above in
      let rules = zero-above zero_rule n.rules most_rules (rule_in (stretch_of f n Rules)) rule-above in
      λ i. record { counts = n; people = people i; steps = steps i; rows = rows i; rules = rules i }
