-- What is read of the file of a case: the case, with zero above its counts.
use Prim.Native.Nat.{ℕ, ◌+◌, ◌-◌, ◌*◌, ◌/◌, ◌%◌, ◌<◌}
use mathlib.Core.Path.{◌≡◌, refl, ◌∙◌, ap}
use mathlib.Core.List.{List, [], ◌++◌, append_assoc, append-nil}
use native.Mathlib.Omega.{arith}
use lib.ListN.{length, get_or, get_or-append}
use lib.Seq.{take_at, drop_at}
use Rattle.sets.specs.Stored.{number, no_people}
use Rattle.cases.specs.declared.Counts.{Counts}
use Rattle.cases.specs.declared.Case.{Case}
use Rattle.cases.specs.Case.{most_people, most_steps, most_tables, most_rules, zero_step, zero_rule, zeroed}
use Rattle.words.specs.Word.{byte, word, le2}
use Rattle.words.specs.Part.{table, run, stretch}
use Rattle.words.proofs.Parts.{get_or-run}
use Rattle.refusals.specs.Offsets.{rows_in, steps_at, tables_at, rules_at, total_of}
use Rattle.layout.specs.Layout.{head_words, counts_of, bytes_of_person, bytes_of_step, bytes_of_row, bytes_of_rule}
use Rattle.layout.specs.Layout.{head_bytes, people_bytes, steps_bytes, tables_bytes, rules_bytes, file_of}
use Rattle.layout.specs.Layout.{person_in, step_in, row_in, rule_in, case_at, case_of}
use Rattle.layout.proofs.Lengths.{head-long, people-long, steps-long, tables-long, rules-long, upto-people, upto-steps, upto-tables}
use Rattle.trips.proofs.Numbers.{word-le2, long-le4, at_zero, past-zero}
use Rattle.trips.proofs.Entries.{run-back}

-- ---- the entries of each part

module _ (c : Case) where
  people-back : table (person_in (people_bytes c)) most_people ≡ (zeroed c).people
  unfolding zeroed
  people-back =
      run-back 2 0 bytes_of_person person_in (λ x. refl) c.people c.counts.people most_people
      (λ p i x h. rw (at_zero p (2 * i) _ (h 0 (omega arith)), h 1 (omega arith)) (word-le2 x))
      (λ p i h. rw (at_zero p (2 * i) 0 (past-zero p (2 * i) 0 h), past-zero p (2 * i) 1 h) refl)

  steps_back : table (step_in (steps_bytes c)) most_steps ≡ (zeroed c).steps
  unfolding zeroed
  steps_back =
      run-back 4 zero_step bytes_of_step step_in (λ x. refl) c.steps c.counts.steps most_steps
      (λ p i x h. rw (at_zero p (4 * i) _ (h 0 (omega arith)), h 1 (omega arith), h 2 (omega arith), h 3 (omega arith), word-le2 x.roles) refl)
      (λ p i h. rw (at_zero p (4 * i) 0 (past-zero p (4 * i) 0 h), past-zero p (4 * i) 1 h, past-zero p (4 * i) 2 h, past-zero p (4 * i) 3 h) refl)

  tables-back : table (row_in (tables_bytes c)) (most_tables * most_people) ≡ (zeroed c).rows
  unfolding zeroed number
  tables-back =
      run-back 4 no_people bytes_of_row row_in (λ x. refl) c.rows (rows_in c.counts) (most_tables * most_people)
      (λ p i x h. rw (at_zero p (4 * i) _ (h 0 (omega arith)), h 1 (omega arith), h 2 (omega arith), h 3 (omega arith), long-le4 (number x)) refl)
      (λ p i h. rw (at_zero p (4 * i) 0 (past-zero p (4 * i) 0 h), past-zero p (4 * i) 1 h, past-zero p (4 * i) 2 h, past-zero p (4 * i) 3 h) refl)

  rules-back : table (rule_in (rules_bytes c)) most_rules ≡ (zeroed c).rules
  unfolding zeroed
  rules-back =
      run-back 4 zero_rule bytes_of_rule rule_in (λ x. refl) c.rules c.counts.rules most_rules
      (λ p i x h. rw (at_zero p (4 * i) _ (h 0 (omega arith)), h 1 (omega arith), h 2 (omega arith), h 3 (omega arith)) refl)
      (λ p i h. rw (at_zero p (4 * i) 0 (past-zero p (4 * i) 0 h), past-zero p (4 * i) 1 h, past-zero p (4 * i) 2 h, past-zero p (4 * i) 3 h) refl)

-- ---- the parts of the file

-- what stands between what comes before and what comes after
stretch-mid : (x y z : List ℕ) (a b : ℕ) → length x ≡ a → length y ≡ b - a → stretch (x ++ (y ++ z)) a b ≡ y
stretch-mid x y z a b h g = rw (drop_at x (y ++ z) a h, take_at y z (b - a) g) refl

module _ (c : Case) where
  abbrev n : Counts
  n = c.counts

  abbrev h : List ℕ
  h = head_bytes n

  abbrev p : List ℕ
  p = people_bytes c

  abbrev s : List ℕ
  s = steps_bytes c

  abbrev t : List ℕ
  t = tables_bytes c

  abbrev u : List ℕ
  u = rules_bytes c

  people-stretch : stretch (file_of c) 24 (steps_at n) ≡ p
  unfolding file_of
  people-stretch =
      let g : h ++ p ++ s ++ t ++ u ≡ h ++ (p ++ (s ++ (t ++ u))) = simp append_assoc in
      rw g (stretch-mid h p _ 24 (steps_at n) (head-long n) (omega (arith, people-long c)))

  steps-stretch : stretch (file_of c) (steps_at n) (tables_at n) ≡ s
  unfolding file_of
  steps-stretch =
      let g : h ++ p ++ s ++ t ++ u ≡ (h ++ p) ++ (s ++ (t ++ u)) = simp append_assoc in
      rw g (stretch-mid (h ++ p) s _ (steps_at n) (tables_at n) (upto-people c) (omega (arith, steps-long c)))

  tables-stretch : stretch (file_of c) (tables_at n) (rules_at n) ≡ t
  unfolding file_of
  tables-stretch =
      let g : h ++ p ++ s ++ t ++ u ≡ (h ++ p ++ s) ++ (t ++ u) = simp append_assoc in
      rw g (stretch-mid (h ++ p ++ s) t _ (tables_at n) (rules_at n) (upto-steps c) (omega (arith, tables-long c)))

  rules-stretch : stretch (file_of c) (rules_at n) (total_of n) ≡ u
  unfolding file_of
  rules-stretch =
      let g : h ++ p ++ s ++ t ++ u ≡ (h ++ p ++ s ++ t) ++ (u ++ []) = simp (append_assoc, append-nil) in
      rw g (stretch-mid (h ++ p ++ s ++ t) u [] (rules_at n) (total_of n) (upto-tables c) (omega (arith, rules-long c)))

  -- ---- the header

  -- number k of the header
  pub head-back : (k : ℕ) → k < 12 → word (file_of c) (2 * k) ≡ get_or (head_words n) k 0
  unfolding file_of
  head-back k b =
      let e : ℕ → List ℕ = λ i. le2 (get_or (head_words n) i 0) in
      let g : h ++ p ++ s ++ t ++ u ≡ h ++ (p ++ (s ++ (t ++ u))) = simp append_assoc in
      let lo : byte (h ++ p ++ s ++ t ++ u) (2 * k) ≡ get_or (head_words n) k 0 % 256 =
      rw g
      (get_or-append (run e 12) _ 0 (2 * k) (omega (arith, head-long n))
      ∙ at_zero (run e 12) (2 * k) _ (get_or-run e 2 (λ i. refl) 12 k 0 0 b (omega arith))) in
      let hi : byte (h ++ p ++ s ++ t ++ u) (2 * k + 1) ≡ get_or (head_words n) k 0 / 256 =
      rw g (get_or-append (run e 12) _ 0 (2 * k + 1) (omega (arith, head-long n)) ∙ get_or-run e 2 (λ i. refl) 12 k 1 0 b (omega arith)) in
      rw (lo, hi) (word-le2 _)

  pub counts-back : counts_of (file_of c) ≡ n
  counts-back =
      rw (head-back 1 (omega arith), head-back 2 (omega arith), head-back 3 (omega arith), head-back 4 (omega arith), head-back 5 (omega arith)) refl

  -- Reading what was written gives the case back, with zero above its counts.
  pub case-back : case_of (file_of c) ≡ zeroed c
  unfolding case_at zeroed
  case-back =
      ap (λ (k : Counts). case_at (file_of c) k) counts-back
      ∙ rw (people-stretch, steps-stretch, tables-stretch, rules-stretch, people-back c, steps_back c, tables-back c, rules-back c) refl
