-- What is written of the case that a file holds: the file's own bytes.
use Prim.Native.Nat.{ℕ, ◌+◌, ◌-◌, ◌*◌, ◌≤◌, ◌<◌}
use mathlib.Core.Path.{◌≡◌, refl, sym, ◌∙◌, ap}
use mathlib.Core.List.{List, [], ◌∷◌, ◌++◌}
use native.Mathlib.Decide.{dec_lt}
use native.Mathlib.Nat.{mul-le-mul}
use native.Mathlib.Omega.{arith}
use lib.ListN.{length, get_or, take, drop, length-take, length-drop, get_or-eq_default}
use lib.Seq.{take_all, take-add, get_or-take, get_or-drop}
use Rattle.sets.specs.Stored.{number, no_people}
use Rattle.cases.specs.Case.{most_people, most_steps, most_tables, most_rules, zero_step, zero_rule}
use Rattle.words.specs.Word.{byte, word, le2}
use Rattle.words.specs.Part.{table, stretch}
use Rattle.words.proofs.Parts.{get_or-table, run-cut}
use Rattle.refusals.specs.Offsets.{rows_in, steps_at, tables_at, rules_at, total_of}
use Rattle.refusals.specs.CaseChecks.{Limited}
use Rattle.layout.specs.Layout.{head_words, counts_of, bytes_of_person, bytes_of_step, bytes_of_row, bytes_of_rule}
use Rattle.layout.specs.Layout.{head_bytes, people_bytes, steps_bytes, tables_bytes, rules_bytes, file_of}
use Rattle.layout.specs.Layout.{person_in, step_in, row_in, rule_in, case_at, case_of}
use Rattle.trips.proofs.Numbers.{le2-word, le4-long, take-two, take-four}
use Rattle.trips.proofs.Entries.{run-again}

-- ---- stretches of a file

stretch-long : (f : List ℕ) (a b : ℕ) → b ≤ length f → length (stretch f a b) ≡ b - a
stretch-long f a b h = simp (length-take, length-drop) (omega arith)

stretch-bytes : (f : List ℕ) → ((k : ℕ) → byte f k < 256) → (a b k : ℕ) → byte (stretch f a b) k < 256
stretch-bytes f small a b k = go (dec_lt k (b - a))
  where
    go : Dec (k < b - a) → byte (stretch f a b) k < 256
    go (yes h) = rw (get_or-take (b - a) (drop a f) k 0 h, get_or-drop a f k 0) (small (a + k))
    go (no h) = rw (get_or-eq_default (stretch f a b) 0 {n = k} (omega (arith, length-take (b - a) (drop a f)))) (omega arith)

-- one stretch after the other
take-stretch : (f : List ℕ) (a b : ℕ) → a ≤ b → take a f ++ stretch f a b ≡ take b f
take-stretch f a b h = let k : a + (b - a) ≡ b = omega arith in sym (take-add a (b - a) f) ∙ ap (λ x. take x f) k

-- ---- what is written of an entry that was read is the entry's bytes

module _ (l : List ℕ) (small : (k : ℕ) → byte l k < 256) (i : ℕ) where
  two-again : 2 * i + 2 ≤ length l → le2 (word l (2 * i)) ≡ take 2 (drop (2 * i) l)
  two-again h = le2-word _ _ (small (2 * i)) (small (2 * i + 1)) ∙ sym (take-two l (2 * i) h)

  step-again : 4 * i + 4 ≤ length l → bytes_of_step (step_in l i) ≡ take 4 (drop (4 * i) l)
  step-again h =
      ap (λ x. x ++ (byte l (4 * i + 2) ∷ byte l (4 * i + 3) ∷ [])) (le2-word _ _ (small (4 * i)) (small (4 * i + 1)))
      ∙ sym (take-four l (4 * i) h)

  row-again : 4 * i + 4 ≤ length l → bytes_of_row (row_in l i) ≡ take 4 (drop (4 * i) l)
  unfolding number
  row-again h = le4-long _ _ _ _ (small (4 * i)) (small (4 * i + 1)) (small (4 * i + 2)) (small (4 * i + 3)) ∙ sym (take-four l (4 * i) h)

  rule-again : 4 * i + 4 ≤ length l → bytes_of_rule (rule_in l i) ≡ take 4 (drop (4 * i) l)
  rule-again h = sym (take-four l (4 * i) h)

-- ---- the file

module _ (f : List ℕ) (small : (k : ℕ) → byte f k < 256) (limits : Limited (counts_of f)) (long : length f ≡ total_of (counts_of f))
    (words : head_words (counts_of f) ≡ table (λ i. word f (2 * i)) 12) where
  head-again : head_bytes (counts_of f) ≡ take 24 f
  head-again =
      run-cut (λ i. le2 (get_or (head_words (counts_of f)) i 0)) 2 (λ k. refl) f 12 (omega arith)
      (λ i b. ap le2 (ap (λ s. get_or s i 0) words ∙ get_or-table (λ j. word f (2 * j)) 12 i 0 b) ∙ two-again f small i (omega arith))

  -- Writing what was read of a good file gives its bytes back.
  pub file-again : file_of (case_of f) ≡ f
  unfolding file_of case_at
  file-again =
      let n = counts_of f in
      let a = steps_at n in
      let b = tables_at n in
      let e = total_of n in
      let people : people_bytes (case_at f n) ≡ stretch f 24 a =
      run-again 2 0 bytes_of_person person_in (λ x. refl) (stretch f 24 a) n.people most_people (stretch-long f 24 a (omega arith) ∙ (omega arith))
      limits.people
      (λ i h. two-again (stretch f 24 a) (stretch-bytes f small 24 a) i h) in
      let steps : steps_bytes (case_at f n) ≡ stretch f a b =
      run-again 4 zero_step bytes_of_step step_in (λ x. refl) (stretch f a b) n.steps most_steps (stretch-long f a b (omega arith) ∙ (omega arith))
      limits.steps
      (λ i h. step-again (stretch f a b) (stretch-bytes f small a b) i h) in
      let tables : tables_bytes (case_at f n) ≡ stretch f b (rules_at n) =
      run-again 4 no_people bytes_of_row row_in (λ x. refl) (stretch f b (rules_at n)) (rows_in n) (most_tables * most_people)
      (stretch-long f b (rules_at n) (omega arith) ∙ (omega arith))
      (mul-le-mul limits.tables limits.people)
      (λ i h. row-again (stretch f b (rules_at n)) (stretch-bytes f small b (rules_at n)) i h) in
      let rules : rules_bytes (case_at f n) ≡ stretch f (rules_at n) e =
      run-again 4 zero_rule bytes_of_rule rule_in (λ x. refl) (stretch f (rules_at n) e) n.rules most_rules (stretch-long f (rules_at n) e (omega arith) ∙ (omega arith))
      limits.rules
      (λ i h. rule-again (stretch f (rules_at n) e) (stretch-bytes f small (rules_at n) e) i h) in
      rw (people, steps, tables, rules, head-again)
      (rw (take-stretch f 24 a (omega arith), take-stretch f a b (omega arith), take-stretch f b (rules_at n) (omega arith), take-stretch f (rules_at n) e (omega arith))
      (take_all e f (omega arith)))
