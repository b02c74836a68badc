-- What the code's steps come to, over plain values: a function's proof cites these with what its calls ensure.
use mathlib.Core.Path.{◌≡◌, sym, ap, ◌∙◌}
use mathlib.Core.Bool.{Bool, true}
use mathlib.Core.List.{List, [], ◌∷◌}
use Prim.Native.Nat.{ℕ, ◌≤◌, ◌<◌}
use native.Mathlib.Omega.{arith}
use lib.ListN.{get_or}
use Rattle.sets.specs.Sets.{size, past}
use Rattle.sets.specs.Stored.{no_people}
use Rattle.sets.proofs.Counting.{size-width}
use Rattle.sets.proofs.NotBelow.{past-width}
use Rattle.cases.specs.declared.Case.{Case}
use Rattle.cases.specs.Case.{most_steps, zero_step, zero_rule, entry, roles_held, roles_for}
use Rattle.cases.proofs.Rounds.{entry_at}
use Rattle.refusals.specs.Refusals.{Good, Refused, refusal, refusal_at, entry_check, judged_by}
use Rattle.refusals.specs.Offsets.{rows_in, person_place, step_place, row_place, rule_place}
use Rattle.refusals.specs.CaseChecks.{step_entry, row_entry, rule_entry, bad_person, bad_roles, bad_order, bad_row, bad_rule, entry_checks}
use Rattle.refusals.proofs.Search.{Searched, search-hit, search-end, found-cong}
use Rattle.judging.specs.Parts.{held_past, named_past, bad_step, row_past, people_check, roles_check, order_check, rows_check, rules_check}

-- ---- Sets of steps are one byte wide

pub past-byte : (x s : ℕ) {r : Bool} → x < 256 → r ≡ past 16 x s → past most_steps x s ≡ r
past-byte x s h e = past-width most_steps 16 x s h (omega arith) ∙ sym e

pub size-byte : (x : ℕ) {r : ℕ} → x < 256 → r ≡ size 16 x → size most_steps x ≡ r
size-byte x h e = size-width most_steps 16 x h (omega arith) ∙ sym e

-- ---- The search

module _ (number : ℕ) (place : ℕ → ℕ) {fails : ℕ → Bool} {m i : ℕ} where
  -- entry i is the first that fails
  pub first-fails : {b : Bool} → Searched fails m i → i < m → b ≡ fails i → b ≡ true
      → Refused (refusal number (place i)) ≡ judged_by (entry_check number place fails m ∷ [])
  unfolding judged_by
  first-fails s l e t = ap (λ o. judged_by (refusal_at number place o ∷ [])) (search-hit fails m s l e t)

  -- no entry fails
  pub none-fails : Searched fails m i → m ≤ i → Good ≡ judged_by (entry_check number place fails m ∷ [])
  unfolding judged_by
  none-fails s l = ap (λ o. judged_by (refusal_at number place o ∷ [])) (search-end fails m s l)

-- ---- The five checks

-- entries below their count are read as they stand
same_check : {A : Type 0} (number : ℕ) (place : ℕ → ℕ) (fails : ℕ → A → Bool) (zero : A) (m : ℕ) (entries : List A)
    → entry_check number place (λ i. fails i (get_or entries i zero)) m ≡ entry_check number place (λ i. fails i (entry zero m entries i)) m
same_check number place fails zero m entries =
    ap (refusal_at number place) (found-cong _ _ m (λ i l. ap (fails i) (sym (entry_at zero m entries i l))))

-- those of a case's parts are those of the case
pub same-checks : (c : Case)
    → (people_check c.counts c.people
    ∷ roles_check c.counts c.steps
    ∷ order_check c.counts c.steps
    ∷ rows_check c.counts c.rows
    ∷ rules_check c.counts c.rules ∷ [])
    ≡ entry_checks c
unfolding entry_checks bad_person roles_held bad_roles roles_for bad_order step_entry bad_row row_entry rule_entry
same-checks c = λ i.
    let n = c.counts in
    same_check 7 person_place (λ u. held_past n) 0 n.people c.people i
    ∷ same_check 8 (step_place n) (λ s. named_past n) zero_step n.steps c.steps i
    ∷ same_check 9 (step_place n) bad_step zero_step n.steps c.steps i
    ∷ same_check 10 (row_place n) (λ j. row_past n) no_people (rows_in n) c.rows i
    ∷ same_check 11 (rule_place n) (λ j. bad_rule n) zero_rule n.rules c.rules i ∷ []
