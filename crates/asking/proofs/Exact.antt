-- The calls that take t, a position or an absence set are judged exactly by the scope's table.
use mathlib.Core.Path.{◌≡◌, refl, sym, ap}
use mathlib.Core.Logic.{◌⊎◌, inl, inr, ◌↔◌}
use mathlib.Core.Bool.{Bool, true, false, not, ◌||◌}
use mathlib.Core.Option.{some}
use mathlib.Core.List.{List}
use Prim.Native.Nat.{ℕ, suc, ◌≤◌, ◌<◌}
use native.Mathlib.Omega.{arith}
use borrow.Author.Tests.{ltb-true, ltb-false, not-true}
use lib.Dec.{ltb}
use lib.ListN.{length, get_or, take}
use Rattle.sets.specs.Lists.{pick}
use Rattle.sets.specs.Sets.{size, past}
use Rattle.sets.specs.Stored.{width}
use Rattle.cases.specs.declared.Case.{Case}
use Rattle.cases.specs.Case.{people, steps}
use Rattle.cases.specs.Plans.{may, holds}
use Rattle.refusals.specs.Refusals.{refusal, entry_check}
use Rattle.refusals.specs.CaseChecks.{case_checks}
use Rattle.refusals.specs.Table.{Earliest, NamesPast, Exactly, case_table}
use Rattle.refusals.proofs.Table.{Tells, exactly, told-append, only-tells, entry-tells}
use Rattle.refusals.proofs.Conditions.{either_is, below-is, not-below-is, past-names}
use Rattle.refusals.proofs.Cases.{case-tells}
use Rattle.asking.specs.Asking.{most_absent, number_check, bad_entry, position_check, absence_check, question_checks, away_checks, advice_checks, judged_question, judged_away, judged_advice}
use Rattle.asking.specs.Table.{BadEntry, unknown, not_allowed, invalid, BadPosition, too_long, at_entry, BadAbsence, unknown_person, more_than, number_row, position_row, absence_row, question_table, away_table, advice_table}

-- ---- 12

pub number-tells : (t : ℕ) → Tells (number_check t) (number_row t)
unfolding number_check
number-tells t = only-tells 12 _ _ (below-is most_absent t)

-- ---- 13

not_is : (b : Bool) → (not b ≡ true) ↔ (b ≡ false)
not_is b = (not-true b, ap not)

pub bad-entry : (c : Case) (p : List ℕ) (i : ℕ) → (bad_entry c p i ≡ true) ↔ BadEntry c p i
unfolding bad_entry
bad-entry c p i = (λ e. to (sums.0 e), λ k. sums.1 (from k))
  where
    sums : (bad_entry c p i ≡ true) ↔ ((people c ≤ get_or p i 0) ⊎ ((may c (get_or p i 0) i ≡ false) ⊎ (holds c (take (suc i) p) ≡ false)))
    sums = either_is _ _ (not-below-is _ _) (either_is _ _ (not_is _) (not_is _))

    to : (people c ≤ get_or p i 0) ⊎ ((may c (get_or p i 0) i ≡ false) ⊎ (holds c (take (suc i) p) ≡ false)) → BadEntry c p i
    to (inl h) = unknown h
    to (inr (inl h)) = not_allowed h
    to (inr (inr h)) = invalid h

    from : BadEntry c p i → (people c ≤ get_or p i 0) ⊎ ((may c (get_or p i 0) i ≡ false) ⊎ (holds c (take (suc i) p) ≡ false))
    from (unknown h) = inl h
    from (not_allowed h) = inr (inl h)
    from (invalid h) = inr (inr h)

module _ (c : Case) (p : List ℕ) where
  entries-tell : Tells (entry_check 13 (λ i. i) (bad_entry c p) (length p)) (record { number = 13; Met = Earliest (length p) (λ i. i) (BadEntry c p) })
  entries-tell = entry-tells 13 (length p) (λ i. i) (bad_entry c p) (BadEntry c p) (λ i l. bad-entry c p i)

  -- a position that is short enough, and one that is too long
  short : length p < steps c → (place : ℕ) → BadPosition c p place → entry_check 13 (λ i. i) (bad_entry c p) (length p) ≡ some (refusal 13 place)
  short l place (too_long h q) = absurd (let z : ⊥ = omega arith in z)
  short l place (at_entry h k) = entries-tell.tells place k

  long : steps c ≤ length p → (place : ℕ) → BadPosition c p place → some (refusal 13 (steps c)) ≡ some (refusal 13 place)
  long l place (too_long h q) = ap (λ x. some (refusal 13 x)) (sym q)
  long l place (at_entry h k) = absurd (let z : ⊥ = omega arith in z)

  pub position-tells : Tells (position_check c p) (position_row c p)
  unfolding position_check
  position-tells = go (ltb (length p) (steps c)) refl
    where
      go : (b : Bool) → ltb (length p) (steps c) ≡ b
          → Tells (pick b (entry_check 13 (λ i. i) (bad_entry c p) (length p)) (some (refusal 13 (steps c)))) (position_row c p)
      go true l =
          record {
            met = λ r e. let k = entries-tell.met r e in (k.0, at_entry (ltb-true _ _ l) k.1);
            tells = short (ltb-true _ _ l);
          }
      go false l =
          record {
            met = λ r e.
                let q : refusal 13 (steps c) ≡ r = cc in (sym (ap (λ s. s.number) q), too_long (ltb-false _ _ l) (sym (ap (λ s. s.place) q)));
            tells = long (ltb-false _ _ l);
          }

-- ---- 14

pub absence-tells : (n t A : ℕ) → Tells (absence_check n t A) (absence_row n t A)
unfolding absence_check
absence-tells n t A = only-tells 14 _ _ ((λ e. to (sums.0 e)), λ k. sums.1 (from k))
  where
    sums : (past width A n || ltb t (size width A) ≡ true) ↔ (NamesPast width A n ⊎ (t < size width A))
    sums = either_is _ _ (past-names width A n) (below-is t (size width A))

    to : NamesPast width A n ⊎ (t < size width A) → BadAbsence n t A
    to (inl h) = unknown_person h
    to (inr h) = more_than h

    from : BadAbsence n t A → NamesPast width A n ⊎ (t < size width A)
    from (unknown_person h) = inl h
    from (more_than h) = inr h

-- ---- The calls

module _ (c : Case) where
  -- static, decremental, one-shot and dynamic
  pub question-exactly : (t : ℕ) → Exactly (question_table c t) (judged_question c t)
  unfolding judged_question
  question-exactly t =
      exactly (question_checks c t) (question_table c t)
      (told-append (case_checks c) _ (case_table c) _ (case-tells c) (number-tells t, tt)) refl

  pub away-exactly : (p : List ℕ) (t : ℕ) → Exactly (away_table c p t) (judged_away c p t)
  unfolding judged_away
  away-exactly p t =
      exactly (away_checks c p t) (away_table c p t)
      (told-append (case_checks c) _ (case_table c) _ (case-tells c) (number-tells t, (position-tells c p, tt))) refl

  pub advice-exactly : (p : List ℕ) (t A : ℕ) → Exactly (advice_table c p t A) (judged_advice c p t A)
  unfolding judged_advice
  advice-exactly p t A =
      exactly (advice_checks c p t A) (advice_table c p t A)
      (told-append (case_checks c) _ (case_table c) _ (case-tells c) (number-tells t, (position-tells c p, (absence-tells (people c) t A, tt)))) refl
