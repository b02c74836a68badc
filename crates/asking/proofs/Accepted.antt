-- What an accepted absence number, position and absence set give.
use mathlib.Core.Path.{◌≡◌, refl, sym, ap, subst, ◌∙◌}
use mathlib.Core.Bool.{Bool, true, false, not}
use mathlib.Core.Option.{none, some, some-ne-none}
use mathlib.Core.List.{List}
use Prim.Native.Nat.{ℕ, zero, suc, ◌^◌, ◌≤◌, ◌<◌}
use native.Mathlib.Omega.{arith}
use borrow.Author.Tests.{ltb-true, ltb-false, not-false, lt-ltb}
use lib.Dec.{ltb}
use lib.ListN.{length, get_or, take, drop, take-append-drop}
use lib.Seq.{take_all}
use Rattle.sets.specs.Lists.{pick}
use Rattle.sets.specs.Sets.{size, past}
use Rattle.sets.specs.Stored.{width}
use Rattle.sets.proofs.Lists.{only_if-none}
use Rattle.sets.proofs.Counting.{size-width}
use Rattle.sets.proofs.NotBelow.{past-lt}
use Rattle.games.specs.Games.{Absent}
use Rattle.cases.specs.declared.Case.{Case}
use Rattle.cases.specs.Case.{people, steps}
use Rattle.cases.specs.Plans.{may, holds, Valid}
use Rattle.cases.proofs.Rounds.{start-valid, prefix-valid}
use Rattle.refusals.specs.Refusals.{refusal, refusal_at, found_first}
use Rattle.refusals.proofs.Search.{entry-none, none_found}
use Rattle.refusals.proofs.Conditions.{nor-false}
use Rattle.asking.specs.Asking.{most_absent, number_check, bad_entry, position_check, absence_check}

-- ---- 12

pub number-accepted : (t : ℕ) → number_check t ≡ none → t ≤ most_absent
unfolding number_check
number-accepted t e = ltb-false most_absent t (only_if-none _ _ e)

-- ---- 13

-- a position that the calls of play accept: not full, of known persons, and valid
pub record GoodPosition (c : Case) (p : List ℕ) : Type 0 where
  pub short : length p < steps c
  pub known : (i : ℕ) → i < length p → get_or p i 0 < people c
  pub valid : Valid c p

module _ (c : Case) (p : List ℕ) where
  fine : position_check c p ≡ none → (length p < steps c) × ((i : ℕ) → i < length p → bad_entry c p i ≡ false)
  unfolding position_check
  fine e = go (ltb (length p) (steps c)) refl e
    where
      go : (b : Bool) → ltb (length p) (steps c) ≡ b
          → pick b (refusal_at 13 (λ i. i) (found_first (bad_entry c p) (length p))) (some (refusal 13 (steps c))) ≡ none
          → (length p < steps c) × ((i : ℕ) → i < length p → bad_entry c p i ≡ false)
      go true l e = (ltb-true _ _ l, entry-none 13 (λ i. i) (bad_entry c p) (length p) e)
      go false l e = absurd (some-ne-none _ e)

  -- an entry that does not fail
  pub passes : (i : ℕ) → bad_entry c p i ≡ false → (get_or p i 0 < people c) × (may c (get_or p i 0) i ≡ true) × (holds c (take (suc i) p) ≡ true)
  unfolding bad_entry
  passes i e =
      let a = nor-false (not (ltb (get_or p i 0) (people c))) _ e in
      let b = nor-false (not (may c (get_or p i 0) i)) (not (holds c (take (suc i) p))) a.1 in
      (ltb-true _ _ (not-false _ a.0), not-false _ b.0, not-false _ b.1)

  whole : (n : ℕ) → length p ≡ n → ((i : ℕ) → i < length p → bad_entry c p i ≡ false) → holds c p ≡ true
  whole zero l h = subst (λ q. holds c q ≡ true) (take_all 0 p (omega arith)) (start-valid c).kept
  whole (suc i) l h = subst (λ q. holds c q ≡ true) (take_all (suc i) p (omega arith)) (passes i (h i (omega arith))).2

  pub position-accepted : position_check c p ≡ none → GoodPosition c p
  position-accepted e =
      let f = fine e in
      record {
        short = f.0;
        known = λ i l. (passes i (f.1 i l)).0;
        valid = record { able = λ i l. (passes i (f.1 i l)).1; kept = whole (length p) refl f.1 };
      }

  pub accepted-position : GoodPosition c p → position_check c p ≡ none
  unfolding position_check bad_entry
  accepted-position g =
      ap (λ (b : Bool). pick b (refusal_at 13 (λ i. i) (found_first (bad_entry c p) (length p))) (some (refusal 13 (steps c)))) (lt-ltb _ _ g.short)
      ∙ ap (refusal_at 13 (λ i. i)) (none_found (bad_entry c p) (length p) good)
    where
      good : (i : ℕ) → i < length p → bad_entry c p i ≡ false
      good i l = simp (lt-ltb _ _ (g.known i l), g.valid.able i l, prefix i)
        where
          prefix : (i : ℕ) → holds c (take (suc i) p) ≡ true
          prefix i = (prefix-valid c (take (suc i) p) (drop (suc i) p) (subst (Valid c) (sym (take-append-drop (suc i) p)) g.valid)).kept

-- ---- 14

pub absence-accepted : (n t A : ℕ) → A < 2 ^ width → absence_check n t A ≡ none → Absent n t A
unfolding absence_check
absence-accepted n t A w e =
    let f = nor-false (past width A n) (ltb t (size width A)) (only_if-none _ _ e) in
    let k = past-lt width A n w f.0 in
    record { known = k; few = omega (arith, size-width n width A k w, ltb-false t (size width A) f.1) }
