-- The order of a call's judgements, one after another, and what a call that is not refused gives.
use mathlib.Core.Path.{◌≡◌, refl, sym, ap, ◌∙◌}
use mathlib.Core.Logic.{inl}
use mathlib.Core.Option.{none}
use mathlib.Core.List.{List, [], ◌∷◌, ◌++◌, append_assoc}
use Prim.Native.Nat.{ℕ, ◌^◌, ◌≤◌, ◌<◌}
use Rattle.sets.specs.Stored.{width}
use Rattle.games.specs.Games.{Absent}
use Rattle.cases.specs.declared.Case.{Case}
use Rattle.cases.specs.Case.{people}
use Rattle.std.specs.Prelude.{Ok, Err}
use Rattle.refusals.specs.Refusals.{Judged, Good, Check, judged_by, or_else}
use Rattle.refusals.specs.CaseChecks.{case_checks, judged_case}
use Rattle.refusals.proofs.Order.{good-refused, judged-append, good-checks}
use Rattle.asking.specs.Asking.{most_absent, number_check, position_check, absence_check, judged_question, judged_away, judged_advice}
use Rattle.asking.proofs.Accepted.{GoodPosition, number-accepted, position-accepted, absence-accepted}

-- two judgements that come to good are both good
both-good : (j k : Judged) → or_else j k ≡ Good → (j ≡ Good) × (k ≡ Good)
both-good (Ok nothing) k e = (refl, e)
both-good (Err r) k e = absurd (good-refused e refl)

-- one check that refuses nothing
lone : (x : Check) → judged_by (x ∷ []) ≡ Good → x ≡ none
lone x e = good-checks (x ∷ []) e x (inl refl)

module _ (c : Case) where
  -- the case, then 12
  pub question-order : (t : ℕ) → judged_question c t ≡ or_else (judged_case c) (judged_by (number_check t ∷ []))
  unfolding judged_question judged_case
  question-order t = judged-append (case_checks c) (number_check t ∷ [])

  -- then 13
  pub away-order : (p : List ℕ) (t : ℕ) → judged_away c p t ≡ or_else (judged_question c t) (judged_by (position_check c p ∷ []))
  unfolding judged_away judged_question
  away-order p t =
      ap judged_by (sym (append_assoc (case_checks c) (number_check t ∷ []) (position_check c p ∷ [])))
      ∙ judged-append (case_checks c ++ (number_check t ∷ [])) (position_check c p ∷ [])

  -- then 14
  pub advice-order : (p : List ℕ) (t A : ℕ) → judged_advice c p t A ≡ or_else (judged_away c p t) (judged_by (absence_check (people c) t A ∷ []))
  unfolding judged_advice judged_away
  advice-order p t A =
      ap judged_by (sym (append_assoc (case_checks c) (number_check t ∷ (position_check c p ∷ [])) (absence_check (people c) t A ∷ [])))
      ∙ judged-append (case_checks c ++ (number_check t ∷ (position_check c p ∷ []))) (absence_check (people c) t A ∷ [])

  -- a question that is not refused: the case is good and t is at most 32
  pub question-good : (t : ℕ) → judged_question c t ≡ Good → (judged_case c ≡ Good) × (t ≤ most_absent)
  question-good t e =
      let k = both-good (judged_case c) (judged_by (number_check t ∷ [])) (sym (question-order t) ∙ e) in
      (k.0, number-accepted t (lone (number_check t) k.1))

  -- besides, the position can be played on
  pub away-good : (p : List ℕ) (t : ℕ) → judged_away c p t ≡ Good → (judged_case c ≡ Good) × (t ≤ most_absent) × GoodPosition c p
  away-good p t e =
      let k = both-good (judged_question c t) (judged_by (position_check c p ∷ [])) (sym (away-order p t) ∙ e) in
      let q = question-good t k.0 in
      (q.0, q.1, position-accepted c p (lone (position_check c p) k.1))

  -- besides, the absentees are at most t of the people
  pub advice-good : (p : List ℕ) (t A : ℕ) → A < 2 ^ width → judged_advice c p t A ≡ Good
      → (judged_case c ≡ Good) × (t ≤ most_absent) × GoodPosition c p × Absent (people c) t A
  advice-good p t A w e =
      let k = both-good (judged_away c p t) (judged_by (absence_check (people c) t A ∷ [])) (sym (advice-order p t A) ∙ e) in
      let q = away-good p t k.0 in
      (q.0, q.1, q.2, absence-accepted (people c) t A w (lone (absence_check (people c) t A) k.1))
