-- What the calls that take t, a position or an absence set are judged by. Each judges the case first, then by its other numbers.
use Rattle.std.specs.Prelude.{Bool, not, ◌||◌, List, [], ◌∷◌, ◌++◌, ℕ, suc, ltb, length, get_or, take}
use Rattle.std.proofs.Math.Option.{some}
use Rattle.sets.specs.Lists.{pick}
use Rattle.sets.specs.Sets.{size, past}
use Rattle.sets.specs.Stored.{width}
use Rattle.cases.specs.declared.Case.{Case}
use Rattle.cases.specs.Case.{people, steps}
use Rattle.cases.specs.Plans.{may, holds}
use Rattle.refusals.specs.Refusals.{Judged, Check, refusal, judged_by, only_check, entry_check}
use Rattle.refusals.specs.CaseChecks.{case_checks}

-- the highest absence number
abbrev pub most_absent : ℕ
most_absent = 32

-- 12: t is above 32
unfoldable pub number_check : ℕ → Check
number_check t = only_check 12 (ltb most_absent t)

-- Entry i of a position is unknown, not allowed, or makes the position invalid: with it a rule, all of whose steps are filled, does not hold.
unfoldable pub bad_entry : Case → List ℕ → ℕ → Bool
bad_entry c p i = not (ltb (get_or p i 0) (people c)) || (not (may c (get_or p i 0) i) || not (holds c (take (suc i) p)))

-- 13: a position has as many entries as steps or more (place: step count), else such an entry (place: first such index)
unfoldable pub position_check : Case → List ℕ → Check
position_check c p = pick (ltb (length p) (steps c)) (entry_check 13 (λ i. i) (bad_entry c p) (length p)) (some (refusal 13 (steps c)))

-- 14: of n people, an absence set names an unknown person or has more than t
unfoldable pub absence_check : ℕ → ℕ → ℕ → Check
absence_check n t A = only_check 14 (past width A n || ltb t (size width A))

-- ---- What each call is judged by: static, decremental, one-shot and dynamic; away; advice. Plan takes no t: it judges the case alone.

abbrev pub question_checks : Case → ℕ → List Check
question_checks c t = case_checks c ++ (number_check t ∷ [])

abbrev pub away_checks : Case → List ℕ → ℕ → List Check
away_checks c p t = case_checks c ++ (number_check t ∷ (position_check c p ∷ []))

abbrev pub advice_checks : Case → List ℕ → ℕ → ℕ → List Check
advice_checks c p t A = case_checks c ++ (number_check t ∷ (position_check c p ∷ (absence_check (people c) t A ∷ [])))

unfoldable pub judged_question : Case → ℕ → Judged
judged_question c t = judged_by (question_checks c t)

unfoldable pub judged_away : Case → List ℕ → ℕ → Judged
judged_away c p t = judged_by (away_checks c p t)

unfoldable pub judged_advice : Case → List ℕ → ℕ → ℕ → Judged
judged_advice c p t A = judged_by (advice_checks c p t A)
