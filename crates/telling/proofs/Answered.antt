-- A good input is answered: no call refuses a case that was judged good, so no line but a refusal's own says "refused".
use mathlib.Core.Path.{◌≡◌, refl, sym, ap, ap₂, ◌∙◌}
use mathlib.Core.List.{List, [], ◌∷◌}
use Prim.Native.Nat.{ℕ}
use Rattle.games.specs.Limit.{cut}
use Rattle.cases.specs.declared.Case.{Case}
use Rattle.cases.specs.Chain.{plan_of}
use Rattle.cases.specs.Case.{empty_case}
use Rattle.std.specs.Prelude.{Ok, Err}
use Rattle.refusals.specs.declared.Refusal.{Refusal}
use Rattle.refusals.specs.Refusals.{Judged, Good, Refused, judged_by, or_else}
use Rattle.refusals.specs.CaseChecks.{judged_case}
use Rattle.refusals.proofs.Order.{good-refused}
use Rattle.layout.specs.Layout.{case_of}
use Rattle.asking.specs.Asking.{number_check, judged_question}
use Rattle.asking.proofs.Calls.{question-order}
use Rattle.files.specs.Checks.{judged_file}
use Rattle.files.specs.Reading.{if_good, read_of}
use Rattle.files.proofs.Headers.{right-header, good-header}
use Rattle.planner.specs.declared.Question.{Question}
use Rattle.planner.specs.Answers.{plan_answer, verdict_answer}
use Rattle.planner.specs.Calls.{plan_call, question_call, walk_of}
use Rattle.planner.proofs.Answering.{plan-answered, question-answered}
use Rattle.telling.specs.Telling.{refused_line, text_of, told, answer_lines, judged_input, absent_in, limit_in, file_in}

both-good : (j k : Judged) → or_else j k ≡ Good → (j ≡ Good) × (k ≡ Good)
both-good (Ok nothing) k e = (refl, e)
both-good (Err r) k e = absurd (good-refused e refl)

-- The text of a refused input is the one line of its refusal.
pub refused-text : (input : List ℕ) (r : Refusal) → judged_input input ≡ Refused r → text_of input ≡ refused_line r
unfolding text_of
refused-text input r e = ap (λ (j : Judged). told j (answer_lines (read_of (file_in input)).held (absent_in input) (limit_in input))) e

module _ (input : List ℕ) (good : judged_input input ≡ Good) where
  -- the case that is asked about
  abbrev pub asked : Case
  asked = case_of (file_in input)

  file-good : judged_file (file_in input) ≡ Good
  unfolding judged_input read_of
  file-good = (both-good _ _ good).0

  pub case-good : judged_case asked ≡ Good
  case-good = sym (right-header (file_in input) (good-header (file_in input) file-good)) ∙ file-good

  pub question-is-good : judged_question asked (absent_in input) ≡ Good
  unfolding judged_input read_of
  question-is-good =
      question-order asked (absent_in input)
      ∙ ap₂ or_else case-good (both-good (judged_file (file_in input)) (judged_by (number_check (absent_in input) ∷ [])) good).1

  -- The text of a good input is the lines for the case that its file holds.
  pub good-text : text_of input ≡ answer_lines asked (absent_in input) (limit_in input)
  unfolding text_of read_of
  good-text =
      ap (λ (j : Judged). told j (answer_lines (read_of (file_in input)).held (absent_in input) (limit_in input))) good
      ∙ ap (λ (j : Judged). answer_lines (if_good j asked empty_case) (absent_in input) (limit_in input)) file-good

  -- Its plan line shows what the walk comes to under the limit.
  pub good-plan : plan_call asked (limit_in input) ≡ Ok (plan_answer (cut (limit_in input) (plan_of asked)))
  good-plan = sym (plan-answered asked (limit_in input) (plan_answer (cut (limit_in input) (plan_of asked))) case-good refl)

  -- So does the line of each question.
  pub good-verdict : (q : Question)
      → question_call q asked (absent_in input) (limit_in input) ≡ Ok (verdict_answer (cut (limit_in input) (walk_of q asked (absent_in input))))
  good-verdict q =
      sym
      (question-answered q asked (absent_in input) (limit_in input) (verdict_answer (cut (limit_in input) (walk_of q asked (absent_in input))))
      question-is-good
      refl)
