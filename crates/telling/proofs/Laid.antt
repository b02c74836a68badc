-- The answers on the board of a case that is judged with t are those of the calls.
use mathlib.Core.Path.{◌≡◌, refl, sym, ap, ap₂, ◌∙◌}
use mathlib.Core.List.{List, [], ◌∷◌}
use Prim.Native.Nat.{ℕ}
use Rattle.games.specs.Limit.{cut}
use Rattle.cases.specs.declared.Case.{Case}
use Rattle.cases.specs.Case.{people, steps}
use Rattle.laying.specs.Ready.{Ready}
use Rattle.std.specs.Prelude.{Ok, Err}
use Rattle.refusals.specs.Refusals.{Judged, Good, judged_by, or_else}
use Rattle.refusals.specs.CaseChecks.{judged_case}
use Rattle.files.specs.declared.FileRead.{FileRead}
use Rattle.files.specs.Checks.{judged_file}
use Rattle.files.specs.Reading.{read_of}
use Rattle.files.proofs.Nothing.{read-case-good}
use Rattle.asking.specs.Asking.{number_check, judged_question}
use Rattle.asking.proofs.Calls.{question-order, question-good}
use Rattle.asking.proofs.Laid.{good-ready}
use Rattle.planner.specs.declared.Question.{Question}
use Rattle.planner.specs.declared.PlanAnswer.{PlanAnswer}
use Rattle.planner.specs.declared.VerdictAnswer.{VerdictAnswer}
use Rattle.planner.specs.Answers.{verdict_answer}
use Rattle.planner.specs.Calls.{plan_call, question_call}
use Rattle.planner.specs.OnBoard.{plan_on, plan_answer_on, walk_on}
use Rattle.telling.specs.Telling.{file_in}
use Rattle.planner.proofs.Answering.{board, first_good, plan-walked, plan-answered, question-walked, question-answered}

pub case-ready : (c : Case) (t : ℕ) → judged_question c t ≡ Good → Ready c
case-ready c t e = good-ready c (question-good c t e).0

pub planned-as : (c : Case) (t l : ℕ) {b : List ℕ} {x : PlanAnswer} → judged_question c t ≡ Good → b ≡ board c
    → x ≡ plan_answer_on (steps c) (cut l (plan_on b (people c) (steps c))) → Ok x ≡ plan_call c l
planned-as c t l {b} {x} e f y = plan-answered c l x (question-good c t e).0 (plan-walked c l b (people c) (steps c) x (case-ready c t e) f refl refl y)

pub asked-as : (q : Question) (c : Case) (t l : ℕ) {b : List ℕ} {x : VerdictAnswer} → judged_question c t ≡ Good → b ≡ board c
    → x ≡ verdict_answer (cut l (walk_on q b (people c) t (steps c))) → Ok x ≡ question_call q c t l
asked-as q c t l {b} {x} e f y = question-answered q c t l x e (question-walked q c t l b (people c) (steps c) x (case-ready c t e) f refl refl y)

-- an input that is not refused holds a case that is judged with t
pub input-good : (input : List ℕ) (f : FileRead) (t : ℕ) (k : Judged) → f ≡ read_of (file_in input) → k ≡ judged_by (number_check t ∷ []) → Good ≡ or_else f.judged k
    → judged_question f.held t ≡ Good
unfolding read_of
input-good input f t k e g h =
    let i : f.judged ≡ Good = first_good f.judged k Good h refl in
    let file : judged_file (file_in input) ≡ Good = sym (ap (λ (x : FileRead). x.judged) e) ∙ i in
    let held : judged_case f.held ≡ Good = ap (λ (x : FileRead). judged_case x.held) e ∙ read-case-good (file_in input) file in
    question-order f.held t ∙ ap₂ or_else (held ∙ sym i) (sym g) ∙ sym h
