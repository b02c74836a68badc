-- What each public call gives, for every value of its arguments: the refusal, or the answer of its walk under its limit.
use Rattle.std.specs.Prelude.{List, ℕ, Result}
use Rattle.games.specs.Walks.{Search}
use Rattle.games.specs.Limit.{cut}
use Rattle.cases.specs.declared.Case.{Case}
use Rattle.cases.specs.Chain.{plan_of, static_of, decremental_of, one_shot_of, dynamic_of, advice_at, away_at}
use Rattle.refusals.specs.declared.Refusal.{Refusal}
use Rattle.refusals.specs.CaseChecks.{judged_case}
use Rattle.asking.specs.Asking.{judged_question, judged_advice, judged_away}
use Rattle.planner.specs.declared.Question.{Question}
use Rattle.planner.specs.declared.Question.TheVariants.{Static, Decremental, OneShot, Dynamic}
use Rattle.planner.specs.declared.PlanAnswer.{PlanAnswer}
use Rattle.planner.specs.declared.VerdictAnswer.{VerdictAnswer}
use Rattle.planner.specs.declared.AdviceAnswer.{AdviceAnswer}
use Rattle.planner.specs.declared.AwayAnswer.{AwayAnswer}
use Rattle.planner.specs.Answers.{plan_answer, verdict_answer, advice_answer, away_answer, given}

-- Plan: judged by 4 and 7 to 11, then walked.
unfoldable pub plan_call : Case → ℕ → Result PlanAnswer Refusal
plan_call c l = given (judged_case c) (plan_answer (cut l (plan_of c)))

-- the walk of each question
abbrev pub walk_of : Question → Case → ℕ → Search ℕ
walk_of Static c t = static_of c t
walk_of Decremental c t = decremental_of c t
walk_of OneShot c t = one_shot_of c t
walk_of Dynamic c t = dynamic_of c t

-- A question: judged by 4, 7 to 11 and 12, then walked.
unfoldable pub question_call : Question → Case → ℕ → ℕ → Result VerdictAnswer Refusal
question_call q c t l = given (judged_question c t) (verdict_answer (cut l (walk_of q c t)))

abbrev pub static_call : Case → ℕ → ℕ → Result VerdictAnswer Refusal
static_call c t l = question_call Static c t l

abbrev pub decremental_call : Case → ℕ → ℕ → Result VerdictAnswer Refusal
decremental_call c t l = question_call Decremental c t l

abbrev pub one_shot_call : Case → ℕ → ℕ → Result VerdictAnswer Refusal
one_shot_call c t l = question_call OneShot c t l

abbrev pub dynamic_call : Case → ℕ → ℕ → Result VerdictAnswer Refusal
dynamic_call c t l = question_call Dynamic c t l

-- Advice at position p with A absent: judged by 4, 7 to 11, 12, 13 and 14, then walked.
unfoldable pub advice_call : Case → List ℕ → ℕ → ℕ → ℕ → Result AdviceAnswer Refusal
advice_call c p t A l = given (judged_advice c p t A) (advice_answer (cut l (advice_at c t A p)))

-- Away at position p: judged by 4, 7 to 11, 12 and 13, then walked.
unfoldable pub away_call : Case → List ℕ → ℕ → ℕ → Result AwayAnswer Refusal
away_call c p t l = given (judged_away c p t) (away_answer (cut l (away_at c t p)))
