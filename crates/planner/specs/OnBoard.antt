-- What the calls inside cite besides: the walks on a board from the start, a plan as a board tells it, and advice and away on a case that is ready.
use Rattle.std.proofs.Math.Option.{Option, none, some}
use Rattle.std.specs.Prelude.{List, [], ◌∷◌, ℕ, Result}
use Rattle.games.specs.Walks.{Search, plan, static, decremental, one_shot, dynamic}
use Rattle.games.specs.Limit.{Ended, limit, ended, Answer, cut}
use Rattle.cases.specs.declared.Case.{Case}
use Rattle.cases.specs.declared.Filled.{Filled}
use Rattle.cases.specs.Case.{people}
use Rattle.cases.specs.Chain.{advice_at, away_at}
use Rattle.cases.specs.Filled.{start_filled}
use Rattle.boards.specs.Arena.{Done, board_arena}
use Rattle.refusals.specs.declared.Refusal.{Refusal}
use Rattle.refusals.specs.Refusals.{judged_by}
use Rattle.asking.specs.Asking.{position_check, absence_check}
use Rattle.planner.specs.declared.Question.{Question}
use Rattle.planner.specs.declared.Question.TheVariants.{Static, Decremental, OneShot, Dynamic}
use Rattle.planner.specs.declared.PlanAnswer.{PlanAnswer}
use Rattle.planner.specs.declared.PlanAnswer.TheVariants as plan-says
use Rattle.planner.specs.declared.AdviceAnswer.{AdviceAnswer}
use Rattle.planner.specs.declared.AwayAnswer.{AwayAnswer}
use Rattle.planner.specs.Answers.{advice_answer, away_answer, given}

-- for n people and k steps
abbrev pub plan_on : List ℕ → ℕ → ℕ → Search Filled
plan_on b n k = plan (board_arena b n) 0 k start_filled

-- and absence number t
abbrev pub walk_on : Question → List ℕ → ℕ → ℕ → ℕ → Search ℕ
walk_on Static b n t k = static (board_arena b n) t k start_filled
walk_on Decremental b n t k = decremental (board_arena b n) t k 0 start_filled
walk_on OneShot b n t k = one_shot (board_arena b n) t k start_filled
walk_on Dynamic b n t k = dynamic (board_arena b n) t k start_filled

-- a plan of k steps is shown by its persons
abbrev pub plan_ended_on : ℕ → Ended (Option Filled) → ℕ → PlanAnswer
plan_ended_on k limit n = plan-says.Limit n
plan_ended_on k (ended none) n = plan-says.No n
plan_ended_on k (ended (some q)) n = plan-says.Yes (record { who = q.who; len = k }) n

abbrev pub plan_answer_on : ℕ → Answer (Option Filled) → PlanAnswer
plan_answer_on k a = plan_ended_on k a.out a.count

-- of a person and a move, the person
abbrev pub person_ended : Ended (Option (ℕ × Done)) → Ended (Option ℕ)
person_ended limit = limit
person_ended (ended none) = ended none
person_ended (ended (some a)) = ended (some a.0)

abbrev pub person_told : Answer (Option (ℕ × Done)) → Answer (Option ℕ)
person_told a = record { out = person_ended a.out; count = a.count }

-- advice and away where the case and t are accepted: judged by 13 and 14, then walked
unfoldable pub advice_ready : Case → List ℕ → ℕ → ℕ → ℕ → Result AdviceAnswer Refusal
advice_ready c p t A l = given (judged_by (position_check c p ∷ (absence_check (people c) t A ∷ []))) (advice_answer (cut l (advice_at c t A p)))

unfoldable pub away_ready : Case → List ℕ → ℕ → ℕ → Result AwayAnswer Refusal
away_ready c p t l = given (judged_by (position_check c p ∷ [])) (away_answer (cut l (away_at c t p)))
