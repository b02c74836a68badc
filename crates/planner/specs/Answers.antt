-- The answers of the public calls, from what a walk under its limit comes to. "Limit" carries the limit as count and nothing else; a plan's entries
-- past the steps are 0.
use Rattle.std.proofs.Math.Option.{Option, none, some}
use Rattle.std.specs.Prelude.{List, map, ℕ, Result, Ok, Err, length, get_or}
use Rattle.sets.specs.Lists.{upto}
use Rattle.sets.specs.Stored.{stored}
use Rattle.games.specs.Limit.{Ended, limit, ended, Answer}
use Rattle.cases.specs.Case.{most_steps}
use Rattle.cases.specs.declared.Person.{Person}
use Rattle.cases.specs.declared.Position.{Position}
use Rattle.cases.specs.Positions.{start_position}
use Rattle.refusals.specs.declared.Refusal.{Refusal}
use Rattle.refusals.specs.Refusals.{Judged}
use Rattle.planner.specs.declared.PlanAnswer.{PlanAnswer}
use Rattle.planner.specs.declared.PlanAnswer.TheVariants as plan
use Rattle.planner.specs.declared.VerdictAnswer.{VerdictAnswer}
use Rattle.planner.specs.declared.VerdictAnswer.TheVariants as verdict
use Rattle.planner.specs.declared.AdviceAnswer.{AdviceAnswer}
use Rattle.planner.specs.declared.AdviceAnswer.TheVariants as advice
use Rattle.planner.specs.declared.AwayAnswer.{AwayAnswer}
use Rattle.planner.specs.declared.AwayAnswer.TheVariants as away

-- ---- A walk's answer as a call gives it

abbrev pub person_of : ℕ → Person
person_of v = record { 0 = v }

-- the position of a list of persons: past its end every entry is 0
unfoldable pub position_of : List ℕ → Position
position_of q = record { who = map (λ i. person_of (get_or q i 0)) (upto most_steps); len = length q }

abbrev pub plan_ended : Ended (Option (List ℕ)) → ℕ → PlanAnswer
plan_ended limit n = plan.Limit n
plan_ended (ended none) n = plan.No n
plan_ended (ended (some q)) n = plan.Yes (position_of q) n

abbrev pub plan_answer : Answer (Option (List ℕ)) → PlanAnswer
plan_answer a = plan_ended a.out a.count

-- nothing got means that the desk wins; a set that is got is shown
abbrev pub verdict_ended : Ended (Option ℕ) → ℕ → VerdictAnswer
verdict_ended limit n = verdict.Limit n
verdict_ended (ended none) n = verdict.Yes n
verdict_ended (ended (some A)) n = verdict.No (stored A) n

abbrev pub verdict_answer : Answer (Option ℕ) → VerdictAnswer
verdict_answer a = verdict_ended a.out a.count

abbrev pub advice_ended : Ended (Option ℕ) → ℕ → AdviceAnswer
advice_ended limit n = advice.Limit n
advice_ended (ended none) n = advice.Nobody n
advice_ended (ended (some u)) n = advice.Person (person_of u) n

abbrev pub advice_answer : Answer (Option ℕ) → AdviceAnswer
advice_answer a = advice_ended a.out a.count

abbrev pub away_ended : Ended (Option ℕ) → ℕ → AwayAnswer
away_ended limit n = away.Limit n
away_ended (ended none) n = away.Nobody n
away_ended (ended (some A)) n = away.People (stored A) n

abbrev pub away_answer : Answer (Option ℕ) → AwayAnswer
away_answer a = away_ended a.out a.count

-- ---- A call that is refused gives the refusal; any other its answer

abbrev pub given : {A : Type 0} → Judged → A → Result A Refusal
given (Ok nothing) a = Ok a
given (Err r) a = Err r

-- ---- What an answer to plan shows: the plan with a yes, else the position at the start

abbrev pub shown_plan : Result PlanAnswer Refusal → Position
shown_plan (Ok (plan.Yes p n)) = p
shown_plan (Ok (plan.No n)) = start_position
shown_plan (Ok (plan.Limit n)) = start_position
shown_plan (Err r) = start_position
