-- What an answer tells, in the scope's terms: for each of its cases the refusal's number and place, and the answer with its count. A refusal has no
-- answer; an answer has number 0 and place 0.
use Rattle.std.proofs.Math.Option.{Option, none, some}
use Rattle.std.specs.Prelude.{List, ℕ, Result, Ok, Err}
use Rattle.sets.specs.Stored.{number}
use Rattle.games.specs.Limit.{Answer, stopped, whole}
use Rattle.cases.specs.Positions.{persons}
use Rattle.refusals.specs.declared.Refusal.{Refusal}
use Rattle.planner.specs.declared.PlanAnswer.{PlanAnswer}
use Rattle.planner.specs.declared.PlanAnswer.TheVariants as plan
use Rattle.planner.specs.declared.VerdictAnswer.{VerdictAnswer}
use Rattle.planner.specs.declared.VerdictAnswer.TheVariants as verdict
use Rattle.planner.specs.declared.AdviceAnswer.{AdviceAnswer}
use Rattle.planner.specs.declared.AdviceAnswer.TheVariants as advice
use Rattle.planner.specs.declared.AwayAnswer.{AwayAnswer}
use Rattle.planner.specs.declared.AwayAnswer.TheVariants as away

pub record Told (B : Type 0) : Type 0 where
  pub number : ℕ
  pub place : ℕ
  pub answer : Option (Answer B)

abbrev pub refused : {B : Type 0} → Refusal → Told B
refused r = record { number = r.number; place = r.place; answer = none }

abbrev pub answered : {B : Type 0} → Answer B → Told B
answered a = record { number = 0; place = 0; answer = some a }

-- "limit" after n trials; or ended after n trials with something got, or with nothing
abbrev pub limited : {B : Type 0} → ℕ → Told B
limited n = answered (stopped n)

abbrev pub got : {B : Type 0} → B → ℕ → Told (Option B)
got b n = answered (whole (record { got = some b; trials = n }))

abbrev pub got_nothing : {B : Type 0} → ℕ → Told (Option B)
got_nothing n = answered (whole (record { got = none; trials = n }))

-- Plan: a yes shows a plan.
abbrev pub plan_said : PlanAnswer → Told (Option (List ℕ))
plan_said (plan.Limit n) = limited n
plan_said (plan.No n) = got_nothing n
plan_said (plan.Yes p n) = got (persons p) n

abbrev pub plan_told : Result PlanAnswer Refusal → Told (Option (List ℕ))
plan_told (Err r) = refused r
plan_told (Ok a) = plan_said a

-- A verdict: a yes shows nothing, a no shows a set.
abbrev pub verdict_told : Result VerdictAnswer Refusal → Told (Option ℕ)
verdict_told (Err r) = refused r
verdict_told (Ok (verdict.Limit n)) = limited n
verdict_told (Ok (verdict.Yes n)) = got_nothing n
verdict_told (Ok (verdict.No s n)) = got (number s) n

-- Advice names a person, or none.
abbrev pub advice_told : Result AdviceAnswer Refusal → Told (Option ℕ)
advice_told (Err r) = refused r
advice_told (Ok (advice.Limit n)) = limited n
advice_told (Ok (advice.Nobody n)) = got_nothing n
advice_told (Ok (advice.Person v n)) = got v.0 n

-- Away names a set of people, or none.
abbrev pub away_told : Result AwayAnswer Refusal → Told (Option ℕ)
away_told (Err r) = refused r
away_told (Ok (away.Limit n)) = limited n
away_told (Ok (away.Nobody n)) = got_nothing n
away_told (Ok (away.People s n)) = got (number s) n
