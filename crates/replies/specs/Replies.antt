-- An answer as 18 numbers, the same for every call:
--   0         refused: the refusal's number in the scope's table, 0 where nothing is refused
--   1         place: the refusal's place
--   2         said: 0 where refused, 1 limit, 2 yes, 3 no, 4 nobody, 5 named
--   3         trials; with "limit" the limit
--   4 and 5   people: the set that is shown or named, bit v for person v, the low word first
--   6 and 7   step and person: the move that advice names
--   8         way: the number of the way that decided, which is 0, since a case has one way through
--   9         steps: how many steps the plan has
--   10 to 17  the plan's persons, step by step; past its end 0
-- What an answer does not have is 0.
use Rattle.std.specs.Prelude.{List, [], ◌∷◌, ℕ, Result, Ok, Err, length, get_or}
use Rattle.sets.specs.Stored.{number, low_word, high_word}
use Rattle.cases.specs.Positions.{persons}
use Rattle.refusals.specs.declared.Refusal.{Refusal}
use Rattle.planner.specs.declared.PlanAnswer.{PlanAnswer}
use Rattle.planner.specs.declared.PlanAnswer.TheVariants as plan
use Rattle.planner.specs.declared.VerdictAnswer.{VerdictAnswer}
use Rattle.planner.specs.declared.VerdictAnswer.TheVariants as verdict
use Rattle.planner.specs.declared.AdviceAnswer.{AdviceAnswer}
use Rattle.planner.specs.declared.AdviceAnswer.TheVariants as advice
use Rattle.planner.specs.declared.AwayAnswer.{AwayAnswer}
use Rattle.planner.specs.declared.AwayAnswer.TheVariants as away

-- ---- What is said

abbrev pub says_limit : ℕ
says_limit = 1

abbrev pub says_yes : ℕ
says_yes = 2

abbrev pub says_no : ℕ
says_no = 3

abbrev pub says_nobody : ℕ
says_nobody = 4

abbrev pub says_named : ℕ
says_named = 5

-- ---- The kinds of answer

-- a refusal: number and place, all other numbers 0
abbrev pub refused_reply : Refusal → List ℕ
refused_reply r = r.number ∷ r.place ∷ 0 ∷ 0 ∷ 0 ∷ 0 ∷ 0 ∷ 0 ∷ 0 ∷ 0 ∷ 0 ∷ 0 ∷ 0 ∷ 0 ∷ 0 ∷ 0 ∷ 0 ∷ 0 ∷ []

-- something said after n trials, with a set of people, a step and a person, and a plan
abbrev pub reply : ℕ → ℕ → ℕ → ℕ → ℕ → List ℕ → List ℕ
reply what n people step person q =
    0 ∷ 0 ∷ what ∷ n ∷ low_word people ∷ high_word people ∷ step ∷ person ∷ 0 ∷ length q
    ∷ get_or q 0 0 ∷ get_or q 1 0 ∷ get_or q 2 0 ∷ get_or q 3 0 ∷ get_or q 4 0 ∷ get_or q 5 0 ∷ get_or q 6 0 ∷ get_or q 7 0 ∷ []

-- nothing but what is said and the trials
abbrev pub said_reply : ℕ → ℕ → List ℕ
said_reply what n = reply what n 0 0 0 []

-- a set of people besides
abbrev pub shown_reply : ℕ → ℕ → ℕ → List ℕ
shown_reply what n people = reply what n people 0 0 []

-- a move named
abbrev pub named_reply : ℕ → ℕ → ℕ → List ℕ
named_reply n step person = reply says_named n 0 step person []

-- yes, with a plan
abbrev pub planned_reply : ℕ → List ℕ → List ℕ
planned_reply n q = reply says_yes n 0 0 0 q

-- ---- The planner's answers

-- plan: a yes shows the plan
abbrev pub plan_reply : Result PlanAnswer Refusal → List ℕ
plan_reply (Err r) = refused_reply r
plan_reply (Ok (plan.Limit n)) = said_reply says_limit n
plan_reply (Ok (plan.No n)) = said_reply says_no n
plan_reply (Ok (plan.Yes p n)) = planned_reply n (persons p)

-- a verdict: a no shows a set
abbrev pub verdict_reply : Result VerdictAnswer Refusal → List ℕ
verdict_reply (Err r) = refused_reply r
verdict_reply (Ok (verdict.Limit n)) = said_reply says_limit n
verdict_reply (Ok (verdict.Yes n)) = said_reply says_yes n
verdict_reply (Ok (verdict.No s n)) = shown_reply says_no n (number s)

-- advice on a step: it names a person
abbrev pub advice_reply : ℕ → Result AdviceAnswer Refusal → List ℕ
advice_reply step (Err r) = refused_reply r
advice_reply step (Ok (advice.Limit n)) = said_reply says_limit n
advice_reply step (Ok (advice.Nobody n)) = said_reply says_nobody n
advice_reply step (Ok (advice.Person v n)) = named_reply n step v.0

-- away names a set
abbrev pub away_reply : Result AwayAnswer Refusal → List ℕ
away_reply (Err r) = refused_reply r
away_reply (Ok (away.Limit n)) = said_reply says_limit n
away_reply (Ok (away.Nobody n)) = said_reply says_nobody n
away_reply (Ok (away.People s n)) = shown_reply says_named n (number s)
