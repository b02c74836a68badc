-- What the program writes for an input: t (2 bytes), limit (4 bytes), both little-endian, then a case.
use Rattle.std.specs.Prelude.{List, [], ◌∷◌, ◌++◌, map, ℕ, Result, Ok, Err, drop}
use Rattle.sets.specs.Sets.{members}
use Rattle.sets.specs.Stored.{width, number}
use Rattle.cases.specs.declared.Case.{Case}
use Rattle.cases.specs.declared.Counts.{Counts}
use Rattle.cases.specs.Positions.{persons}
use Rattle.refusals.specs.declared.Refusal.{Refusal}
use Rattle.refusals.specs.Refusals.{Judged, judged_by, or_else}
use Rattle.words.specs.Word.{word, long}
use Rattle.asking.specs.Asking.{number_check}
use Rattle.files.specs.Reading.{read_of}
use Rattle.planner.specs.declared.PlanAnswer.{PlanAnswer}
use Rattle.planner.specs.declared.PlanAnswer.TheVariants as plan
use Rattle.planner.specs.declared.VerdictAnswer.{VerdictAnswer}
use Rattle.planner.specs.declared.VerdictAnswer.TheVariants as verdict
use Rattle.planner.specs.Calls.{plan_call, static_call, decremental_call, one_shot_call, dynamic_call}
use Rattle.telling.specs.Lines.{bytes, decimal, line}

-- ---- The words of a line

-- an empty list is the word `none`
abbrev pub listed : List ℕ → List (List ℕ)
listed [] = bytes "none" ∷ []
listed (v ∷ vs) = map decimal (v ∷ vs)

abbrev pub trials : ℕ → List (List ℕ)
trials n = bytes "trials" ∷ (decimal n ∷ [])

-- what follows the word `refused`
abbrev pub refused : Refusal → List (List ℕ)
refused r = decimal r.number ∷ (bytes "at" ∷ (decimal r.place ∷ []))

-- After "plan yes" stand the persons by step. "plan no" shows nothing but its trials. No call refuses a case that was judged good
-- (proofs/Answered.antt), so that the word "refused" stands in no line but a refusal's own.
abbrev pub plan_words : Result PlanAnswer Refusal → List (List ℕ)
plan_words (Err r) = bytes "refused" ∷ refused r
plan_words (Ok (plan.Limit n)) = bytes "limit" ∷ trials n
plan_words (Ok (plan.No n)) = bytes "no" ∷ trials n
plan_words (Ok (plan.Yes p n)) = bytes "yes" ∷ (listed (persons p) ++ trials n)

-- After a verdict's "no" stands the shown set, ascending.
abbrev pub verdict_words : Result VerdictAnswer Refusal → List (List ℕ)
verdict_words (Err r) = bytes "refused" ∷ refused r
verdict_words (Ok (verdict.Limit n)) = bytes "limit" ∷ trials n
verdict_words (Ok (verdict.Yes n)) = bytes "yes" ∷ trials n
verdict_words (Ok (verdict.No shown n)) = bytes "no" ∷ (listed (members width (number shown)) ++ trials n)

-- ---- The lines

-- people, steps, roles, tables, rules
unfoldable pub case_line : Counts → List ℕ
case_line n = line (bytes "case") (map decimal (n.people ∷ (n.steps ∷ (n.roles ∷ (n.tables ∷ (n.rules ∷ []))))))

-- t and the limit, as they were read
unfoldable pub asked_line : ℕ → ℕ → List ℕ
asked_line t l = line (bytes "absent") (decimal t ∷ (bytes "limit" ∷ (decimal l ∷ [])))

unfoldable pub plan_line : Result PlanAnswer Refusal → List ℕ
plan_line a = line (bytes "plan") (plan_words a)

-- the line of a question, which begins with its name
unfoldable pub verdict_line : List ℕ → Result VerdictAnswer Refusal → List ℕ
verdict_line name a = line name (verdict_words a)

unfoldable pub refused_line : Refusal → List ℕ
refused_line r = line (bytes "refused") (refused r)

-- the counts, what is asked, and what each call says
abbrev pub lines_of : Counts → ℕ → ℕ → Result PlanAnswer Refusal → Result VerdictAnswer Refusal → Result VerdictAnswer Refusal → Result VerdictAnswer Refusal
    → Result VerdictAnswer Refusal → List ℕ
lines_of n t l p s e o d =
    case_line n
    ++ (asked_line t l
    ++ (plan_line p
    ++ (verdict_line (bytes "static") s
    ++ (verdict_line (bytes "decremental") e ++ (verdict_line (bytes "one-shot") o ++ verdict_line (bytes "dynamic") d)))))

-- the lines for a case
unfoldable pub answer_lines : Case → ℕ → ℕ → List ℕ
answer_lines c t l = lines_of c.counts t l (plan_call c l) (static_call c t l) (decremental_call c t l) (one_shot_call c t l) (dynamic_call c t l)

-- a refusal is the only line
abbrev pub told : Judged → List ℕ → List ℕ
told (Ok nothing) lines = lines
told (Err r) lines = refused_line r

-- ---- The input

abbrev pub absent_in : List ℕ → ℕ
absent_in input = word input 0

abbrev pub limit_in : List ℕ → ℕ
limit_in input = long input 2

-- Fewer than 6 bytes leave an empty file.
abbrev pub file_in : List ℕ → List ℕ
file_in input = drop 6 input

-- The file is judged by 1 to 11, then t by 12.
unfoldable pub judged_input : List ℕ → Judged
judged_input input = or_else (read_of (file_in input)).judged (judged_by (number_check (absent_in input) ∷ []))

-- the whole text
unfoldable pub text_of : List ℕ → List ℕ
text_of input = told (judged_input input) (answer_lines (read_of (file_in input)).held (absent_in input) (limit_in input))
