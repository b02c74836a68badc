-- No text is longer than the room for it. Each kind of line has a bound, which its longest form comes to, and the room is their sum.
use mathlib.Core.Path.{◌≡◌, refl, ap}
use mathlib.Core.Bool.{Bool, true, false}
use mathlib.Core.Option.{Option, none, some}
use mathlib.Core.List.{List, [], ◌∷◌, ◌++◌}
use Prim.Native.Nat.{ℕ, zero, suc, ◌+◌, ◌*◌, ◌/◌, ◌%◌, ◌^◌, ◌≤◌, ◌<◌}
use native.Mathlib.Nat.{pow-suc, div-lt_iff_lt-mul}
use native.Mathlib.Omega.{arith}
use borrow.Author.Tests.{leb-true}
use lib.Dec.{leb, ltb}
use lib.ListN.{length, get_or, replicate, length-append}
use Rattle.sets.specs.Lists.{pick, from, upto, cons_if, keep}
use Rattle.sets.specs.Sets.{has, members}
use Rattle.sets.specs.Stored.{width, number, stored}
use Rattle.sets.proofs.Lists.{pick-lt}
use Rattle.games.specs.Walks.{Search, Walk}
use Rattle.games.specs.Limit.{Ended, limit, ended, stopped, whole, cut}
use Rattle.games.proofs.Limits.{cut-ended}
use Rattle.cases.specs.declared.Case.{Case}
use Rattle.cases.specs.declared.Counts.{Counts}
use Rattle.cases.specs.Case.{most_people, most_steps, most_roles, most_tables, most_rules}
use Rattle.cases.specs.Plans.{Plan}
use Rattle.cases.specs.Chain.{plan_of}
use Rattle.cases.specs.Positions.{persons}
use Rattle.cases.proofs.Rounds.{may-known}
use Rattle.cases.proofs.Answers.{plan-first-got}
use Rattle.std.specs.Prelude.{Result, Ok, Err}
use Rattle.refusals.specs.Refusals.{Judged, Good}
use Rattle.refusals.specs.declared.Refusal.{Refusal}
use Rattle.refusals.specs.CaseChecks.{Limited, judged_case}
use Rattle.refusals.proofs.Cases.{good-limited}
use Rattle.words.specs.Word.{AllBytes}
use Rattle.asking.specs.Asking.{most_absent}
use Rattle.asking.proofs.Calls.{question-good}
use Rattle.planner.specs.declared.Question.{Question}
use Rattle.planner.specs.declared.Question.TheVariants.{Static, Decremental, OneShot, Dynamic}
use Rattle.planner.specs.declared.PlanAnswer.{PlanAnswer}
use Rattle.planner.specs.declared.PlanAnswer.TheVariants as plan
use Rattle.planner.specs.declared.VerdictAnswer.{VerdictAnswer}
use Rattle.planner.specs.declared.VerdictAnswer.TheVariants as verdict
use Rattle.planner.specs.Answers.{position_of, plan_ended, plan_answer, verdict_ended, verdict_answer}
use Rattle.planner.specs.Calls.{question_call, plan_call, walk_of}
use Rattle.planner.proofs.Sayings.{persons-position}
use Rattle.telling.specs.Lines.{bytes, digit, digits, decimal, spaced, line}
use Rattle.telling.specs.Telling.{listed, trials, case_line, asked_line, plan_line, verdict_line, refused_line}
use Rattle.telling.specs.Telling.{lines_of, answer_lines, text_of, judged_input, absent_in, limit_in}
use Rattle.telling.specs.Held.{room}
use Rattle.telling.proofs.Lists.{numbers, spaced-append}
use Rattle.telling.proofs.Answered.{refused-text, asked, case-good, question-is-good, good-text, good-plan, good-verdict}

-- ---- words

-- one digit more
digits_step : (b : Bool) (m k n : ℕ) → length (digits k (n / 10)) ≤ m
    → length (pick b (digit n ∷ []) (digits k (n / 10) ++ (digit (n % 10) ∷ []))) ≤ suc m
digits_step true m k n h = omega arith
digits_step false m k n h = omega (arith, length-append (digits k (n / 10)) (digit (n % 10) ∷ []))

digits-most : (k n : ℕ) → length (digits k n) ≤ k
unfolding digits
digits-most zero n = omega arith
digits-most (suc k) n = digits_step (ltb n 10) k k n (digits-most k (n / 10))

digits-few : (k m n : ℕ) → n < 10 ^ suc m → length (digits k n) ≤ suc m
unfolding digits
digits-few zero m n h = omega arith
digits-few (suc k) zero n h = omega (arith, ap length (pick-lt n 10 (digit n ∷ []) (digits k (n / 10) ++ (digit (n % 10) ∷ [])) h))
digits-few (suc k) (suc m) n h =
    let less : n / 10 < 10 ^ suc m = (div-lt_iff_lt-mul {k = 10} {x = n} {y = 10 ^ suc m} (omega arith)).1 (rw pow-suc at h) in
    digits_step (ltb n 10) (suc m) k n (digits-few k m (n / 10) less)

-- no number has more than 20 digits
pub decimal-most : (n : ℕ) → length (decimal n) ≤ 20
decimal-most n = digits-most 20 n

-- a number below 10 has one digit, one below 10 ^ 2 two at most, and so on
pub decimal-few : (m n : ℕ) → n < 10 ^ suc m → length (decimal n) ≤ suc m
decimal-few m n h = digits-few 20 m n h

-- one word more, with the space before it
spaced-length : (w : List ℕ) (ws : List (List ℕ)) → length (spaced (w ∷ ws)) ≡ suc (length w + length (spaced ws))
unfolding spaced
spaced-length w ws = ap suc (length-append w (spaced ws))

line-length : (w : List ℕ) (ws : List (List ℕ)) → length (line w ws) ≡ suc (length w + length (spaced ws))
unfolding line
line-length w ws = omega (arith, length-append w (spaced ws ++ (10 ∷ [])), length-append (spaced ws) (10 ∷ []))

-- persons below 100 have two digits at most
persons-fit : (l : List ℕ) → ((i : ℕ) → i < length l → get_or l i 0 < 100) → length (numbers l) ≤ 3 * length l
unfolding spaced
persons-fit [] h = omega arith
persons-fit (v ∷ l) h =
    omega (
      arith,
      length-append (decimal v) (numbers l),
      decimal-few 1 v (h 0 (omega arith)),
      persons-fit l (λ i k. h (suc i) (omega arith)),
    )

-- of a list's numbers, those that pass a test have no more bytes than all
kept-fit : (test : ℕ → Bool) (l : List ℕ) → length (numbers (keep test l)) ≤ length (numbers l)
unfolding keep spaced
kept-fit test [] = omega arith
kept-fit test (v ∷ l) = go (test v) (kept-fit test l)
  where
    go : (b : Bool) → length (numbers (keep test l)) ≤ length (numbers l) → length (numbers (cons_if b v (keep test l))) ≤ length (numbers (v ∷ l))
    go true h = omega (arith, length-append (decimal v) (numbers (keep test l)), length-append (decimal v) (numbers l))
    go false h = omega (arith, length-append (decimal v) (numbers l))

-- ten people of one digit, 22 of two, and a space before each
everybody-length : length (numbers (upto width)) ≡ 86
unfolding digits spaced upto from
everybody-length = refl

-- an empty list is the word `none`
listed-fits : (m : ℕ) (l : List ℕ) → 5 ≤ m → length (numbers l) ≤ m → length (spaced (listed l)) ≤ m
unfolding spaced
listed-fits m [] p h = p
listed-fits m (v ∷ l) p h = h

members-fit : (A : ℕ) → length (spaced (listed (members width A))) ≤ 86
unfolding members
members-fit A = listed-fits 86 (members width A) (omega arith) (omega (arith, kept-fit (has A) (upto width), everybody-length))

trials-fit : (n : ℕ) → n < 2 ^ 32 → length (spaced (trials n)) ≤ 18
unfolding spaced
trials-fit n h = omega (arith, length-append (decimal n) [], decimal-few 9 n (omega arith))

shown-fits : (m n : ℕ) (ws : List (List ℕ)) → n < 2 ^ 32 → length (spaced ws) ≤ m → length (spaced (ws ++ trials n)) ≤ m + 18
shown-fits m n ws h k = omega (arith, ap length (spaced-append ws (trials n)), length-append (spaced ws) (spaced (trials n)), trials-fit n h)

-- ---- lines

-- `case 32 8 16 6 32`
pub case-line-fits : (n : Counts) → Limited n → length (case_line n) ≤ 18
unfolding case_line line spaced
case-line-fits n h =
    simp length-append
    (omega (
      arith,
      decimal-few 1 n.people (omega (arith, h.people)),
      decimal-few 0 n.steps (omega (arith, h.steps)),
      decimal-few 1 n.roles (omega (arith, h.roles)),
      decimal-few 0 n.tables (omega (arith, h.tables)),
      decimal-few 1 n.rules (omega (arith, h.rules)),
    ))

-- `absent 32 limit 4294967295`
pub asked-line-fits : (t l : ℕ) → t ≤ most_absent → l < 2 ^ 32 → length (asked_line t l) ≤ 27
unfolding asked_line line spaced
asked-line-fits t l h k = simp length-append (omega (arith, decimal-few 1 t (omega arith), decimal-few 9 l (omega arith)))

-- the count of a call is at most its limit
count_most : {B : Type 0} (l : ℕ) (w : Walk B) → (cut l w).count ≤ l
unfolding cut
count_most l w = go (leb w.trials l) refl
  where
    go : (b : Bool) → leb w.trials l ≡ b → (pick b (whole w) (stopped l)).count ≤ l
    go true e = leb-true w.trials l e
    go false e = omega arith

-- `plan yes`, eight persons, and the trials
plan-ended-fits : (c : Case) → judged_case c ≡ Good → (o : Ended (Option (List ℕ))) (n : ℕ) → n < 2 ^ 32
    → ((q : List ℕ) → o ≡ ended (some q) → Plan c q) → length (plan_line (Ok (plan_ended o n))) ≤ 51
unfolding plan_line
plan-ended-fits c good limit n h k =
    omega (arith, line-length (bytes "plan") (bytes "limit" ∷ trials n), spaced-length (bytes "limit") (trials n), trials-fit n h)
plan-ended-fits c good (ended none) n h k =
    omega (arith, line-length (bytes "plan") (bytes "no" ∷ trials n), spaced-length (bytes "no") (trials n), trials-fit n h)
plan-ended-fits c good (ended (some q)) n h k =
    omega (
      arith,
      line-length (bytes "plan") (bytes "yes" ∷ (shown ++ trials n)),
      spaced-length (bytes "yes") (shown ++ trials n),
      shown-fits 24 n shown h (listed-fits 24 (persons (position_of q)) (omega arith) few),
    )
  where
    shown : List (List ℕ)
    shown = listed (persons (position_of q))

    found : Plan c q
    found = k q refl

    small : (i : ℕ) → i < length q → get_or q i 0 < 100
    small i l = omega (arith, may-known c (get_or q i 0) i (found.valid.able i l), (good-limited c good).people)

    few : length (numbers (persons (position_of q))) ≤ 24
    few =
        let short : length q ≤ most_steps = omega (arith, found.whole, (good-limited c good).steps) in
        rw (persons-position q short) (omega (arith, persons-fit q small))

pub plan-line-fits : (c : Case) (l : ℕ) → judged_case c ≡ Good → l < 2 ^ 32 → length (plan_line (Ok (plan_answer (cut l (plan_of c))))) ≤ 51
plan-line-fits c l good h =
    plan-ended-fits c good (cut l (plan_of c)).out (cut l (plan_of c)).count (omega (arith, count_most l (plan_of c)))
    (λ q e. ((plan-first-got c q).0 ((cut-ended l (plan_of c) (some q)).0 e).1).0)

-- a question's name, `no`, everybody, and the trials
verdict-ended-fits : (name : List ℕ) (o : Ended (Option ℕ)) (n : ℕ) → n < 2 ^ 32 → length (verdict_line name (Ok (verdict_ended o n))) ≤ length name + 108
unfolding verdict_line
verdict-ended-fits name limit n h =
    omega (arith, line-length name (bytes "limit" ∷ trials n), spaced-length (bytes "limit") (trials n), trials-fit n h)
verdict-ended-fits name (ended none) n h =
    omega (arith, line-length name (bytes "yes" ∷ trials n), spaced-length (bytes "yes") (trials n), trials-fit n h)
verdict-ended-fits name (ended (some A)) n h =
    let shown = listed (members width (number (stored A))) in
    omega (
      arith,
      line-length name (bytes "no" ∷ (shown ++ trials n)),
      spaced-length (bytes "no") (shown ++ trials n),
      shown-fits 86 n shown h (members-fit (number (stored A))),
    )

pub verdict-line-fits : (name : List ℕ) (l : ℕ) (w : Search ℕ) → l < 2 ^ 32 → length (verdict_line name (Ok (verdict_answer (cut l w)))) ≤ length name + 108
verdict-line-fits name l w h = verdict-ended-fits name (cut l w).out (cut l w).count (omega (arith, count_most l w))

-- a refusal with the largest numbers that can be written
pub refused-line-fits : (r : Refusal) → length (refused_line r) ≤ 53
unfolding refused_line line spaced
refused-line-fits r = simp length-append (omega (arith, decimal-most r.number, decimal-most r.place))

-- ---- every text

module _ (input : List ℕ) (good : judged_input input ≡ Good) (small : limit_in input < 2 ^ 32) where
  plan-fits : length (plan_line (plan_call (asked input good) (limit_in input))) ≤ 51
  plan-fits = rw (good-plan input good) (plan-line-fits (asked input good) (limit_in input) (case-good input good) small)

  verdict-fits : (q : Question) (name : List ℕ) → length (verdict_line name (question_call q (asked input good) (absent_in input) (limit_in input))) ≤ length name + 108
  verdict-fits q name = rw (good-verdict input good q) (verdict-line-fits name (limit_in input) (walk_of q (asked input good) (absent_in input)) small)

  good-fits : length (text_of input) ≤ room
  unfolding answer_lines
  good-fits =
      rw (good-text input good)
      (simp length-append
      (omega (
        arith,
        case-line-fits (asked input good).counts (good-limited (asked input good) (case-good input good)),
        asked-line-fits (absent_in input) (limit_in input) (question-good (asked input good) (absent_in input) (question-is-good input good)).1 small,
        plan-fits,
        verdict-fits Static (bytes "static"),
        verdict-fits Decremental (bytes "decremental"),
        verdict-fits OneShot (bytes "one-shot"),
        verdict-fits Dynamic (bytes "dynamic"),
      )))

-- No text is longer than the room for it. (Of bytes, since four of them state a limit below 2 ^ 32.)
pub text-fits : (input : List ℕ) → AllBytes input → length (text_of input) ≤ room
text-fits input b = go (judged_input input) refl
  where
    go : (j : Judged) → judged_input input ≡ j → length (text_of input) ≤ room
    go (Ok nothing) e = good-fits input e (omega (arith, b 2, b 3, b 4, b 5))
    go (Err r) e = rw (refused-text input r e) (omega (arith, refused-line-fits r))

-- ---- the bound is reached, by form

-- a yes with eight persons of two digits, and a no that shows everybody, each after as many trials as any limit lets through
abbrev longest_plan : Result PlanAnswer Refusal
longest_plan = Ok (plan.Yes (position_of (replicate most_steps 31)) 4294967295)

abbrev longest_no : Result VerdictAnswer Refusal
longest_no = Ok (verdict.No (stored 4294967295) 4294967295)

-- Answers of the calls' types whose lines fill the room to the last byte.
pub room-reached :
    length (lines_of
    (record { people = most_people; steps = most_steps; roles = most_roles; tables = most_tables; rules = most_rules })
    most_absent 4294967295 longest_plan longest_no longest_no longest_no longest_no)
    ≡ room
unfolding case_line asked_line plan_line verdict_line line spaced digits persons position_of members has keep from upto number
room-reached = refl
