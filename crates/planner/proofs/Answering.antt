-- Each call from what it calls: judged, then refused or walked on the board of the case.
use mathlib.Core.Path.{◌≡◌, refl, sym, ap, ap₂, ◌∙◌}
use mathlib.Core.Logic.{inl}
use mathlib.Core.Bool.{Bool, true, false}
use mathlib.Core.Option.{Option, none, some}
use mathlib.Core.List.{List, [], ◌∷◌, map}
use Prim.Native.Nat.{ℕ, ◌-◌, ◌≤◌}
use Rattle.std.specs.Prelude.{Result, Ok, Err, IsErrAnd}
use Rattle.std.proofs.lemmas.Result.{err_from_is_err_and}
use native.Mathlib.Omega.{arith}
use lib.Dec.{leb}
use lib.ListN.{length, get_or}
use lib.Seq.{ext_get_or}
use Rattle.sets.specs.Lists.{pick, upto}
use Rattle.games.specs.Walks.{Search, dynamic, advice, away}
use Rattle.games.specs.Limit.{Answer, stopped, whole, cut}
use Rattle.games.proofs.Walks.{told}
use Rattle.cases.specs.declared.Case.{Case}
use Rattle.cases.specs.declared.Position.{Position}
use Rattle.cases.specs.declared.Filled.{Filled}
use Rattle.cases.specs.Case.{most_steps, people, steps}
use Rattle.cases.specs.Chain.{plan_of, advice_at, away_at}
use Rattle.cases.specs.Positions.{persons, zero_person, start_position}
use Rattle.cases.specs.Filled.{who_in}
use Rattle.cases.proofs.Positions.{persons-length, persons-start, upto-at, upto-many}
use Rattle.cases.proofs.Answers.{plan-first-got}
use Rattle.boards.specs.Arena.{Done, board_arena}
use Rattle.pieces.specs.declared.Order.TheVariants as order
use Rattle.laying.specs.Laid.{laid_out}
use Rattle.laying.specs.Ready.{Ready}
use Rattle.meaning.specs.Listed.{filled_by}
use Rattle.meaning.proofs.Listed.{filled-formed, filled_at}
use Rattle.meaning.proofs.OnBoard.{plan-on-board, static-on-board, decremental-on-board, one-shot-on-board, dynamic-on-board, advice-on-board, away-on-board}
use Rattle.refusals.specs.declared.Refusal.{Refusal}
use Rattle.refusals.specs.Refusals.{Judged, Good, Refused, judged_by, or_else}
use Rattle.refusals.specs.CaseChecks.{judged_case}
use Rattle.refusals.proofs.Order.{good-refused, good-checks, judged-append}
use Rattle.refusals.proofs.Cases.{good-limited}
use Rattle.asking.specs.Asking.{number_check, position_check, absence_check, judged_question}
use Rattle.asking.specs.OnBoard.{position_check_on}
use Rattle.asking.proofs.Accepted.{GoodPosition, position-accepted}
use Rattle.asking.proofs.Calls.{question-order, away-order, advice-order}
use Rattle.asking.proofs.Laid.{position-laid}
use Rattle.planner.specs.declared.Question.{Question}
use Rattle.planner.specs.declared.Question.TheVariants.{Static, Decremental, OneShot, Dynamic}
use Rattle.planner.specs.declared.PlanAnswer.{PlanAnswer}
use Rattle.planner.specs.declared.PlanAnswer.TheVariants as plan-says
use Rattle.planner.specs.declared.VerdictAnswer.{VerdictAnswer}
use Rattle.planner.specs.declared.AdviceAnswer.{AdviceAnswer}
use Rattle.planner.specs.declared.AwayAnswer.{AwayAnswer}
use Rattle.planner.specs.Answers.{person_of, position_of, plan_answer, verdict_answer, advice_answer, away_answer, given}
use Rattle.planner.specs.Calls.{plan_call, walk_of, question_call, advice_call, away_call}
use Rattle.planner.specs.OnBoard.{plan_on, walk_on, plan_answer_on, person_told, advice_ready, away_ready}

-- ---- the steps of a good case, and a position at the start

pub few-steps : (c : Case) → judged_case c ≡ Good → steps c ≤ most_steps
few-steps c e = (good-limited c e).steps

pub at-start : {p : Position} → p ≡ start_position → persons p ≡ []
at-start e = ap persons e ∙ persons-start

-- ---- the board of a case that is ready

abbrev pub board : Case → List ℕ
board c = laid_out c order.Listed

-- ---- a `?` that meets a refusal hands it on

pub turned : {A : Type 0} (r : Result A Refusal) {s : Result A Refusal} {x : Refusal} → IsErrAnd r (λ y. y ≡ x) → Err x ≡ s → r ≡ s
turned r h e = let p = err_from_is_err_and r h in p.1 ∙ ap Err p.2 ∙ e

-- ---- plan

pub plan-refused : (c : Case) (l : ℕ) (r : Refusal) → judged_case c ≡ Refused r → Err r ≡ plan_call c l
unfolding plan_call
plan-refused c l r e = ap (λ j. given j (plan_answer (cut l (plan_of c)))) (sym e)

pub plan-answered : (c : Case) (l : ℕ) (x : PlanAnswer) → judged_case c ≡ Good → x ≡ plan_answer (cut l (plan_of c)) → Ok x ≡ plan_call c l
unfolding plan_call
plan-answered c l x e k = ap₂ given (sym e) k

-- a plan that a board tells, as its persons
module _ (c : Case) (r : Ready c) where
  shown : (q : List ℕ) → length q ≤ most_steps → (filled_by q).who ≡ (position_of q).who
  unfolding position_of
  shown q h =
      ext_get_or zero_person (filled_by q).who (map (λ i. person_of (get_or q i 0)) (upto most_steps))
      ((filled-formed q h).long ∙ sym (upto-many (λ i. person_of (get_or q i 0)) most_steps))
      (λ i l. person-at q h i ∙ sym (upto-at (λ i. person_of (get_or q i 0)) most_steps i zero_person (omega (arith, (filled-formed q h).long))))
    where
      person-at : (q : List ℕ) → length q ≤ most_steps → (i : ℕ) → get_or (filled_by q).who i zero_person ≡ person_of (get_or q i 0)
      person-at q h i = unfold who_in in ap person_of (filled_at q h i)

  plan-told : (l : ℕ) (o : Option (List ℕ)) (n : ℕ) → (plan_of c).got ≡ o
      → plan_answer_on (steps c) (cut l (told filled_by (record { got = o; trials = n }))) ≡ plan_answer (cut l (record { got = o; trials = n }))
  unfolding cut position_of
  plan-told l o n e = go (leb n l) o e
    where
      go : (b : Bool) (o : Option (List ℕ)) → (plan_of c).got ≡ o
          → plan_answer_on (steps c) (pick b (whole (told filled_by (record { got = o; trials = n }))) (stopped l)) ≡ plan_answer (pick b (whole (record { got = o; trials = n })) (stopped l))
      go false o e = refl
      go true none e = refl
      go true (some q) e =
          let k : length q ≡ steps c = ((plan-first-got c q).0 e).0.whole in
          ap₂ (λ w m. plan-says.Yes (record { who = w; len = m }) n) (shown q (omega (arith, r.counts.steps))) (sym k)

pub plan-walked : (c : Case) (l : ℕ) (b : List ℕ) (n k : ℕ) (x : PlanAnswer) → Ready c → b ≡ board c → n ≡ people c → k ≡ steps c
    → x ≡ plan_answer_on k (cut l (plan_on b n k)) → x ≡ plan_answer (cut l (plan_of c))
plan-walked c l b n k x r f g i y = rw (f, g, i) at y ∙ ap (λ w. plan_answer_on (steps c) (cut l w)) (plan-on-board c r) ∙ plan-told c r l (plan_of c).got (plan_of c).trials refl

-- ---- the questions about absence

-- a case that is refused is refused whatever t is; that of a good one is what t is judged
pub case-judged : (c : Case) (t : ℕ) (r : Refusal) → judged_case c ≡ Refused r → judged_question c t ≡ Refused r
case-judged c t r e = question-order c t ∙ ap (λ i. or_else i (judged_by (number_check t ∷ []))) e

pub question-judged : (c : Case) (t : ℕ) (k : Judged) → judged_case c ≡ Good → k ≡ judged_by (number_check t ∷ []) → judged_question c t ≡ k
question-judged c t k e f = question-order c t ∙ ap₂ or_else e (sym f)

pub question-refused : (q : Question) (c : Case) (t l : ℕ) (r : Refusal) → judged_question c t ≡ Refused r → Err r ≡ question_call q c t l
unfolding question_call
question-refused q c t l r e = ap (λ j. given j (verdict_answer (cut l (walk_of q c t)))) (sym e)

pub question-answered : (q : Question) (c : Case) (t l : ℕ) (x : VerdictAnswer) → judged_question c t ≡ Good → x ≡ verdict_answer (cut l (walk_of q c t)) → Ok x ≡ question_call q c t l
unfolding question_call
question-answered q c t l x e k = ap₂ given (sym e) k

on-board : (q : Question) (c : Case) (t : ℕ) → Ready c → walk_on q (board c) (people c) t (steps c) ≡ walk_of q c t
on-board Static c t r = static-on-board c r t
on-board Decremental c t r = decremental-on-board c r t
on-board OneShot c t r = one-shot-on-board c r t
on-board Dynamic c t r = dynamic-on-board c r t

pub question-walked : (q : Question) (c : Case) (t l : ℕ) (b : List ℕ) (n k : ℕ) (x : VerdictAnswer) → Ready c → b ≡ board c → n ≡ people c → k ≡ steps c
    → x ≡ verdict_answer (cut l (walk_on q b n t k)) → x ≡ verdict_answer (cut l (walk_of q c t))
question-walked q c t l b n k x r f g h y = rw (f, g, h) at y ∙ ap (λ w. verdict_answer (cut l w)) (on-board q c t r)

-- ---- advice and away where the case or t is refused

pub advice-turned : (c : Case) (p : List ℕ) (t A l : ℕ) (r : Refusal) → judged_question c t ≡ Refused r → Err r ≡ advice_call c p t A l
unfolding advice_call
advice-turned c p t A l r e =
    sym (ap (λ j. given j (advice_answer (cut l (advice_at c t A p)))) (advice-order c p t A
    ∙ ap (λ i. or_else i (judged_by (absence_check (people c) t A ∷ []))) (away-order c p t ∙ ap (λ i. or_else i (judged_by (position_check c p ∷ []))) e)))

pub away-turned : (c : Case) (p : List ℕ) (t l : ℕ) (r : Refusal) → judged_question c t ≡ Refused r → Err r ≡ away_call c p t l
unfolding away_call
away-turned c p t l r e =
    sym (ap (λ j. given j (away_answer (cut l (away_at c t p)))) (away-order c p t ∙ ap (λ i. or_else i (judged_by (position_check c p ∷ []))) e))

-- ---- the position and the absentees, judged on the board

pub first_good : (i k j : Judged) → j ≡ or_else i k → j ≡ Good → i ≡ Good
first_good (Ok u) k j e g = refl
first_good (Err r) k j e g = absurd (good-refused g e)

pub steps-left : (c : Case) (p : Position) → steps c - p.len ≡ steps c - length (persons p)
steps-left c p = ap (λ (n : ℕ). steps c - n) (sym (persons-length p))

-- a position, judged on the board
module _ (c : Case) (p : List ℕ) (r : Ready c) where
  position-as : (b : List ℕ) (j : Judged) → b ≡ board c → j ≡ judged_by (position_check_on b (people c) (steps c) p ∷ []) → j ≡ judged_by (position_check c p ∷ [])
  position-as b j f e = rw f at e ∙ ap (λ x. judged_by (x ∷ [])) (position-laid c p r)

  -- a position that is not refused can be played on
  pub position-good : (b : List ℕ) → b ≡ board c → Good ≡ judged_by (position_check_on b (people c) (steps c) p ∷ []) → GoodPosition c p
  position-good b f e = position-accepted c p (good-checks (position_check c p ∷ []) (sym (position-as b Good f e)) (position_check c p) (inl refl))

  pub away-judged : (b : List ℕ) (j : Judged) → b ≡ board c → j ≡ judged_by (position_check_on b (people c) (steps c) p ∷ []) → judged_by (position_check c p ∷ []) ≡ j
  away-judged b j f e = sym (position-as b j f e)

module _ (c : Case) (p : List ℕ) (t : ℕ) where
  -- the case and t are accepted: what is left is judged by 13 and 14
  pub advice-ready : (A l : ℕ) → judged_question c t ≡ Good → advice_ready c p t A l ≡ advice_call c p t A l
  unfolding advice_ready advice_call
  advice-ready A l e =
      ap (λ j. given j (advice_answer (cut l (advice_at c t A p))))
      (judged-append (position_check c p ∷ []) (absence_check (people c) t A ∷ [])
      ∙ sym (advice-order c p t A ∙ ap (λ i. or_else i (judged_by (absence_check (people c) t A ∷ []))) (away-order c p t ∙ ap (λ i. or_else i (judged_by (position_check c p ∷ []))) e)))

  pub away-ready : (l : ℕ) → judged_question c t ≡ Good → away_ready c p t l ≡ away_call c p t l
  unfolding away_ready away_call
  away-ready l e = ap (λ j. given j (away_answer (cut l (away_at c t p)))) (sym (away-order c p t ∙ ap (λ i. or_else i (judged_by (position_check c p ∷ []))) e))

  module _ (r : Ready c) where
    -- ---- advice

    -- 13, then 14
    pub advice-judged : (A : ℕ) (b : List ℕ) (i k : Judged) → b ≡ board c → i ≡ judged_by (position_check_on b (people c) (steps c) p ∷ [])
        → k ≡ judged_by (absence_check (people c) t A ∷ []) → judged_by (position_check c p ∷ (absence_check (people c) t A ∷ [])) ≡ or_else i k
    advice-judged A b i k f e g =
        judged-append (position_check c p ∷ []) (absence_check (people c) t A ∷ []) ∙ ap₂ or_else (sym (position-as c p r b i f e)) (sym g)

    pub advice-refused : (A l : ℕ) (x : Refusal) → judged_by (position_check c p ∷ (absence_check (people c) t A ∷ [])) ≡ Refused x → Err x ≡ advice_ready c p t A l
    unfolding advice_ready
    advice-refused A l x e = ap (λ j. given j (advice_answer (cut l (advice_at c t A p)))) (sym e)

    -- the person of what a walk got, under a limit
    person-cut : (l : ℕ) (w : Search (ℕ × Done)) → person_told (cut l w) ≡ cut l (told (λ (a : ℕ × Done). a.0) w)
    unfolding cut
    person-cut l w = go (leb w.trials l) w.got w.trials
      where
        go : (x : Bool) (o : Option (ℕ × Done)) (m : ℕ)
            → person_told (pick x (whole (record { got = o; trials = m })) (stopped l)) ≡ pick x (whole (told (λ (a : ℕ × Done). a.0) (record { got = o; trials = m }))) (stopped l)
        go true none m = refl
        go true (some a) m = refl
        go false o m = refl

    pub advice-answered : (A l : ℕ) (b : List ℕ) (n k : ℕ) (q : Filled) (x : AdviceAnswer) (y : Answer (Option (ℕ × Done)))
        → judged_by (position_check c p ∷ (absence_check (people c) t A ∷ [])) ≡ Good → GoodPosition c p → b ≡ board c → n ≡ people c → k ≡ steps c - length p → q ≡ filled_by p
        → x ≡ advice_answer (person_told y) → y ≡ cut l (advice (board_arena b n) t k A q) → Ok x ≡ advice_ready c p t A l
    unfolding advice_ready
    advice-answered A l b n k q x y e v f g h w i j =
        ap₂ given (sym e)
        (i
        ∙ ap advice_answer (ap person_told (rw (f, g, h, w) at j) ∙ person-cut l (advice (board_arena (board c) (people c)) t (steps c - length p) A (filled_by p))
        ∙ ap (cut l) (advice-on-board c r p v.valid t A)))

    -- ---- away

    pub away-refused : (l : ℕ) (x : Refusal) → judged_by (position_check c p ∷ []) ≡ Refused x → Err x ≡ away_ready c p t l
    unfolding away_ready
    away-refused l x e = ap (λ j. given j (away_answer (cut l (away_at c t p)))) (sym e)

    pub away-answered : (l : ℕ) (b : List ℕ) (n k : ℕ) (q : Filled) (x : AwayAnswer) (y : Answer (Option ℕ)) → judged_by (position_check c p ∷ []) ≡ Good → GoodPosition c p
        → b ≡ board c → n ≡ people c → k ≡ steps c - length p → q ≡ filled_by p → x ≡ away_answer y → y ≡ cut l (dynamic (board_arena b n) t k q) → Ok x ≡ away_ready c p t l
    unfolding away_ready away
    away-answered l b n k q x y e v f g h w i j =
        ap₂ given (sym e) (i ∙ ap away_answer (rw (f, g, h, w) at j ∙ ap (cut l) (away-on-board c r p v.valid t)))
