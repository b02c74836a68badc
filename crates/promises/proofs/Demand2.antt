-- Demand 2: plans and verdicts are those of the report (docs/SCOPE.md names it), and "limit" is said exactly if the stated walk needs more trials than allowed. In each theorem
-- the call ends within its limit: it tells b after some trials.
use Rattle.std.specs.Prelude.{Result, Ok, Err}
use mathlib.Core.Path.{◌≡◌, refl, sym, ap, ◌∙◌}
use mathlib.Core.Logic.{◌↔◌}
use mathlib.Core.Bool.{Bool, true, false, true≢false}
use mathlib.Core.Option.{Option, none, some}
use mathlib.Core.List.{List, []}
use Prim.Native.Nat.{ℕ, ◌≤◌, ◌<◌}
use Rattle.games.specs.Games.{Absent}
use Rattle.games.specs.Limit.{Ended, limit, ended, Answer}
use Rattle.cases.specs.declared.Case.{Case}
use Rattle.cases.specs.declared.Position.{Position}
use Rattle.cases.specs.Case.{people, steps}
use Rattle.cases.specs.Positions.{start_position}
use Rattle.cases.specs.Plans.{Plan, FirstPlan}
use Rattle.cases.specs.Questions.{HasPlan, StaticYes, DecrementalYes, OneShotYes, DynamicYes}
use Rattle.cases.specs.Shown.{StaticNo, DecrementalNo, AnswersPass, OneShotNo}
use Rattle.cases.specs.Play.{GoodSet}
use Rattle.cases.specs.Chain.{plan_of, advice_at, away_at}
use Rattle.cases.proofs.Answers.{plan-exact, plan-first-got, static-exact, static-no, decremental-exact, decremental-no, one_shot-exact, one_shot-no, one_shot-pass, dynamic-exact}
use Rattle.cases.proofs.Play.{dynamic_no}
use Rattle.refusals.specs.Refusals.{Good}
use Rattle.refusals.specs.CaseChecks.{judged_case}
use Rattle.asking.specs.Asking.{judged_question, judged_advice, judged_away}
use Rattle.planner.specs.declared.Question.{Question}
use Rattle.planner.specs.declared.Question.TheVariants.{Static, Decremental, OneShot, Dynamic}
use Rattle.refusals.specs.declared.Refusal.{Refusal}
use Rattle.planner.specs.declared.PlanAnswer.{PlanAnswer}
use Rattle.planner.specs.declared.PlanAnswer.TheVariants as says
use Rattle.planner.specs.Answers.{shown_plan}
use Rattle.planner.specs.Calls.{plan_call, walk_of, question_call, static_call, decremental_call, one_shot_call, dynamic_call, advice_call, away_call}
use Rattle.planner.specs.Told.{Told, plan_told, verdict_told, advice_told, away_told}
use Rattle.promises.specs.Ends.{SaysLimit, EndsAfter, Ends, Came}
use Rattle.promises.proofs.Telling.{came, comes, limit-told, plan-told, question-told, advice-told, away-told}

-- ---- what a call that ends says of its walk

pub plan-came : (c : Case) (l : ℕ) (b : Option (List ℕ)) (n : ℕ) → EndsAfter (plan_told (plan_call c l)) b n → Came (judged_case c) l (plan_of c) b n
plan-came c l b n e = came (judged_case c) l (plan_of c) b n (sym (plan-told c l) ∙ e)

pub question-came : (q : Question) (c : Case) (t l : ℕ) (b : Option ℕ) (n : ℕ) → EndsAfter (verdict_told (question_call q c t l)) b n
    → Came (judged_question c t) l (walk_of q c t) b n
question-came q c t l b n e = came (judged_question c t) l (walk_of q c t) b n (sym (question-told q c t l) ∙ e)

pub advice-came : (c : Case) (p : List ℕ) (t A l : ℕ) (b : Option ℕ) (n : ℕ) → EndsAfter (advice_told (advice_call c p t A l)) b n
    → Came (judged_advice c p t A) l (advice_at c t A p) b n
advice-came c p t A l b n e = came (judged_advice c p t A) l (advice_at c t A p) b n (sym (advice-told c p t A l) ∙ e)

pub away-came : (c : Case) (p : List ℕ) (t l : ℕ) (b : Option ℕ) (n : ℕ) → EndsAfter (away_told (away_call c p t l)) b n → Came (judged_away c p t) l (away_at c t p) b n
away-came c p t l b n e = came (judged_away c p t) l (away_at c t p) b n (sym (away-told c p t l) ∙ e)

-- ---- Plan: a plan comes back exactly if a valid one exists

pub plan-comes-back : (c : Case) (l : ℕ) (b : Option (List ℕ)) → Ends (plan_told (plan_call c l)) b → ((q : List ℕ) × (b ≡ some q)) ↔ HasPlan c
plan-comes-back c l b e =
    let k = plan-came c l b e.0 e.1 in
    (λ x. (plan-exact c).0 (x.0, k.got ∙ x.1), λ h. let x = (plan-exact c).1 h in (x.0, sym k.got ∙ x.1))

-- it is a plan, and the first in the walk's order
pub plan-is-first : (c : Case) (l : ℕ) (q : List ℕ) → Ends (plan_told (plan_call c l)) (some q) → Plan c q × FirstPlan c q
plan-is-first c l q e = (plan-first-got c q).0 (plan-came c l (some q) e.0 e.1).got

-- is there a plan in what a walk comes to?
abbrev plan_in : Ended (Option (List ℕ)) → Bool
plan_in limit = false
plan_in (ended none) = false
plan_in (ended (some q)) = true

-- where it does not say yes it shows no plan: neither a refusal, nor "limit", nor a no carries one, and the position shown is that at the start
pub plan-shows-nothing : (c : Case) (l : ℕ) → ((p : Position) (n : ℕ) → plan_call c l ≡ Ok (says.Yes p n) → ⊥)
    → (shown_plan (plan_call c l) ≡ start_position) × ((q : List ℕ) → Ends (plan_told (plan_call c l)) (some q) → ⊥)
plan-shows-nothing c l f = at (plan_call c l) f
  where
    shown : Option (Answer (Option (List ℕ))) → Bool
    shown none = false
    shown (some a) = plan_in a.out

    none-shown : {d : Told (Option (List ℕ))} → shown d.answer ≡ false → (q : List ℕ) → Ends d (some q) → ⊥
    none-shown h q k = true≢false (sym (ap (λ (d : Told (Option (List ℕ))). shown d.answer) k.1) ∙ h)

    at : (a : Result PlanAnswer Refusal) → ((p : Position) (n : ℕ) → a ≡ Ok (says.Yes p n) → ⊥)
        → (shown_plan a ≡ start_position) × ((q : List ℕ) → Ends (plan_told a) (some q) → ⊥)
    at (Err r) g = (refl, none-shown refl)
    at (Ok (says.Limit n)) g = (refl, none-shown refl)
    at (Ok (says.No n)) g = (refl, none-shown refl)
    at (Ok (says.Yes p n)) g = absurd (g p n refl)

-- ---- Verdicts are yes exactly if the desk wins that game; a no shows what the scope says

module _ (c : Case) (t l : ℕ) (b : Option ℕ) where
  pub static-yes : Ends (verdict_told (static_call c t l)) b → (b ≡ none) ↔ StaticYes c t
  static-yes e =
      let k = question-came Static c t l b e.0 e.1 in
      (λ x. (static-exact c t).0 (k.got ∙ x), λ y. sym k.got ∙ (static-exact c t).1 y)

  pub decremental-yes : Ends (verdict_told (decremental_call c t l)) b → (b ≡ none) ↔ DecrementalYes c t
  decremental-yes e =
      let k = question-came Decremental c t l b e.0 e.1 in
      (λ x. (decremental-exact c t).0 (k.got ∙ x), λ y. sym k.got ∙ (decremental-exact c t).1 y)

  pub one-shot-yes : Ends (verdict_told (one_shot_call c t l)) b → (b ≡ none) ↔ OneShotYes c t
  one-shot-yes e =
      let k = question-came OneShot c t l b e.0 e.1 in
      (λ x. (one_shot-exact c t).0 (k.got ∙ x), λ y. sym k.got ∙ (one_shot-exact c t).1 y)

  pub dynamic-yes : Ends (verdict_told (dynamic_call c t l)) b → (b ≡ none) ↔ DynamicYes c t
  dynamic-yes e =
      let k = question-came Dynamic c t l b e.0 e.1 in
      (λ x. (dynamic-exact c t).0 (k.got ∙ x), λ y. sym k.got ∙ (dynamic-exact c t).1 y)

module _ (c : Case) (t l A : ℕ) where
  -- the first set of at most t people without whom there is no plan
  pub static-shows : Ends (verdict_told (static_call c t l)) (some A) → StaticNo c t A
  static-shows e = (static-no c t A).0 (question-came Static c t l (some A) e.0 e.1).got

  -- the first set that beats the desk when named before the first step
  pub decremental-shows : Ends (verdict_told (decremental_call c t l)) (some A) → DecrementalNo c t A
  decremental-shows e = (decremental-no c t A).0 (question-came Decremental c t l (some A) e.0 e.1).got

  -- nobody for a pass that beats the desk, else the first set that beats it when struck before the first step
  pub one-shot-shows : Ends (verdict_told (one_shot_call c t l)) (some A) → OneShotNo c t A
  one-shot-shows e = (one_shot-no c t A).0 (question-came OneShot c t l (some A) e.0 e.1).got

  -- and nobody is shown exactly for a pass
  pub one-shot-shows-pass : Ends (verdict_told (one_shot_call c t l)) (some A) → (A ≡ 0) ↔ (AnswersPass c t → ⊥)
  one-shot-shows-pass e = one_shot-pass c t A (one-shot-shows e)

  -- the good people at the start, at most t of them
  pub dynamic-shows : Ends (verdict_told (dynamic_call c t l)) (some A) → (0 < steps c) × Absent (people c) t A × GoodSet c t [] A
  dynamic-shows e = (dynamic_no c t A).0 (question-came Dynamic c t l (some A) e.0 e.1).got

-- ---- "Limit" is said exactly if the stated walk needs more trials than allowed, with the limit as count

pub plan-limit : (c : Case) (l n : ℕ) → SaysLimit (plan_told (plan_call c l)) n ↔ ((judged_case c ≡ Good) × (l < (plan_of c).trials) × (n ≡ l))
plan-limit c l n = limit-told _ (judged_case c) l (plan_of c) n (plan-told c l)

pub question-limit : (q : Question) (c : Case) (t l n : ℕ) → SaysLimit (verdict_told (question_call q c t l)) n ↔ ((judged_question c t ≡ Good) × (l < (walk_of q c t).trials) × (n ≡ l))
question-limit q c t l n = limit-told _ (judged_question c t) l (walk_of q c t) n (question-told q c t l)

pub advice-limit : (c : Case) (p : List ℕ) (t A l n : ℕ) → SaysLimit (advice_told (advice_call c p t A l)) n ↔ ((judged_advice c p t A ≡ Good) × (l < (advice_at c t A p).trials) × (n ≡ l))
advice-limit c p t A l n = limit-told _ (judged_advice c p t A) l (advice_at c t A p) n (advice-told c p t A l)

pub away-limit : (c : Case) (p : List ℕ) (t l n : ℕ) → SaysLimit (away_told (away_call c p t l)) n ↔ ((judged_away c p t ≡ Good) × (l < (away_at c t p).trials) × (n ≡ l))
away-limit c p t l n = limit-told _ (judged_away c p t) l (away_at c t p) n (away-told c p t l)

-- ---- Otherwise the count is the walk's trials (the `trials` of `plan-came`, `question-came`, `advice-came` and `away-came`), and a call that is allowed them
-- ends with the walk's answer: so a higher limit never alters a finished answer

pub plan-ends : (c : Case) (l : ℕ) → judged_case c ≡ Good → (plan_of c).trials ≤ l → EndsAfter (plan_told (plan_call c l)) (plan_of c).got (plan_of c).trials
plan-ends c l e h = plan-told c l ∙ comes (judged_case c) l (plan_of c) e h

pub question-ends : (q : Question) (c : Case) (t l : ℕ) → judged_question c t ≡ Good → (walk_of q c t).trials ≤ l
    → EndsAfter (verdict_told (question_call q c t l)) (walk_of q c t).got (walk_of q c t).trials
question-ends q c t l e h = question-told q c t l ∙ comes (judged_question c t) l (walk_of q c t) e h

pub advice-ends : (c : Case) (p : List ℕ) (t A l : ℕ) → judged_advice c p t A ≡ Good → (advice_at c t A p).trials ≤ l
    → EndsAfter (advice_told (advice_call c p t A l)) (advice_at c t A p).got (advice_at c t A p).trials
advice-ends c p t A l e h = advice-told c p t A l ∙ comes (judged_advice c p t A) l (advice_at c t A p) e h

pub away-ends : (c : Case) (p : List ℕ) (t l : ℕ) → judged_away c p t ≡ Good → (away_at c t p).trials ≤ l
    → EndsAfter (away_told (away_call c p t l)) (away_at c t p).got (away_at c t p).trials
away-ends c p t l e h = away-told c p t l ∙ comes (judged_away c p t) l (away_at c t p) e h
