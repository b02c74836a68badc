-- What each public call tells, as its judgement and its walk under its limit give it.
use mathlib.Core.Path.{◌≡◌, refl, sym, ap, ◌∙◌}
use mathlib.Core.Logic.{◌↔◌}
use mathlib.Core.Option.{Option, none, some, some-ne-none, some-injective}
use mathlib.Core.List.{List}
use Prim.Native.Nat.{ℕ, ◌≤◌, ◌<◌}
use native.Mathlib.Decide.{dec_lt}
use native.Mathlib.Omega.{arith}
use lib.ListN.{length}
use Rattle.sets.proofs.Records.{number-stored}
use Rattle.games.specs.Walks.{Walk}
use Rattle.games.specs.Limit.{Ended, limit, ended, Answer, stopped, whole, cut}
use Rattle.games.proofs.Limits.{cut-within, cut-past, cut-limit, cut-ended, cut-trials}
use Rattle.cases.specs.declared.Case.{Case}
use Rattle.cases.specs.Case.{most_steps}
use Rattle.cases.specs.Chain.{plan_of, advice_at, away_at}
use Rattle.cases.proofs.Answers.{plan-first-got}
use Rattle.refusals.specs.declared.Refusal.{Refusal}
use Rattle.refusals.specs.Refusals.{Judged, Good}
use Rattle.refusals.specs.CaseChecks.{judged_case}
use Rattle.refusals.proofs.Cases.{good-limited}
use Rattle.asking.specs.Asking.{judged_question, judged_advice, judged_away}
use Rattle.planner.specs.declared.Question.{Question}
use Rattle.std.specs.Prelude.{Ok, Err}
use Rattle.planner.specs.Answers.{plan_answer, verdict_answer, advice_answer, away_answer, given}
use Rattle.planner.specs.Calls.{plan_call, walk_of, question_call, advice_call, away_call}
use Rattle.planner.proofs.Sayings.{persons-position}
use Rattle.planner.specs.Told.{Told, refused, answered, plan_told, verdict_told, advice_told, away_told}
use Rattle.promises.specs.Ends.{SaysLimit, EndsAfter, Ends, Came}

-- ---- a judgement, and what is answered where it is good

abbrev pub told : {B : Type 0} → Judged → Answer B → Told B
told (Ok nothing) a = answered a
told (Err r) a = refused r

module _ {B : Type 0} where
  -- an answer is no refusal
  pub answered-refused : (a : Answer B) (r : Refusal) → answered a ≡ refused r → ⊥
  answered-refused a r e = some-ne-none a (ap (λ (d : Told B). d.answer) e)

  pub told-answered : (j : Judged) (a b : Answer B) → told j a ≡ answered b → (j ≡ Good) × (a ≡ b)
  told-answered (Ok nothing) a b e = (refl, some-injective a b (ap (λ (d : Told B). d.answer) e))
  told-answered (Err r) a b e = absurd (answered-refused b r (sym e))

  pub good-told : (j : Judged) (a : Answer B) → j ≡ Good → told j a ≡ answered a
  good-told j a e = ap (λ i. told i a) e

  pub came : (j : Judged) (l : ℕ) (w : Walk B) (b : B) (n : ℕ) → EndsAfter (told j (cut l w)) b n → Came j l w b n
  came j l w b n e =
      let k = told-answered j (cut l w) (whole (record { got = b; trials = n })) e in
      let out : (cut l w).out ≡ ended b = ap (λ (a : Answer B). a.out) k.1 in
      let x = (cut-ended l w b).0 out in
      let m : w.trials ≡ n = sym (cut-trials l w b out) ∙ ap (λ (a : Answer B). a.count) k.1 in
      record { accepted = k.0; got = x.1; trials = m; within = omega (arith, x.0, m) }

  pub comes : (j : Judged) (l : ℕ) (w : Walk B) → j ≡ Good → w.trials ≤ l → EndsAfter (told j (cut l w)) w.got w.trials
  comes j l w e h = good-told j (cut l w) e ∙ ap answered (cut-within l w h)

  -- "limit" exactly if the walk needs more trials than allowed; the count is then the limit
  pub limit-told : (d : Told B) (j : Judged) (l : ℕ) (w : Walk B) (n : ℕ) → d ≡ told j (cut l w) → SaysLimit d n ↔ ((j ≡ Good) × (l < w.trials) × (n ≡ l))
  limit-told d j l w n q = (there, back)
    where
      there : SaysLimit d n → (j ≡ Good) × (l < w.trials) × (n ≡ l)
      there e =
          let k = told-answered j (cut l w) (stopped n) (sym q ∙ e) in
          let m = (cut-limit l w).0 (ap (λ (a : Answer B). a.out) k.1) in
          (k.0, m, sym (ap (λ (a : Answer B). a.count) k.1) ∙ ap (λ (a : Answer B). a.count) (cut-past l w m))

      back : (j ≡ Good) × (l < w.trials) × (n ≡ l) → SaysLimit d n
      back k = q ∙ good-told j (cut l w) k.0 ∙ ap answered (cut-past l w k.1 ∙ ap stopped (sym k.2))

  -- a call that is not refused and does not stop at its limit ends
  pub ends-within : (d : Told B) (j : Judged) (l : ℕ) (w : Walk B) → d ≡ told j (cut l w) → j ≡ Good → ((n : ℕ) → SaysLimit d n → ⊥) → Ends d w.got
  ends-within d j l w q e f = at (dec_lt l w.trials)
    where
      at : Dec (l < w.trials) → Ends d w.got
      at (yes h) = absurd (f l ((limit-told d j l w l q).1 (e, h, refl)))
      at (no h) = (w.trials, q ∙ comes j l w e (omega arith))

-- ---- the calls

verdict-answers : (j : Judged) (o : Ended (Option ℕ)) (n : ℕ) → verdict_told (given j (verdict_answer (record { out = o; count = n }))) ≡ told j (record { out = o; count = n })
verdict-answers (Err r) o n = refl
verdict-answers (Ok nothing) limit n = refl
verdict-answers (Ok nothing) (ended none) n = refl
verdict-answers (Ok nothing) (ended (some A)) n = ap (λ x. answered (whole (record { got = some x; trials = n }))) (number-stored A)

pub question-told : (q : Question) (c : Case) (t l : ℕ) → verdict_told (question_call q c t l) ≡ told (judged_question c t) (cut l (walk_of q c t))
unfolding question_call
question-told q c t l = verdict-answers (judged_question c t) (cut l (walk_of q c t)).out (cut l (walk_of q c t)).count

advice-answers : (j : Judged) (o : Ended (Option ℕ)) (n : ℕ) → advice_told (given j (advice_answer (record { out = o; count = n }))) ≡ told j (record { out = o; count = n })
advice-answers (Err r) o n = refl
advice-answers (Ok nothing) limit n = refl
advice-answers (Ok nothing) (ended none) n = refl
advice-answers (Ok nothing) (ended (some u)) n = refl

pub advice-told : (c : Case) (p : List ℕ) (t A l : ℕ) → advice_told (advice_call c p t A l) ≡ told (judged_advice c p t A) (cut l (advice_at c t A p))
unfolding advice_call
advice-told c p t A l = advice-answers (judged_advice c p t A) (cut l (advice_at c t A p)).out (cut l (advice_at c t A p)).count

away-answers : (j : Judged) (o : Ended (Option ℕ)) (n : ℕ) → away_told (given j (away_answer (record { out = o; count = n }))) ≡ told j (record { out = o; count = n })
away-answers (Err r) o n = refl
away-answers (Ok nothing) limit n = refl
away-answers (Ok nothing) (ended none) n = refl
away-answers (Ok nothing) (ended (some A)) n = ap (λ x. answered (whole (record { got = some x; trials = n }))) (number-stored A)

pub away-told : (c : Case) (p : List ℕ) (t l : ℕ) → away_told (away_call c p t l) ≡ told (judged_away c p t) (cut l (away_at c t p))
unfolding away_call
away-told c p t l = away-answers (judged_away c p t) (cut l (away_at c t p)).out (cut l (away_at c t p)).count

plan-answers : (j : Judged) (o : Ended (Option (List ℕ))) (n : ℕ) → ((q : List ℕ) → j ≡ Good → o ≡ ended (some q) → length q ≤ most_steps)
    → plan_told (given j (plan_answer (record { out = o; count = n }))) ≡ told j (record { out = o; count = n })
plan-answers (Err r) o n h = refl
plan-answers (Ok nothing) limit n h = refl
plan-answers (Ok nothing) (ended none) n h = refl
plan-answers (Ok nothing) (ended (some q)) n h = ap (λ x. answered (whole (record { got = some x; trials = n }))) (persons-position q (h q refl refl))

pub plan-told : (c : Case) (l : ℕ) → plan_told (plan_call c l) ≡ told (judged_case c) (cut l (plan_of c))
unfolding plan_call
plan-told c l =
    plan-answers (judged_case c) (cut l (plan_of c)).out (cut l (plan_of c)).count
    (λ q g e. let p = (plan-first-got c q).0 ((cut-ended l (plan_of c) (some q)).0 e).1 in omega (arith, p.0.whole, (good-limited c g).steps))
