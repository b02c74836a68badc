-- A call's answer from what was read of its file: a refused file's refusal, or what is said of the case that the file holds.
use mathlib.Core.Path.{◌≡◌, refl, sym, ap, ap₂, ◌∙◌}
use mathlib.Core.Bool.{Bool, true, false}
use Rattle.std.specs.Prelude.{Result, Ok, Err}
use Rattle.std.specs.Result.{result_and}
use mathlib.Core.Option.{none, some, some-injective, some-ne-none, none-ne-some}
use mathlib.Core.List.{List}
use Prim.Native.Nat.{ℕ, ◌^◌}
use lib.Dec.{ltb}
use lib.ListN.{take}
use Rattle.sets.specs.Lists.{pick, only_if}
use Rattle.sets.specs.Stored.{width, number}
use Rattle.sets.specs.declared.People.{People}
use Rattle.games.specs.Limit.{cut}
use Rattle.cases.specs.Case.{empty_case, most_steps}
use Rattle.cases.specs.declared.Case.{Case}
use Rattle.cases.specs.declared.Position.{Position}
use Rattle.cases.specs.Chain.{away_at}
use Rattle.cases.specs.Positions.{persons}
use Rattle.cases.proofs.Positions.{persons-length}
use Rattle.refusals.specs.declared.Refusal.{Refusal}
use Rattle.refusals.specs.Refusals.{Judged, Good, Refused, refusal}
use Rattle.refusals.specs.CaseChecks.{judged_case}
use Rattle.layout.specs.Layout.{case_of}
use Rattle.files.specs.declared.FileRead.{FileRead}
use Rattle.files.specs.Checks.{judged_file}
use Rattle.files.specs.Reading.{read_of}
use Rattle.files.specs.Reading as reading
use Rattle.files.proofs.Nothing.{held-good}
use Rattle.asking.specs.Asking.{judged_away}
use Rattle.planner.specs.declared.AdviceAnswer.{AdviceAnswer}
use Rattle.planner.specs.declared.AwayAnswer.{AwayAnswer}
use Rattle.planner.specs.declared.PlanAnswer.{PlanAnswer}
use Rattle.planner.specs.declared.Question.{Question}
use Rattle.planner.specs.declared.VerdictAnswer.{VerdictAnswer}
use Rattle.planner.specs.Answers.{away_answer, given}
use Rattle.planner.specs.Calls.{plan_call, question_call, advice_call, away_call}
use Rattle.replies.specs.Replies.{refused_reply, plan_reply, verdict_reply, advice_reply, away_reply}
use Rattle.replies.specs.Pairs.{persons_in}
use Rattle.rodcrank.specs.Calls.{if_good, plan_file, unknown_absent, advised, advice_on, advice_file, away_file}
use Rattle.rodcrank.proofs.Fronts.{advice-front, away-front}

-- ---- The case of a file

module _ (f : List ℕ) {r : FileRead} (e : r ≡ read_of f) where
  judged-read : r.judged ≡ judged_file f
  unfolding read_of
  judged-read = ap (λ (x : FileRead). x.judged) e

  -- a refused file's refusal
  pub refused-case : {x : Refusal} → r.judged ≡ Refused x → Err x ≡ given (judged_file f) (case_of f)
  refused-case h = ap (λ j. given j (case_of f)) (sym h ∙ judged-read)

  -- the case that a good file holds
  pub good-case : r.judged ≡ Good → Ok r.held ≡ given (judged_file f) (case_of f)
  unfolding read_of
  good-case h =
      let g : judged_file f ≡ Good = sym judged-read ∙ h in
      ap₂ given (sym g) (ap (λ (x : FileRead). x.held) e ∙ ap (λ j. reading.if_good j (case_of f) empty_case) g)

-- ---- What is asked of it

module _ (f : List ℕ) where
  -- a case that a file gives is the one that it holds, and is good
  pub case-good : {c : Case} → Ok c ≡ given (judged_file f) (case_of f) → judged_case c ≡ Good
  case-good {c} e = go (judged_file f) refl e
    where
      go : (j : Judged) → judged_file f ≡ j → Ok c ≡ given j (case_of f) → judged_case c ≡ Good
      go (Ok nothing) g h = let same : c ≡ case_of f = cc in ap judged_case same ∙ held-good f g
      go (Err r) g h = cc

  module _ {A : Type 0} where
    pub asked-good : (F : Case → Result A Refusal) {c : Case} → Ok c ≡ given (judged_file f) (case_of f) → F c ≡ result_and (judged_file f) (F (case_of f))
    asked-good F {c} e = go (judged_file f) e
      where
        go : (j : Judged) → Ok c ≡ given j (case_of f) → F c ≡ result_and j (F (case_of f))
        go (Ok nothing) h = let same : c ≡ case_of f = cc in ap F same
        go (Err r) h = cc

    -- an answer as numbers, of which a refusal's are `refused_reply`
    pub told : (R : Result A Refusal → List ℕ) → ((x : Refusal) → R (Err x) ≡ refused_reply x) → (b : Result A Refusal) {a : Result A Refusal} {o : List ℕ}
        → a ≡ result_and (judged_file f) b → o ≡ R a → o ≡ if_good (judged_file f) (R b)
    told R at_err b e h = h ∙ ap R e ∙ go (judged_file f)
      where
        go : (j : Judged) → R (result_and j b) ≡ if_good j (R b)
        go (Ok nothing) = refl
        go (Err x) = at_err x

  pub plan-told : (l : ℕ) {a : Result PlanAnswer Refusal} {o : List ℕ} → a ≡ result_and (judged_file f) (plan_call (case_of f) l) → o ≡ plan_reply a → o ≡ plan_file f l
  unfolding plan_file
  plan-told l e h = told plan_reply (λ x. refl) (plan_call (case_of f) l) e h

  pub question-told : (q : Question) (t l : ℕ) {a : Result VerdictAnswer Refusal} {o : List ℕ} → a ≡ result_and (judged_file f) (question_call q (case_of f) t l)
      → o ≡ verdict_reply a → o ≡ if_good (judged_file f) (verdict_reply (question_call q (case_of f) t l))
  question-told q t l e h = told verdict_reply (λ x. refl) (question_call q (case_of f) t l) e h

  -- ---- Advice and away: the first 8 entries of a position stand for all of it

  module _ (b : List ℕ) (t : ℕ) (p : Position) (entries : persons p ≡ take most_steps (persons_in b)) where
    pub advice-told : (A l : ℕ) {a : Result AdviceAnswer Refusal} {o : List ℕ} → a ≡ result_and (judged_file f) (advised (case_of f) (persons p) t A l)
        → o ≡ advice_reply p.len a → o ≡ advice_file f b t A l
    unfolding advice_file
    advice-told A l e h =
        told (advice_reply p.len) (λ x. refl) (advised (case_of f) (persons p) t A l) e h
        ∙ ap (if_good (judged_file f))
        (ap (λ n. advice_reply n (advised (case_of f) (persons p) t A l)) (sym (persons-length p))
        ∙ ap (λ x. advice_on (case_of f) x t A l) entries
        ∙ advice-front (case_of f) t A l (persons_in b))

    pub away-told : (l : ℕ) {a : Result AwayAnswer Refusal} {o : List ℕ} → a ≡ result_and (judged_file f) (away_call (case_of f) (persons p) t l)
        → o ≡ away_reply a → o ≡ away_file f b t l
    unfolding away_file
    away-told l e h =
        told away_reply (λ x. refl) (away_call (case_of f) (persons p) t l) e h
        ∙ ap (if_good (judged_file f)) (ap (λ x. away_reply (away_call (case_of f) x t l)) entries ∙ away-front (case_of f) t l (persons_in b))

-- ---- Advice with absentees of any number

module _ (c : Case) (p : List ℕ) (t l A : ℕ) where
  pub set_told : (s : People) {a : Result AdviceAnswer Refusal} → some (number s) ≡ only_if (ltb A (2 ^ width)) A → a ≡ advice_call c p t (number s) l → a ≡ advised c p t A l
  unfolding advised
  set_told s h g = g ∙ go (ltb A (2 ^ width)) h
    where
      go : (b : Bool) → some (number s) ≡ only_if b A → advice_call c p t (number s) l ≡ pick b (advice_call c p t A l) (Err (unknown_absent (judged_away c p t)))
      go true k = ap (λ x. advice_call c p t x l) (some-injective (number s) A k)
      go false k = absurd (some-ne-none (number s) k)

  pub past-told : {x : Refusal} → none ≡ only_if (ltb A (2 ^ width)) A → x ≡ unknown_absent (judged_away c p t) → Err x ≡ advised c p t A l
  unfolding advised
  past-told h g = ap Err g ∙ go (ltb A (2 ^ width)) h
    where
      go : (b : Bool) → none ≡ only_if b A → Err (unknown_absent (judged_away c p t)) ≡ pick b (advice_call c p t A l) (Err (unknown_absent (judged_away c p t)))
      go true k = absurd (none-ne-some A k)
      go false k = refl

-- ---- What away is refused by, asked with no trial allowed

module _ (c : Case) (p : List ℕ) (t : ℕ) where
  pub refused-away : {r : Refusal} → Err r ≡ away_call c p t 0 → r ≡ unknown_absent (judged_away c p t)
  unfolding away_call
  refused-away {r} e = go (judged_away c p t) e
    where
      go : (j : Judged) → Err r ≡ given j (away_answer (cut 0 (away_at c t p))) → r ≡ unknown_absent j
      go (Ok nothing) h = cc
      go (Err x) h = cc

  pub answered-away : {a : AwayAnswer} → Ok a ≡ away_call c p t 0 → refusal 14 0 ≡ unknown_absent (judged_away c p t)
  unfolding away_call
  answered-away {a} e = go (judged_away c p t) e
    where
      go : (j : Judged) → Ok a ≡ given j (away_answer (cut 0 (away_at c t p))) → refusal 14 0 ≡ unknown_absent j
      go (Ok nothing) h = refl
      go (Err x) h = cc
