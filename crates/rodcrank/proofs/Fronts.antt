-- A position of any length: its first 8 entries are looked at, and the calls answer for all of it.
use mathlib.Core.Path.{◌≡◌, refl, sym, ap, ap₂, ◌∙◌}
use mathlib.Core.Logic.{⊎_elim}
use mathlib.Core.Bool.{Bool, true, false}
use mathlib.Core.List.{List, [], ◌∷◌}
use Prim.Native.Nat.{ℕ, ◌-◌, ◌^◌, ◌≤◌, ◌<◌}
use native.Mathlib.Nat.{eq-zero-or-pos}
use native.Mathlib.Omega.{arith}
use lib.Dec.{ltb}
use lib.ListN.{length, take}
use lib.Seq.{take_all, length-take-le}
use Rattle.sets.specs.Lists.{pick}
use Rattle.sets.specs.Stored.{width}
use Rattle.sets.proofs.Lists.{pick-ge}
use Rattle.games.specs.Limit.{cut}
use Rattle.cases.specs.declared.Case.{Case}
use Rattle.cases.specs.Case.{most_steps, people, steps}
use Rattle.cases.specs.Chain.{advice_at, away_at}
use Rattle.refusals.specs.declared.Refusal.{Refusal}
use Rattle.refusals.specs.Refusals.{Judged, Refused, refusal, judged_by, or_else}
use Rattle.asking.specs.Asking.{position_check, absence_check, judged_question, judged_away}
use Rattle.asking.proofs.Calls.{away-order, advice-order, question-good}
use Rattle.std.specs.Prelude.{Ok, Err}
use Rattle.planner.specs.Answers.{advice_answer, away_answer, given}
use Rattle.planner.specs.Calls.{advice_call, away_call}
use Rattle.planner.proofs.Answering.{few-steps}
use Rattle.replies.specs.Replies.{refused_reply, advice_reply, away_reply}
use Rattle.rodcrank.specs.Calls.{unknown_absent, advised, advice_on}

-- what has one value for all long lists has it for a list and for its front
front : {X : Type 0} (F : List ℕ → X) (x : X) → ((q : List ℕ) → most_steps ≤ length q → F q ≡ x)
    → (p : List ℕ) → F (take most_steps p) ≡ F p
front F x long p = ⊎_elim whole cut_off (eq-zero-or-pos (length p - most_steps))
  where
    whole : length p - most_steps ≡ 0 → F (take most_steps p) ≡ F p
    whole h = ap F (take_all most_steps p (omega arith))

    cut_off : 0 < length p - most_steps → F (take most_steps p) ≡ F p
    cut_off h = long (take most_steps p) (omega (arith, length-take-le most_steps p (omega arith))) ∙ sym (long p (omega arith))

module _ (c : Case) (t : ℕ) where
  -- what every position that is as long as any chain is refused by
  abbrev refusal_of_long : Judged → Refusal
  refusal_of_long (Ok nothing) = refusal 13 (steps c)
  refusal_of_long (Err r) = r

  long-judged : (j : Judged) → judged_question c t ≡ j → (q : List ℕ) → most_steps ≤ length q → judged_away c q t ≡ Refused (refusal_of_long j)
  unfolding position_check judged_by
  long-judged (Err r) e q h = away-order c q t ∙ ap (λ i. or_else i (judged_by (position_check c q ∷ []))) e
  long-judged (Ok nothing) e q h =
      away-order c q t
      ∙ ap (λ i. or_else i (judged_by (position_check c q ∷ []))) e
      ∙ ap (λ x. judged_by (x ∷ [])) (sym (pick-ge (length q) (steps c) _ _ (omega (arith, few-steps c (question-good c t e).0))))

  module _ (l : ℕ) where
    away-told : (r : Refusal) (q : List ℕ) → judged_away c q t ≡ Refused r → away_reply (away_call c q t l) ≡ refused_reply r
    unfolding away_call
    away-told r q e = ap (λ j. away_reply (given j (away_answer (cut l (away_at c t q))))) e

    pub away-front : (p : List ℕ) → away_reply (away_call c (take most_steps p) t l) ≡ away_reply (away_call c p t l)
    away-front =
        let j = judged_question c t in
        front (λ q. away_reply (away_call c q t l)) (refused_reply (refusal_of_long j)) (λ q h. away-told (refusal_of_long j) q (long-judged j refl q h))

  module _ (A l : ℕ) where
    either-told : (n : ℕ) (r : Refusal) (b : Bool) → advice_reply n (pick b (Err r) (Err r)) ≡ refused_reply r
    either-told n r true = refl
    either-told n r false = refl

    advice-told : (r : Refusal) (q : List ℕ) → judged_away c q t ≡ Refused r → advice_on c q t A l ≡ refused_reply r
    unfolding advised advice_call
    advice-told r q e =
        ap₂ (λ j k. advice_reply (length q) (pick (ltb A (2 ^ width)) (given j (advice_answer (cut l (advice_at c t A q)))) (Err (unknown_absent k))))
        (advice-order c q t A ∙ ap (λ i. or_else i (judged_by (absence_check (people c) t A ∷ []))) e)
        e
        ∙ either-told (length q) r (ltb A (2 ^ width))

    pub advice-front : (p : List ℕ) → advice_on c (take most_steps p) t A l ≡ advice_on c p t A l
    advice-front =
        let j = judged_question c t in
        front (λ q. advice_on c q t A l) (refused_reply (refusal_of_long j)) (λ q h. advice-told (refusal_of_long j) q (long-judged j refl q h))
