-- Checks one after another, the earlier first: where a check is good, the rest decide; where it refuses, that is the refusal.
use Rattle.std.proofs.Common.{◌≡◌, Bool, false, List, [], ◌∷◌, refl, sym, ap, ◌∙◌, inl}
use Rattle.std.specs.Result.{IsErrAnd}
use Rattle.std.proofs.lemmas.Result.{err_from_is_err_and}
use Rattle.sets.specs.Lists.{only_if}
use Rattle.sets.proofs.Lists.{only_if-none}
use Rattle.refusals.specs.declared.Refusal.{Refusal}
use Rattle.refusals.specs.Refusals.{Judged, Good, Refused, Check, judged_by}
use Rattle.refusals.proofs.Order.{checks-before, checks-after, good-checks}

module _ {a : Judged} (u : Check) (rest : List Check) (e : a ≡ judged_by (u ∷ [])) where
  pub turn-over : {b : Judged} → a ≡ Good → b ≡ judged_by rest → b ≡ judged_by (u ∷ rest)
  turn-over g q = q ∙ sym (checks-after (u ∷ []) rest (sym e ∙ g))

  pub turn-ends : {b : Judged} {r : Refusal} → a ≡ Refused r → IsErrAnd b (λ x. x ≡ r) → b ≡ judged_by (u ∷ rest)
  turn-ends {b} {r} f k =
      let p = err_from_is_err_and b k in
      p.1 ∙ ap Refused p.2 ∙ sym (checks-before (u ∷ []) rest r (sym e ∙ f))

-- a single check that is good is not met
pub not-met : (met : Bool) (r : Refusal) {j : Judged} → j ≡ judged_by (only_if met r ∷ []) → j ≡ Good → met ≡ false
not-met met r e g = only_if-none met r (good-checks (only_if met r ∷ []) (sym e ∙ g) (only_if met r) (inl refl))
