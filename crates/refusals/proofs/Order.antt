-- The order of refusals: what lists of checks come to.
use mathlib.Core.Path.{◌≡◌, refl, sym, ap, ap₂, ◌∙◌}
use mathlib.Core.Logic.{inl, inr}
use mathlib.Core.Option.{none, some}
use mathlib.Core.List.{List, [], ◌∷◌, ◌++◌}
use Prim.Native.Nat.{ℕ}
use native.Mathlib.Omega.{arith}
use Rattle.sets.specs.Lists.{◌∈◌}
use Rattle.refusals.specs.declared.Refusal.{Refusal}
use Rattle.refusals.specs.Refusals.{Judged}
use Rattle.refusals.specs.Refusals.{Good, Refused}
use Rattle.refusals.specs.Refusals.{Check, judged_by, or_else}

-- nothing is both good and refused
pub good-refused : {j : Judged} {r : Refusal} → j ≡ Good → j ≡ Refused r → ⊥
good-refused {j} {r} p q = let z : ◌≡◌ {A = ℕ} 0 1 = cc in omega arith

-- checks in two lists: those of the first list come first
pub judged-append : (xs ys : List Check) → judged_by (xs ++ ys) ≡ or_else (judged_by xs) (judged_by ys)
unfolding judged_by
judged-append [] ys = refl
judged-append (none ∷ xs) ys = judged-append xs ys
judged-append (some r ∷ xs) ys = refl

-- one check more
pub judged-snoc : (xs : List Check) (x : Check) {j k : Judged} → j ≡ judged_by xs → k ≡ judged_by (x ∷ []) → or_else j k ≡ judged_by (xs ++ (x ∷ []))
judged-snoc xs x p q = ap₂ or_else p q ∙ sym (judged-append xs (x ∷ []))

-- where the first list refuses, that is the refusal
pub checks-before : (xs ys : List Check) (r : Refusal) → judged_by xs ≡ Refused r → judged_by (xs ++ ys) ≡ Refused r
checks-before xs ys r e = judged-append xs ys ∙ ap (λ j. or_else j (judged_by ys)) e

-- where it does not, the second list decides
pub checks-after : (xs ys : List Check) → judged_by xs ≡ Good → judged_by (xs ++ ys) ≡ judged_by ys
checks-after xs ys e = judged-append xs ys ∙ ap (λ j. or_else j (judged_by ys)) e

-- nothing is refused exactly if every check is none
pub good-checks : (xs : List Check) → judged_by xs ≡ Good → (x : Check) → x ∈ xs → x ≡ none
unfolding judged_by
good-checks [] e x m = absurd m
good-checks (none ∷ xs) e x (inl q) = q
good-checks (none ∷ xs) e x (inr m) = good-checks xs e x m
good-checks (some r ∷ xs) e x m = absurd (good-refused e refl)

pub checks-good : (xs : List Check) → ((x : Check) → x ∈ xs → x ≡ none) → judged_by xs ≡ Good
unfolding judged_by
checks-good [] h = refl
checks-good (none ∷ xs) h = checks-good xs (λ x m. h x (inr m))
checks-good (some r ∷ xs) h = let q : some r ≡ none = h (some r) (inl refl) in let z : ◌≡◌ {A = ℕ} 0 1 = cc in absurd (omega arith)
