-- The rule test, form by form. Then the one law of the rules that the games need: what holds with some steps filled holds with fewer of them filled,
-- by the same persons.
use mathlib.Core.Path.{◌≡◌, refl, sym, ap, ◌∙◌}
use mathlib.Core.Logic.{inl, inr}
use mathlib.Core.Bool.{Bool, true, false, not, ◌||◌}
use mathlib.Core.List.{List, [], ◌∷◌, ◌++◌}
use Prim.Native.Nat.{ℕ}
use native.Mathlib.Omega.{arith}
use borrow.Author.Tests.{eqb-true, ne_eqb, ltb-true, lt-ltb}
use lib.Dec.{eqb, ltb, leb-suc-zero}
use lib.ListN.{length, get_or, length-append, get_or-append}
use Rattle.sets.specs.Lists.{pick, ◌∈◌, all, any}
use Rattle.sets.specs.Sets.{size, members}
use Rattle.sets.proofs.Lists.{and-true, and-true-end, true-and, all-mem, mem-all, all-cong, any-cong}
use Rattle.sets.proofs.Members.{members-length}
use Rattle.cases.specs.declared.Rule.{Rule}
use Rattle.cases.specs.declared.Case.{Case}
use Rattle.cases.specs.Case.{most_steps, rules}
use Rattle.cases.specs.Rules.{related, steps_in, needed, filled, paired, kept, rules_hold}
use Rattle.cases.specs.Plans.{holds}

-- a list of length 1 that has x is x alone
only_one : (xs : List ℕ) (x : ℕ) → length xs ≡ 1 → x ∈ xs → xs ≡ x ∷ []
only_one [] x l m = absurd m
only_one (y ∷ []) x l (inl e) = ap (λ (z : ℕ). z ∷ []) (sym e)
only_one (y ∷ []) x l (inr m) = absurd m
only_one (y ∷ z ∷ ys) x l m = let w : ⊥ = omega (arith, l) in absurd w

-- Form 1: X has one member, and the rule is kept exactly if the pair with it is in the relation.
pub form-one : (c : Case) (r : Rule) (who : ℕ → ℕ) (x : ℕ) → r.form ≡ 1 → size most_steps r.group ≡ 1 → x ∈ steps_in r.group
    → kept c r who ≡ paired c r who x
unfolding kept needed steps_in all
form-one c r who x e one m =
    rw (e, only_one (members most_steps r.group) x (members-length most_steps r.group ∙ one) m, and-true-end (paired c r who x))

-- Form 2: exactly if the pair with some member of X is in the relation.
pub form-two : (c : Case) (r : Rule) (who : ℕ → ℕ) → r.form ≡ 2 → kept c r who ≡ any (paired c r who) (steps_in r.group)
unfolding kept needed
form-two c r who e = rw e

-- Form 3: exactly if the pair with every member of X is in the relation.
pub form-three : (c : Case) (r : Rule) (who : ℕ → ℕ) → r.form ≡ 3 → kept c r who ≡ all (paired c r who) (steps_in r.group)
unfolding kept needed
form-three c r who e = rw e

-- In one expression: form 2 needs it for some member of X, every other form for every member.
pub needed-as-one : (form : ℕ) (test : ℕ → Bool) (xs : List ℕ) → needed form test xs ≡ pick (eqb form 2) (any test xs) (all test xs)
unfolding needed
needed-as-one form test xs = go (eqb form 1) refl
  where
    go : (one : Bool) → eqb form 1 ≡ one → pick one (all test xs) (pick (eqb form 2) (any test xs) (all test xs)) ≡ pick (eqb form 2) (any test xs) (all test xs)
    go true e = rw (ne_eqb form 2 (λ two. omega (arith, eqb-true form 1 e, two)))
    go false e = refl

-- and so for a rule, the pair spelled out
pub kept-as-one : (c : Case) (r : Rule) (who : ℕ → ℕ) → kept c r who
    ≡ pick (eqb r.form 2) (any (λ x. related c r.relation (who r.step.0) (who x)) (steps_in r.group))
    (all (λ x. related c r.relation (who r.step.0) (who x)) (steps_in r.group))
unfolding kept
kept-as-one c r who = needed-as-one r.form _ _

-- what is needed of the members of X goes by what holds of each
pub needed-cong : (form : ℕ) (f g : ℕ → Bool) (xs : List ℕ) → ((x : ℕ) → x ∈ xs → f x ≡ g x) → needed form f xs ≡ needed form g xs
unfolding needed
needed-cong form f g xs h = cc (any-cong f g xs h, all-cong f g xs h)

-- what is filled in d is filled in e, and by the same person
abbrev pub Fewer : (ℕ → Bool) → (ℕ → ℕ) → (ℕ → Bool) → (ℕ → ℕ) → Type 0
Fewer d v e w = (x : ℕ) → d x ≡ true → (e x ≡ true) × (w x ≡ v x)

module _ (c : Case) (d e : ℕ → Bool) (v w : ℕ → ℕ) (less : Fewer d v e w) where
  filled-fewer : (r : Rule) → filled r d ≡ true → filled r e ≡ true
  unfolding filled
  filled-fewer r h =
      let k = and-true (d r.step.0) (all d (steps_in r.group)) h in
      true-and (e r.step.0) (all e (steps_in r.group)) (less r.step.0 k.0).0 (mem-all e (steps_in r.group) (λ x m. (less x (all-mem d (steps_in r.group) k.1 x m)).0))

  pub kept-fewer : (r : Rule) → filled r d ≡ true → kept c r w ≡ kept c r v
  unfolding filled kept
  kept-fewer r h =
      let k = and-true (d r.step.0) (all d (steps_in r.group)) h in
      needed-cong r.form _ _ (steps_in r.group) (λ x m. cc ((less r.step.0 k.0).1, (less x (all-mem d (steps_in r.group) k.1 x m)).1))

  one_fewer : (r : Rule) → not (filled r e) || kept c r w ≡ true → not (filled r d) || kept c r v ≡ true
  one_fewer r h = go (filled r d) refl
    where
      go : (b : Bool) → filled r d ≡ b → not b || kept c r v ≡ true
      go true q = sym (kept-fewer r q) ∙ (rw (filled-fewer r q) at h)
      go false q = refl

  pub hold-fewer : rules_hold c e w ≡ true → rules_hold c d v ≡ true
  unfolding rules_hold
  hold-fewer h = mem-all (λ r. not (filled r d) || kept c r v) (rules c) (λ r m. one_fewer r (all-mem (λ x. not (filled x e) || kept c x w) (rules c) h r m))

-- the beginning of a position at which the rules hold
pub holds-prefix : (c : Case) (p us : List ℕ) → holds c (p ++ us) ≡ true → holds c p ≡ true
unfolding holds
holds-prefix c p us e =
    hold-fewer c (λ i. ltb i (length p)) (λ i. ltb i (length (p ++ us))) (λ i. get_or p i 0) (λ i. get_or (p ++ us) i 0)
    (λ x h. let k = ltb-true x (length p) h in (lt-ltb x (length (p ++ us)) (omega (arith, length-append p us)), get_or-append p us 0 x k)) e

-- with no step filled every rule holds
pub holds-start : (c : Case) → holds c [] ≡ true
unfolding holds rules_hold filled
holds-start c = mem-all (λ r. not (filled r (λ i. ltb i 0)) || kept c r (λ i. 0)) (rules c) (λ r m. rw (leb-suc-zero r.step.0))
