-- Each test of the checks against its condition in the scope's words.
use mathlib.Core.Path.{◌≡◌, refl, sym, ap, ◌∙◌}
use mathlib.Core.Logic.{◌⊎◌, inl, inr, ◌↔◌}
use mathlib.Core.Bool.{Bool, true, false, not, ◌&&◌, ◌||◌, true≢false}
use Prim.Native.Nat.{ℕ, ◌+◌, ◌≤◌, ◌<◌}
use native.Mathlib.Decide.{ℕ_discrete}
use native.Mathlib.Omega.{arith}
use borrow.Author.Tests.{ltb-true, ltb-false, leb-true, eqb-false, not-true, lt-ltb, le-ltb, le-leb, lt-leb, eq-eqb, ne_eqb}
use lib.Dec.{ltb, leb, eqb}
use Rattle.sets.specs.Lists.{pick}
use Rattle.sets.specs.Sets.{size, members, past}
use Rattle.sets.proofs.Lists.{any-mem, mem-any, and-true, true-and}
use Rattle.sets.proofs.Members.{members-in, members-mem}
use Rattle.cases.specs.declared.Counts.{Counts}
use Rattle.cases.specs.declared.Rule.{Rule}
use Rattle.cases.specs.declared.Case.{Case}
use Rattle.cases.specs.Case.{most_people, most_steps, most_roles, most_tables, most_rules}
use Rattle.refusals.specs.CaseChecks.{too_many, right_size, bad_rule, bad_order, step_entry}
use Rattle.refusals.specs.Table.{NamesPast, TooMany, in_people, in_steps, in_roles, in_tables, in_rules, BadStep, bad_before, bad_spare, BadRule, bad_form, bad_relation, bad_first, bad_group, not_one, empty}

-- ---- Tests and what they say

pub either_is : (a b : Bool) {A B : Type 0} → (a ≡ true) ↔ A → (b ≡ true) ↔ B → (a || b ≡ true) ↔ (A ⊎ B)
either_is a b {A} {B} f g = (to a f, from a f)
  where
    to : (a : Bool) → (a ≡ true) ↔ A → a || b ≡ true → A ⊎ B
    to true f e = inl (f.0 refl)
    to false f e = inr (g.0 e)

    from : (a : Bool) → (a ≡ true) ↔ A → A ⊎ B → a || b ≡ true
    from true f k = refl
    from false f (inl k) = absurd (true≢false (sym (f.1 k)))
    from false f (inr k) = g.1 k

pub nor-false : (a b : Bool) → a || b ≡ false → (a ≡ false) × (b ≡ false)
nor-false true b e = absurd (true≢false e)
nor-false false b e = (refl, e)

pub below-is : (a b : ℕ) → (ltb a b ≡ true) ↔ (a < b)
below-is a b = (ltb-true a b, lt-ltb a b)

pub not-below-is : (a b : ℕ) → (not (ltb a b) ≡ true) ↔ (b ≤ a)
not-below-is a b = (λ e. ltb-false a b (not-true (ltb a b) e), λ h. ap not (le-ltb a b h))

pub differs-is : (a b : ℕ) → (not (eqb a b) ≡ true) ↔ (a ≡ b → ⊥)
differs-is a b = (λ e. eqb-false a b (not-true (eqb a b) e), λ h. ap not (ne_eqb a b h))

pub past-names : (room s n : ℕ) → (past room s n ≡ true) ↔ NamesPast room s n
unfolding past
past-names room s n = (to, from)
  where
    to : past room s n ≡ true → NamesPast room s n
    to e =
        let k = any-mem (λ v. not (ltb v n)) (members room s) e in
        let m = members-in room s k.0 k.1 in
        record { member = k.0; fits = m.0; listed = m.1; past = (not-below-is k.0 n).0 k.2 }

    from : NamesPast room s n → past room s n ≡ true
    from k =
        let m = members-mem room s k.member k.fits k.listed in
        mem-any (λ v. not (ltb v n)) (members room s) k.member m ((not-below-is k.member n).1 k.past)

-- ---- 4

-- one of the five counts is above its limit
abbrev Above : Counts → Type 0
Above n = (most_people < n.people) ⊎ ((most_steps < n.steps) ⊎ ((most_roles < n.roles) ⊎ ((most_tables < n.tables) ⊎ (most_rules < n.rules))))

pub too_many_lem : (n : Counts) → (too_many n ≡ true) ↔ TooMany n
unfolding too_many
too_many_lem n = (λ e. to (sums.0 e), λ k. sums.1 (from k))
  where
    sums : (too_many n ≡ true) ↔ Above n
    sums =
        either_is _ _ (below-is _ _) (either_is _ _ (below-is _ _) (either_is _ _ (below-is _ _) (either_is _ _ (below-is _ _) (below-is _ _))))

    to : Above n → TooMany n
    to (inl h) = in_people h
    to (inr (inl h)) = in_steps h
    to (inr (inr (inl h))) = in_roles h
    to (inr (inr (inr (inl h)))) = in_tables h
    to (inr (inr (inr (inr h)))) = in_rules h

    from : TooMany n → Above n
    from (in_people h) = inl h
    from (in_steps h) = inr (inl h)
    from (in_roles h) = inr (inr (inl h))
    from (in_tables h) = inr (inr (inr (inl h)))
    from (in_rules h) = inr (inr (inr (inr h)))

-- ---- 9

pub bad-step : (c : Case) (s : ℕ) → (bad_order c s ≡ true) ↔ BadStep s (step_entry c s)
unfolding bad_order
bad-step c s = (λ e. to (sums.0 e), λ k. sums.1 (from k))
  where
    sums : (bad_order c s ≡ true) ↔ (NamesPast most_steps (step_entry c s).before s ⊎ ((step_entry c s).spare ≡ 0 → ⊥))
    sums = either_is _ _ (past-names _ _ _) (differs-is _ _)

    to : NamesPast most_steps (step_entry c s).before s ⊎ ((step_entry c s).spare ≡ 0 → ⊥) → BadStep s (step_entry c s)
    to (inl h) = bad_before h
    to (inr h) = bad_spare h

    from : BadStep s (step_entry c s) → NamesPast most_steps (step_entry c s).before s ⊎ ((step_entry c s).spare ≡ 0 → ⊥)
    from (bad_before h) = inl h
    from (bad_spare h) = inr h

-- ---- 11

-- the form is none of 1 to 3
abbrev NoForm : ℕ → Type 0
NoForm f = (f ≡ 1 → ⊥) × (f ≡ 2 → ⊥) × (f ≡ 3 → ⊥)

no-form : (f : ℕ) → (not (leb 1 f && leb f 3) ≡ true) ↔ NoForm f
no-form f = (to, λ k. ap not (from k))
  where
    known : 1 ≤ f → f ≤ 3 → not (leb 1 f && leb f 3) ≡ true → ⊥
    known l h e = true≢false (sym e ∙ ap not (true-and _ _ (le-leb 1 f l) (le-leb f 3 h)))

    to : not (leb 1 f && leb f 3) ≡ true → NoForm f
    to e = (λ q. known (omega arith) (omega arith) e, λ q. known (omega arith) (omega arith) e, λ q. known (omega arith) (omega arith) e)

    from : NoForm f → leb 1 f && leb f 3 ≡ false
    from k = go (leb 1 f && leb f 3) refl
      where
        at : leb 1 f && leb f 3 ≡ true → Dec (f ≡ 1) → Dec (f ≡ 2) → ⊥
        at q (yes a) b = k.0 a
        at q (no a) (yes b) = k.1 b
        at q (no a) (no b) =
            let w = and-true (leb 1 f) (leb f 3) q in
            k.2 (let z : f ≡ 3 = omega (arith, leb-true 1 f w.0, leb-true f 3 w.1) in z)

        go : (b : Bool) → leb 1 f && leb f 3 ≡ b → leb 1 f && leb f 3 ≡ false
        go false q = q
        go true q = absurd (at q (ℕ_discrete f 1) (ℕ_discrete f 2))

-- X has another size than one under form 1, or no member under another form
abbrev WrongSize : ℕ → ℕ → Type 0
WrongSize f x = ((f ≡ 1) × (size most_steps x ≡ 1 → ⊥)) ⊎ ((f ≡ 1 → ⊥) × (size most_steps x ≡ 0))

wrong_size : (f x : ℕ) → (not (right_size f x) ≡ true) ↔ WrongSize f x
unfolding right_size
wrong_size f x = (to (ℕ_discrete f 1), from)
  where
    -- the size asked for is the one of the form
    picked : (b : Bool) → eqb f 1 ≡ b → not (right_size f x) ≡ true → not (pick b (eqb (size most_steps x) 1) (leb 1 (size most_steps x))) ≡ true
    picked b q e = ap (λ (t : Bool). not (pick t (eqb (size most_steps x) 1) (leb 1 (size most_steps x)))) (sym q) ∙ e

    to : Dec (f ≡ 1) → not (right_size f x) ≡ true → WrongSize f x
    to (yes a) e = inl (a, (differs-is (size most_steps x) 1).0 (picked true (eq-eqb f 1 a) e))
    to (no a) e = inr (a, go (ℕ_discrete (size most_steps x) 0) (picked false (ne_eqb f 1 a) e))
      where
        go : Dec (size most_steps x ≡ 0) → not (leb 1 (size most_steps x)) ≡ true → size most_steps x ≡ 0
        go (yes z) q = z
        go (no z) q = absurd (true≢false (sym q ∙ ap not (le-leb 1 (size most_steps x) (omega arith))))

    from : WrongSize f x → not (right_size f x) ≡ true
    from (inl k) = rw (eq-eqb f 1 k.0) (ap not (ne_eqb (size most_steps x) 1 k.1))
    from (inr k) = rw (ne_eqb f 1 k.0) (ap not (lt-leb 1 (size most_steps x) (omega (arith, k.1))))

-- one of the five things that can be wrong with a rule
abbrev WrongRule : Counts → Rule → Type 0
WrongRule n r =
    NoForm r.form
    ⊎ ((n.tables + 2 ≤ r.relation)
    ⊎ ((n.steps ≤ r.step.0) ⊎ (NamesPast most_steps r.group n.steps ⊎ WrongSize r.form r.group)))

pub bad-rule : (n : Counts) (r : Rule) → (bad_rule n r ≡ true) ↔ BadRule n r
unfolding bad_rule
bad-rule n r = (λ e. to (sums.0 e), λ k. sums.1 (from k))
  where
    sums : (bad_rule n r ≡ true) ↔ WrongRule n r
    sums =
        either_is _ _ (no-form _)
        (either_is _ _ (not-below-is _ _) (either_is _ _ (not-below-is _ _) (either_is _ _ (past-names _ _ _) (wrong_size _ _))))

    few : (r.form ≡ 1 → ⊥) → size most_steps r.group ≡ 0 → Dec (r.form ≡ 2) → Dec (r.form ≡ 3) → BadRule n r
    few a z (yes b) d = empty (inl b) z
    few a z (no b) (yes d) = empty (inr d) z
    few a z (no b) (no d) = bad_form a b d

    to : WrongRule n r → BadRule n r
    to (inl k) = bad_form k.0 k.1 k.2
    to (inr (inl h)) = bad_relation h
    to (inr (inr (inl h))) = bad_first h
    to (inr (inr (inr (inl h)))) = bad_group h
    to (inr (inr (inr (inr (inl k))))) = not_one k.0 k.1
    to (inr (inr (inr (inr (inr k))))) = few k.0 k.1 (ℕ_discrete r.form 2) (ℕ_discrete r.form 3)

    from : BadRule n r → WrongRule n r
    from (bad_form a b d) = inl (a, b, d)
    from (bad_relation h) = inr (inl h)
    from (bad_first h) = inr (inr (inl h))
    from (bad_group h) = inr (inr (inr (inl h)))
    from (not_one a k) = inr (inr (inr (inr (inl (a, k)))))
    from (empty (inl b) z) = inr (inr (inr (inr (inr ((λ a. omega arith), z)))))
    from (empty (inr d) z) = inr (inr (inr (inr (inr ((λ a. omega arith), z)))))
