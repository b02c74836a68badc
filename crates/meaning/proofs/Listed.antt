-- Persons placed one by one from the first step on: which steps are filled, and by whom.
use mathlib.Core.Path.{◌≡◌, refl, sym, ap, ap₂, ◌∙◌}
use mathlib.Core.Bool.{Bool, ◌||◌}
use mathlib.Core.List.{List, [], ◌∷◌, ◌++◌}
use Prim.Native.Nat.{ℕ, zero, suc, ◌+◌, ◌≤◌, ◌<◌}
use native.Mathlib.Nat.{not-suc-le-zero}
use native.Mathlib.Decide.{dec_lt, ℕ_discrete}
use native.Mathlib.Omega.{arith}
use borrow.Author.Tests.{eq-eqb, ne_eqb, lt-ltb, le-ltb, ltb-true}
use lib.Dec.{eqb, ltb}
use lib.ListN.{length, get_or, replicate, length-replicate, get_or-replicate, get_or-eq_default}
use Rattle.sets.specs.Lists.{pick}
use Rattle.sets.specs.Sets.{has}
use Rattle.cases.specs.declared.Person.{Person}
use Rattle.cases.specs.declared.Case.{Case}
use Rattle.cases.specs.declared.Filled.{Filled}
use Rattle.cases.specs.Case.{most_steps, steps}
use Rattle.cases.specs.Rules.{rules_hold}
use Rattle.cases.specs.Plans.{holds, Valid}
use Rattle.cases.specs.Positions.{zero_person}
use Rattle.cases.specs.Filled.{start_filled, who_in, filled_with, who_with}
use Rattle.cases.proofs.Rules.{hold-fewer}
use Rattle.cases.proofs.Rounds.{may-known, may-step}
use Rattle.cases.proofs.Fillings.{placed-filled, placed-who, start-empty}
use Rattle.boards.specs.Arena.{put_on}
use Rattle.pieces.proofs.Tests.{same}
use Rattle.laying.specs.Ready.{Ready}
use Rattle.meaning.specs.Sound.{Formed, Sound}
use Rattle.meaning.specs.Listed.{fill_from, filled_by}
use Rattle.meaning.proofs.Means.{no_more}
use Rattle.meaning.proofs.Placing.{formed-start, formed-placed}

-- one person more is placed at the next step
fill-snoc : (i : ℕ) (q : Filled) (p : List ℕ) (u : ℕ) → fill_from i q (p ++ (u ∷ [])) ≡ put_on (fill_from i q p) u (i + length p)
unfolding fill_from
fill-snoc i q [] u = let e : i ≡ i + 0 = omega arith in ap (put_on q u) e
fill-snoc i q (v ∷ p) u =
    let e : suc i + length p ≡ i + suc (length p) = omega arith in
    fill-snoc (suc i) (put_on q v i) p u ∙ ap (put_on (fill_from (suc i) (put_on q v i) p) u) e

pub filled-snoc : (p : List ℕ) (u : ℕ) → filled_by (p ++ (u ∷ [])) ≡ put_on (filled_by p) u (length p)
unfolding filled_by
filled-snoc p u = let e : 0 + length p ≡ length p = omega arith in fill-snoc 0 start_filled p u ∙ ap (put_on (fill_from 0 start_filled p) u) e

module _ (q : Filled) (f : Formed q) (u i : ℕ) (l : i < most_steps) where
  pub put-formed : Formed (put_on q u i)
  unfolding put_on
  put-formed = formed-placed q f i (record { 0 = u }) l

  pub put-steps : (x : ℕ) → has (put_on q u i).steps x ≡ filled_with q i x
  unfolding put_on
  put-steps x = placed-filled q i (record { 0 = u }) l f.small x

  pub put-who : (x : ℕ) → who_in (put_on q u i) x ≡ who_with q i u x
  unfolding put_on
  put-who x = placed-who q i (record { 0 = u }) l (omega (arith, f.long)) x

fill-formed : (i : ℕ) (q : Filled) (us : List ℕ) → Formed q → i + length us ≤ most_steps → Formed (fill_from i q us)
unfolding fill_from
fill-formed i q [] f h = f
fill-formed i q (u ∷ us) f h = fill-formed (suc i) (put_on q u i) us (put-formed q f u i (omega arith)) (omega arith)

-- the first steps are filled
fill-steps : (i : ℕ) (q : Filled) (us : List ℕ) → Formed q → i + length us ≤ most_steps → ((x : ℕ) → has q.steps x ≡ ltb x i)
    → (x : ℕ) → has (fill_from i q us).steps x ≡ ltb x (i + length us)
unfolding fill_from
fill-steps i q [] f h e x = let z : i ≡ i + 0 = omega arith in e x ∙ ap (ltb x) z
fill-steps i q (u ∷ us) f h e x =
    let z : suc i + length us ≡ i + suc (length us) = omega arith in
    fill-steps (suc i) (put_on q u i) us (put-formed q f u i (omega arith)) (omega arith)
    (λ y. put-steps q f u i (omega arith) y ∙ ap (λ (d : Bool). d || eqb y i) (e y) ∙ next y (ℕ_discrete y i) (dec_lt y i)) x
    ∙ ap (ltb x) z
  where
    next : (y : ℕ) → Dec (y ≡ i) → Dec (y < i) → ltb y i || eqb y i ≡ ltb y (suc i)
    next y (yes k) d = ap₂ ◌||◌ (le-ltb y i (omega arith)) (eq-eqb y i k) ∙ sym (lt-ltb y (suc i) (omega arith))
    next y (no k) (yes d) = ap₂ ◌||◌ (lt-ltb y i d) (ne_eqb y i k) ∙ sym (lt-ltb y (suc i) (omega arith))
    next y (no k) (no d) = ap₂ ◌||◌ (le-ltb y i (omega arith)) (ne_eqb y i k) ∙ sym (le-ltb y (suc i) (omega arith))

-- by whom
fill-kept : (i : ℕ) (q : Filled) (us : List ℕ) → Formed q → i + length us ≤ most_steps → (x : ℕ) → x < i → who_in (fill_from i q us) x ≡ who_in q x
unfolding fill_from
fill-kept i q [] f h x l = refl
fill-kept i q (u ∷ us) f h x l =
    fill-kept (suc i) (put_on q u i) us (put-formed q f u i (omega arith)) (omega arith) x (omega arith)
    ∙ put-who q f u i (omega arith) x
    ∙ ap (λ (d : Bool). pick d u (who_in q x)) (ne_eqb x i (λ e. omega arith))

fill-who : (i : ℕ) (q : Filled) (us : List ℕ) → Formed q → i + length us ≤ most_steps → (j : ℕ) → j < length us → who_in (fill_from i q us) (i + j) ≡ get_or us j 0
unfolding fill_from
fill-who i q [] f h j l = absurd (not-suc-le-zero l)
fill-who i q (u ∷ us) f h zero l =
    let z : i + 0 ≡ i = omega arith in
    ap (who_in (fill_from (suc i) (put_on q u i) us)) z
    ∙ fill-kept (suc i) (put_on q u i) us (put-formed q f u i (omega arith)) (omega arith) i (omega arith)
    ∙ put-who q f u i (omega arith) i
    ∙ ap (λ (d : Bool). pick d u (who_in q i)) (eq-eqb i i refl)
fill-who i q (u ∷ us) f h (suc j) l =
    let z : i + suc j ≡ suc i + j = omega arith in
    ap (who_in (fill_from (suc i) (put_on q u i) us)) z ∙ fill-who (suc i) (put_on q u i) us (put-formed q f u i (omega arith)) (omega arith) j (omega arith)

-- what stands behind is as at the start
fill-beyond : (i : ℕ) (q : Filled) (us : List ℕ) → Formed q → i + length us ≤ most_steps → (x : ℕ) → i + length us ≤ x → who_in (fill_from i q us) x ≡ who_in q x
unfolding fill_from
fill-beyond i q [] f h x l = refl
fill-beyond i q (u ∷ us) f h x l =
    fill-beyond (suc i) (put_on q u i) us (put-formed q f u i (omega arith)) (omega arith) x (omega arith)
    ∙ put-who q f u i (omega arith) x
    ∙ ap (λ (d : Bool). pick d u (who_in q x)) (ne_eqb x i (λ e. omega arith))

nobody-first : (x : ℕ) → who_in start_filled x ≡ 0
unfolding who_in
nobody-first x = ap (λ (v : Person). v.0) (go (dec_lt x most_steps))
  where
    go : Dec (x < most_steps) → get_or (replicate most_steps zero_person) x zero_person ≡ zero_person
    go (yes l) = get_or-replicate most_steps x zero_person zero_person l
    go (no l) = let k : length (replicate most_steps zero_person) ≤ x = omega (arith, length-replicate most_steps zero_person) in get_or-eq_default (replicate most_steps zero_person) zero_person k

module _ (p : List ℕ) (h : length p ≤ most_steps) where
  pub filled-formed : Formed (filled_by p)
  unfolding filled_by
  filled-formed = fill-formed 0 start_filled p formed-start (omega arith)

  pub filled-steps : (x : ℕ) → has (filled_by p).steps x ≡ ltb x (length p)
  unfolding filled_by
  filled-steps x =
      let z : 0 + length p ≡ length p = omega arith in
      fill-steps 0 start_filled p formed-start (omega arith) (λ y. start-empty y ∙ sym (le-ltb y 0 (omega arith))) x ∙ ap (ltb x) z

  pub filled-who : (x : ℕ) → x < length p → who_in (filled_by p) x ≡ get_or p x 0
  unfolding filled_by
  filled-who x l = let z : x ≡ 0 + x = omega arith in ap (who_in (fill_from 0 start_filled p)) z ∙ fill-who 0 start_filled p formed-start (omega arith) x l

  pub filled_at : (x : ℕ) → who_in (filled_by p) x ≡ get_or p x 0
  unfolding filled_by
  filled_at x = go (dec_lt x (length p))
    where
      go : Dec (x < length p) → who_in (fill_from 0 start_filled p) x ≡ get_or p x 0
      go (yes l) = filled-who x l
      go (no l) = fill-beyond 0 start_filled p formed-start (omega arith) x (omega arith) ∙ nobody-first x ∙ sym (let k : length p ≤ x = omega arith in get_or-eq_default p 0 k)

  -- the rules hold of both
  pub filled-holds : (c : Case) → rules_hold c (has (filled_by p).steps) (who_in (filled_by p)) ≡ holds c p
  unfolding holds
  filled-holds c =
      same (rules_hold c (has (filled_by p).steps) (who_in (filled_by p))) (rules_hold c (λ i. ltb i (length p)) (λ i. get_or p i 0))
      (hold-fewer c (λ i. ltb i (length p)) (has (filled_by p).steps) (λ i. get_or p i 0) (who_in (filled_by p))
      (λ x e. (filled-steps x ∙ e, filled-who x (ltb-true x (length p) e))))
      (hold-fewer c (has (filled_by p).steps) (λ i. ltb i (length p)) (who_in (filled_by p)) (λ i. get_or p i 0)
      (λ x e. let k = sym (filled-steps x) ∙ e in (k, sym (filled-who x (ltb-true x (length p) k)))))

module _ (c : Case) (p : List ℕ) (v : Valid c p) where
  -- a valid position is no longer than the chain
  pub valid-short : length p ≤ steps c
  valid-short = go (length p) refl
    where
      go : (n : ℕ) → length p ≡ n → length p ≤ steps c
      go zero e = omega arith
      go (suc n) e = omega (arith, may-step c (get_or p n 0) n (v.able n (omega arith)))

  pub valid-sound : Ready c → Sound c (filled_by p)
  valid-sound ready =
      let h : length p ≤ most_steps = omega (arith, valid-short, ready.counts.steps) in
      record {
        listed = no_more most_steps (steps c) (filled_by p).steps ready.counts.steps (filled-formed p h).small
            (λ x k l. filled-steps p h x ∙ le-ltb x (length p) (omega (arith, valid-short)));
        known = λ x e.
            let l = ltb-true x (length p) (sym (filled-steps p h x) ∙ e) in
            omega (arith, filled-who p h x l, may-known c (get_or p x 0) x (v.able x l));
        kept = filled-holds p h c ∙ v.kept;
      }
