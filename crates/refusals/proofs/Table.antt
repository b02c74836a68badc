-- Checks against the scope's table: one law for every list of checks, and the laws of its two kinds of row.
use mathlib.Core.Path.{◌≡◌, refl, sym, ap, ◌∙◌}
use mathlib.Core.Logic.{inl, inr, ◌↔◌}
use mathlib.Core.Bool.{Bool, true, false, ◌&&◌, true≢false}
use mathlib.Core.Option.{Option, none, some}
use mathlib.Core.List.{List, [], ◌∷◌, ◌++◌}
use Prim.Native.Nat.{ℕ, ◌<◌}
use native.Mathlib.Omega.{arith}
use borrow.Author.Tests.{ltb-true}
use lib.Dec.{ltb}
use Rattle.sets.proofs.Lists.{and-true}
use Rattle.refusals.specs.declared.Refusal.{Refusal}
use Rattle.refusals.specs.Refusals.{Good, Refused}
use Rattle.refusals.specs.Refusals.{Check, refusal, judged_by, only_check, entry_check, refusal_at, found_first}
use Rattle.refusals.specs.Table.{Row, whole, Earliest, entries, Meets, Exactly}
use Rattle.refusals.proofs.Search.{found_some, some-found}
use Rattle.refusals.proofs.Order.{good-refused}

-- ---- A check tells a row

-- a check gives its refusal exactly where the row is met
pub record Tells (check : Check) (row : Row) : Type 0 where
  pub met : (r : Refusal) → check ≡ some r → (r.number ≡ row.number) × row.Met r.place
  pub tells : (place : ℕ) → row.Met place → check ≡ some (refusal row.number place)

-- checks tell a table, row by row
abbrev pub Told : List Check → List Row → Type 0
Told [] [] = Unit {0}
Told [] (row ∷ rows) = ⊥
Told (check ∷ checks) [] = ⊥
Told (check ∷ checks) (row ∷ rows) = Tells check row × Told checks rows

pub told-append : (xs ys : List Check) (rs ss : List Row) → Told xs rs → Told ys ss → Told (xs ++ ys) (rs ++ ss)
told-append [] ys [] ss h k = k
told-append (x ∷ xs) ys (r ∷ rs) ss h k = (h.0, told-append xs ys rs ss h.1 k)
told-append [] ys (r ∷ rs) ss h k = absurd h
told-append (x ∷ xs) ys [] ss h k = absurd h

-- a number is below those of all rows
abbrev pub below : ℕ → List Row → Bool
below n [] = true
below n (row ∷ rows) = ltb n row.number && below n rows

-- the numbers of a table rise
abbrev pub rising : List Row → Bool
rising [] = true
rising (row ∷ rows) = below row.number rows && rising rows

below-meets : (n m p : ℕ) (rows : List Row) → below n rows ≡ true → Meets rows m p → n < m
below-meets n m p [] h k = absurd k
below-meets n m p (row ∷ rows) h (inl k) = omega (arith, ltb-true n row.number (and-true (ltb n row.number) (below n rows) h).0, k.0)
below-meets n m p (row ∷ rows) h (inr k) = below-meets n m p rows (and-true (ltb n row.number) (below n rows) h).1 k

-- ---- The one law

-- a check that gives nothing: its row is met nowhere
untold : (check : Check) (row : Row) → Tells check row → check ≡ none → (p : ℕ) → row.Met p → ⊥
untold check row t e p m = let q = t.tells p m in let z : ◌≡◌ {A = ℕ} 0 1 = cc in omega arith

no-refusal : {r : Refusal} → Good ≡ Refused r → ⊥
no-refusal e = good-refused refl e

refused-same : {r s : Refusal} → Refused r ≡ Refused s → r ≡ s
refused-same {r} {s} e = cc

is-given : (checks : List Check) (rows : List Row) → Told checks rows → rising rows ≡ true → (r : Refusal) → judged_by checks ≡ Refused r
    → Meets rows r.number r.place × ((m p : ℕ) → m < r.number → Meets rows m p → ⊥)
unfolding judged_by
is-given [] [] t h r e = absurd (no-refusal e)
is-given [] (row ∷ rows) t h r e = absurd t
is-given (x ∷ checks) [] t h r e = absurd t
is-given (none ∷ checks) (row ∷ rows) t h r e =
    let k = is-given checks rows t.1 (and-true (below row.number rows) (rising rows) h).1 r e in
    (inr k.0, λ m p l. other m p l k)
  where
    other : (m p : ℕ) → m < r.number → Meets rows r.number r.place × ((m p : ℕ) → m < r.number → Meets rows m p → ⊥)
        → Meets (row ∷ rows) m p → ⊥
    other m p l k (inl q) = untold none row t.0 refl p q.1
    other m p l k (inr q) = k.1 m p l q
is-given (some s ∷ checks) (row ∷ rows) t h r e = (inl (here.0, here.1), lower)
  where
    here : (r.number ≡ row.number) × row.Met r.place
    here = t.0.met r (ap some (refused-same e))

    lower : (m p : ℕ) → m < r.number → Meets (row ∷ rows) m p → ⊥
    lower m p l (inl q) = omega (arith, q.0, here.0)
    lower m p l (inr q) = omega (arith, below-meets row.number m p rows (and-true (below row.number rows) (rising rows) h).0 q, here.0)

give : (checks : List Check) (rows : List Row) → Told checks rows → rising rows ≡ true → (n p : ℕ) → Meets rows n p
    → ((m q : ℕ) → m < n → Meets rows m q → ⊥) → judged_by checks ≡ Refused (refusal n p)
unfolding judged_by
give [] [] t h n p k l = absurd k
give [] (row ∷ rows) t h n p k l = absurd t
give (x ∷ checks) [] t h n p k l = absurd t
give (none ∷ checks) (row ∷ rows) t h n p (inl k) l = absurd (untold none row t.0 refl p k.1)
give (none ∷ checks) (row ∷ rows) t h n p (inr k) l =
    give checks rows t.1 (and-true (below row.number rows) (rising rows) h).1 n p k (λ m q g w. l m q g (inr w))
give (some s ∷ checks) (row ∷ rows) t h n p (inl k) l =
    let e = t.0.tells p k.1 in
    let f = k.0 in
    let g : s ≡ refusal n p = cc in
    ap Refused g
give (some s ∷ checks) (row ∷ rows) t h n p (inr k) l =
    let here = t.0.met s refl in
    let z = below-meets row.number n p rows (and-true (below row.number rows) (rising rows) h).0 k in
    absurd (l row.number s.place z (inl (refl, here.1)))

is-good : (checks : List Check) (rows : List Row) → Told checks rows → judged_by checks ≡ Good → (n p : ℕ) → Meets rows n p → ⊥
unfolding judged_by
is-good [] [] t e n p k = k
is-good [] (row ∷ rows) t e n p k = t
is-good (x ∷ checks) [] t e n p k = t
is-good (none ∷ checks) (row ∷ rows) t e n p (inl k) = untold none row t.0 refl p k.1
is-good (none ∷ checks) (row ∷ rows) t e n p (inr k) = is-good checks rows t.1 e n p k
is-good (some s ∷ checks) (row ∷ rows) t e n p k = good-refused e refl

good : (checks : List Check) (rows : List Row) → Told checks rows → ((n p : ℕ) → Meets rows n p → ⊥) → judged_by checks ≡ Good
unfolding judged_by
good [] [] t h = refl
good [] (row ∷ rows) t h = absurd t
good (x ∷ checks) [] t h = absurd t
good (none ∷ checks) (row ∷ rows) t h = good checks rows t.1 (λ n p k. h n p (inr k))
good (some s ∷ checks) (row ∷ rows) t h = absurd (h row.number s.place (inl (refl, (t.0.met s refl).1)))

-- checks that tell a table whose numbers rise judge by it exactly
pub exactly : (checks : List Check) (rows : List Row) → Told checks rows → rising rows ≡ true → Exactly rows (judged_by checks)
exactly checks rows t h =
    record {
      given = λ n p. (is-given checks rows t h (refusal n p), λ k. give checks rows t h n p k.0 k.1);
      good = (is-good checks rows t, good checks rows t);
    }

-- ---- The two kinds of row

pub only-tells : (n : ℕ) (met : Bool) (Fails : Type 0) → (met ≡ true) ↔ Fails → Tells (only_check n met) (whole n Fails)
only-tells n true Fails h =
    record {
      met = λ r e. let q : refusal n 0 ≡ r = cc in (sym (ap (λ s. s.number) q), (sym (ap (λ s. s.place) q), h.0 refl));
      tells = λ p k. ap (λ q. some (refusal n q)) (sym k.0);
    }
only-tells n false Fails h =
    record {
      met = λ r e. let z : ◌≡◌ {A = ℕ} 0 1 = cc in absurd (let o : ⊥ = omega arith in o);
      tells = λ p k. absurd (true≢false (sym (h.1 k.1)));
    }

module _ (n m : ℕ) (place_of : ℕ → ℕ) (fails : ℕ → Bool) (Fails : ℕ → Type 0) (h : (i : ℕ) → i < m → (fails i ≡ true) ↔ Fails i) where
  -- where an entry does not fail, its condition is not met
  passes : (i : ℕ) → i < m → fails i ≡ false → Fails i → ⊥
  passes i l e k = true≢false (sym ((h i l).1 k) ∙ e)

  fails-not : (i : ℕ) → i < m → (Fails i → ⊥) → fails i ≡ false
  fails-not i l k = go (fails i) refl
    where
      go : (b : Bool) → fails i ≡ b → fails i ≡ false
      go false q = q
      go true q = absurd (k ((h i l).0 q))

  entry-met : (o : Option ℕ) → found_first fails m ≡ o → (r : Refusal) → refusal_at n place_of o ≡ some r
      → (r.number ≡ n) × Earliest m place_of Fails r.place
  entry-met none e r q = let z : ◌≡◌ {A = ℕ} 0 1 = cc in absurd (let o : ⊥ = omega arith in o)
  entry-met (some i) e r q =
      let f = found_some fails m i e in
      let g : refusal n (place_of i) ≡ r = cc in (
        sym (ap (λ s. s.number) g),
        record {
          index = i;
          listed = f.0;
          placed = sym (ap (λ s. s.place) g);
          fails = (h i f.0).0 f.1;
          earliest = λ j l. passes j (omega (arith, f.0)) (f.2 j l);
        },
      )

  pub entry-tells : Tells (entry_check n place_of fails m) (entries n m place_of Fails)
  entry-tells =
      record {
        met = entry-met (found_first fails m) refl;
        tells = λ p k.
            ap (refusal_at n place_of)
            (some-found fails m k.index k.listed ((h k.index k.listed).1 k.fails)
            (λ j l. fails-not j (omega (arith, k.listed)) (k.earliest j l)))
            ∙ ap (λ q. some (refusal n q)) (sym k.placed);
      }
