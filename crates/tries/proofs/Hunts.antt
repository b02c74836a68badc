-- The walks of `games` on a board, each as a scan of the line at a position.
use mathlib.Core.Path.{◌≡◌, refl, sym, ap, ◌∙◌}
use mathlib.Core.Option.{Option, none, some}
use mathlib.Core.Bool.{Bool, true, false}
use mathlib.Core.List.{List, [], ◌∷◌}
use Prim.Native.Nat.{ℕ, suc, ◌+◌, ◌-◌, ◌≤◌, ◌^◌}
use native.Mathlib.Omega.{arith}
use borrow.Author.Tests.{eqb-true, eqb-false}
use lib.Dec.{eqb}
use Rattle.sets.specs.Lists.{pick, only_if, cons_if, keep}
use Rattle.sets.specs.Sets.{has}
use Rattle.games.specs.Walks.{Walk, Search, plus, or_else, seek, try, mark, tally}
use Rattle.games.proofs.Cuts.{plus-plus, plus-zero}
use Rattle.games.proofs.Few.{few, few-plus, few-more, few-enough, few-none, no_more}
use Rattle.tries.proofs.Scans.{Step, stop, go, Hunt, turn, judged, scan}

-- ---- a person at a position: a trial where allowed, judged where every rule holds

abbrev pub trial : {B : Type 0} → Bool → Bool → Search B → Search B
trial true true w = plus 1 w
trial true false w = record { got = none; trials = 1 }
trial false f w = record { got = none; trials = 0 }

module _ {B : Type 0} where
  one-sought : (w : Search B) → or_else w.got w.trials (λ _. record { got = none; trials = 0 }) ≡ w
  unfolding or_else plus
  one-sought w = at w.got w.trials
    where
      at : (o : Option B) (c : ℕ) → or_else o c (λ _. record { got = none; trials = 0 }) ≡ record { got = o; trials = c }
      at (some b) c = refl
      at none c = let e : c + 0 ≡ c = omega arith in ap (λ (x : ℕ). record { got = none; trials = x }) e

  -- a person's only move, tried and told on
  pub told-once : {C M P : Type 0} (tell : M → Search C → Search B) (judge : P → Search C) (place : M → Option P) (a f : Bool) (q : P) (u : M)
      → tell u (record { got = none; trials = 1 }) ≡ record { got = none; trials = 1 } → tell u (plus 1 (judge q)) ≡ plus 1 (tell u (judge q)) → place u ≡ only_if f q
      → seek (λ m. tell m (try judge (place m))) (cons_if a u []) ≡ trial a f (tell u (judge q))
  unfolding seek try
  told-once tell judge place true true q u e k l = one-sought (tell u (try judge (place u))) ∙ ap (λ o. tell u (try judge o)) l ∙ k
  told-once tell judge place true false q u e k l = one-sought (tell u (try judge (place u))) ∙ ap (λ o. tell u (try judge o)) l ∙ e
  told-once tell judge place false f q u e k l = refl

-- ---- stop at the first who gets something

abbrev pub first_found : {B : Type 0} → Option B → Unit {0} → Step (Option B) (Unit {0})
first_found none s = go tt
first_found (some b) s = stop (some b)

abbrev pub first : {B : Type 0} → (ℕ → Search B) → Hunt (Option B) (Option B) (Unit {0})
first sub = record { sub = sub; step = λ u a s. first_found a s; last = λ s. none }

-- what a person's judging got in c trials, or else what the rest gets
found-or : {B : Type 0} (o : Option B) (c : ℕ) (x : Search B) (rest : Unit {0} → Search B) → x ≡ rest tt
    → or_else o (1 + c) (λ _. x) ≡ plus 1 (plus c (turn (first_found o tt) rest))
unfolding or_else plus
found-or (some b) c x rest e = let k : 1 + c ≡ 1 + (c + 0) = omega arith in ap (λ (n : ℕ). record { got = some b; trials = n }) k
found-or none c x rest e = ap (plus (1 + c)) e ∙ sym (plus-plus 1 c (rest tt))

pub seek-scan : {B : Type 0} (al fi : ℕ) (sub : ℕ → Search B) (us : List ℕ)
    → seek (λ u. trial (has al u) (has fi u) (sub u)) us ≡ scan (first sub) fi (keep (has al) us) tt
unfolding seek scan keep or_else plus
seek-scan al fi sub [] = refl
seek-scan {B} al fi sub (u ∷ us) = at (has al u) (has fi u) refl (seek-scan al fi sub us)
  where
    rest : Unit {0} → Search B
    rest = scan (first sub) fi (keep (has al) us)

    tail : Search B
    tail = seek (λ v. trial (has al v) (has fi v) (sub v)) us

    at : (a f : Bool) → has fi u ≡ f → tail ≡ rest tt
        → or_else (trial a f (sub u)).got (trial a f (sub u)).trials (λ _. tail) ≡ scan (first sub) fi (cons_if a u (keep (has al) us)) tt
    at true true q r =
        found-or (sub u).got (sub u).trials tail rest r
        ∙ ap (λ (b : Bool). plus 1 (pick b (judged (first sub) u tt rest) (rest tt))) (sym q)
    at true false q r = ap (plus 1) r ∙ ap (λ (b : Bool). plus 1 (pick b (judged (first sub) u tt rest) (rest tt))) (sym q)
    at false f q r = plus-zero tail ∙ r

-- ---- stop when more than t are found: those found are counted and shown

abbrev pub one_more : {B : Type 0} → ℕ → ℕ → Option B → ℕ × ℕ → Step (Option ℕ) (ℕ × ℕ)
one_more t u none s = go s
one_more t u (some b) s = pick (eqb s.0 t) (stop none) (go (s.0 + 1, s.1 + 2 ^ u))

abbrev pub counting : {B : Type 0} → ℕ → (ℕ → Search B) → Hunt (Option B) (Option ℕ) (ℕ × ℕ)
counting t sub = record { sub = sub; step = one_more t; last = λ s. some s.1 }

pub tally-scan : {B : Type 0} (t al fi : ℕ) (sub : ℕ → Search B) (us : List ℕ) (k S : ℕ) → k ≤ t
    → few t k S (tally (λ u. trial (has al u) (has fi u) (sub u)) us (suc (t - k))) ≡ scan (counting t sub) fi (keep (has al) us) (k, S)
unfolding tally mark scan keep plus
tally-scan t al fi sub [] k S h = few-none t k S h
tally-scan {B} t al fi sub (u ∷ us) k S h = at (λ j X l. tally-scan t al fi sub us j X l) (has al u) (has fi u) refl
  where
    f : ℕ → Search B
    f v = trial (has al v) (has fi v) (sub v)

    rest : ℕ × ℕ → Search ℕ
    rest = scan (counting t sub) fi (keep (has al) us)

    Again : Type 0
    Again = (j X : ℕ) → j ≤ t → few t j X (tally f us (suc (t - j))) ≡ rest (j, X)

    marked : Again → (o : Option B) (c : ℕ)
        → few t k S (mark o c u (λ v. tally f us v) (t - k)) ≡ plus c (turn (one_more t u o (k, S)) rest)
    marked again none c = few-plus t k S c (tally f us (suc (t - k))) ∙ ap (plus c) (again k S h)
    marked again (some b) c = counted (eqb k t) refl
      where
        counted : (e : Bool) → eqb k t ≡ e
            → few t k S (record { got = u ∷ (tally f us (t - k)).got; trials = c + (tally f us (t - k)).trials })
            ≡ plus c (turn (pick e (stop none) (go (k + 1, S + 2 ^ u))) rest)
        counted true q =
            let z : t - k ≡ 0 = omega (arith, eqb-true k t q) in
            ap (λ (w : ℕ). few t k S (record { got = u ∷ (tally f us w).got; trials = c + (tally f us w).trials })) z
            ∙ ap (λ (w : Walk (List ℕ)). few t k S (record { got = u ∷ w.got; trials = c + w.trials })) (no_more f us)
            ∙ ap (λ (j : ℕ). few t j S (record { got = u ∷ []; trials = c + 0 })) (eqb-true k t q)
            ∙ few-enough t S u (c + 0)
        counted false q =
            let l : suc k ≤ t = omega (arith, eqb-false k t q) in
            let z : t - k ≡ suc (t - (k + 1)) = omega arith in
            ap (λ (w : ℕ). few t k S (record { got = u ∷ (tally f us w).got; trials = c + (tally f us w).trials })) z
            ∙ few-more t k S u (c + (tally f us (suc (t - (k + 1)))).trials) (tally f us (suc (t - (k + 1))))
            ∙ few-plus t (k + 1) (S + 2 ^ u) c (tally f us (suc (t - (k + 1))))
            ∙ ap (plus c) (again (k + 1) (S + 2 ^ u) (omega arith))

    at : Again → (a b : Bool) → has fi u ≡ b
        → few t k S (mark (trial a b (sub u)).got (trial a b (sub u)).trials u (λ v. tally f us v) (t - k))
        ≡ scan (counting t sub) fi (cons_if a u (keep (has al) us)) (k, S)
    at again true true q =
        marked again (sub u).got (1 + (sub u).trials)
        ∙ sym (plus-plus 1 (sub u).trials (turn (one_more t u (sub u).got (k, S)) rest))
        ∙ ap (λ (x : Bool). plus 1 (pick x (judged (counting t sub) u (k, S) rest) (rest (k, S)))) (sym q)
    at again true false q = marked again none 1 ∙ ap (λ (x : Bool). plus 1 (pick x (judged (counting t sub) u (k, S) rest) (rest (k, S)))) (sym q)
    at again false b q = marked again none 0 ∙ plus-zero (rest (k, S))
