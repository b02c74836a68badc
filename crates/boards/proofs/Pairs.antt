-- The four kinds of pairs, the test of a single rule, and of those that a step completes.
use mathlib.Core.Path.{◌≡◌, refl, sym, ap, ap₂, ◌∙◌}
use mathlib.Core.Bool.{Bool, true, false, not, ◌&&◌, ◌||◌}
use mathlib.Core.List.{List, [], ◌∷◌, ◌++◌, append-nil}
use Prim.Native.Nat.{ℕ, ◌<◌, ◌^◌}
use borrow.Author.Tests.{eq-eqb, ne_eqb}
use lib.Dec.{eqb}
use Rattle.sets.specs.Lists.{pick, from, upto, keep, all, any}
use Rattle.sets.specs.Sets.{has, set_of, members, common, difference, joined, with}
use Rattle.sets.specs.Stored.{width, set_at}
use Rattle.sets.proofs.Lists.{and-true-end, or-false-end, true-or, from-lo, from-append, keep_append, keep-nothing}
use Rattle.sets.proofs.Bits.{has-beyond, has-empty}
use Rattle.sets.proofs.Counting.{has-set_of, set_of-has, set_of-ext}
use Rattle.cases.specs.declared.Filled.{Filled}
use Rattle.cases.specs.declared.Rule.{Rule}
use Rattle.cases.specs.Case.{most_steps, most_rules}
use Rattle.cases.specs.Rules.{steps_in}
use Rattle.cases.specs.Filled.{who_in}
use Rattle.cases.proofs.Rules.{needed-as-one}
use Rattle.boards.specs.Board.{row_place, column_place, loops_place, rule_on, due_on, pair_on, every_pair_on, some_pair_on, kept_on, fits_on}
use Rattle.boards.specs.Looked.{Agree}
use Rattle.boards.proofs.Looked.{due-agree, kept-agree}

module _ (b : List ℕ) (p : Filled) (s k y x : ℕ) where
  abbrev row : ℕ
  row = set_at b (row_place k (who_in p y))

  -- y is the step or not, and x is it or not
  pub pair-as : (c d : Bool) → eqb y s ≡ c → eqb x s ≡ d
      → pick c (pick d (set_at b (loops_place k)) (set_at b (column_place k (who_in p x)))) (pick d row (set_of (λ u. has row (who_in p x)) width))
      ≡ pair_on b p s k y x
  unfolding pair_on
  pair-as c d e f = rw (e, f)

  pub pair-next : y ≡ s → x ≡ s → set_at b (loops_place k) ≡ pair_on b p s k y x
  pair-next e f = pair-as true true (eq-eqb y s e) (eq-eqb x s f)

  module _ (v : ℕ) (w : v ≡ who_in p x) (f : x ≡ s → ⊥) where
    pub pair-column : y ≡ s → set_at b (column_place k v) ≡ pair_on b p s k y x
    pair-column e = ap (λ (z : ℕ). set_at b (column_place k z)) w ∙ pair-as true false (eq-eqb y s e) (ne_eqb x s f)

    pub pair-filled : (u r : ℕ) → u ≡ who_in p y → r ≡ set_at b (row_place k u) → (y ≡ s → ⊥)
        → set_of (λ o. has r v) width ≡ pair_on b p s k y x
    pair-filled u r h q e =
        ap₂ (λ (o z : ℕ). set_of (λ i. has o z) width) (q ∙ ap (λ (z : ℕ). set_at b (row_place k z)) h) w
        ∙ pair-as false false (ne_eqb y s e) (ne_eqb x s f)

  pub pair_row : (u : ℕ) → u ≡ who_in p y → (y ≡ s → ⊥) → x ≡ s → set_at b (row_place k u) ≡ pair_on b p s k y x
  pair_row u h e f = ap (λ (z : ℕ). set_at b (row_place k z)) h ∙ pair-as false true (ne_eqb y s e) (eq-eqb x s f)

-- ---- sets of steps

-- a set of steps has no member past the steps
pub steps-wide : (g : ℕ) → g < 2 ^ most_steps → members 32 g ≡ steps_in g
unfolding steps_in members upto
steps-wide g h =
    ap (keep (has g)) (from-append 0 8 24) ∙ keep_append (has g) (from 0 8) (from 8 24)
    ∙ ap (λ (l : List ℕ). keep (has g) (from 0 8) ++ l) (keep-nothing (has g) (from 8 24) (λ x m. has-beyond 8 g x h (from-lo 8 24 x m)))
    ∙ append-nil (keep (has g) (from 0 8))

-- ---- the test of a single rule: form 2 needs some pair, the others every pair

-- not every one fails: some passes
not-all : (f : ℕ → Bool) (l : List ℕ) → not (all (λ x. not (f x)) l) ≡ any f l
unfolding all any
not-all f [] = refl
not-all f (x ∷ l) = at (f x) (not-all f l)
  where
    at : (c : Bool) → not (all (λ y. not (f y)) l) ≡ any f l → not (not c && all (λ y. not (f y)) l) ≡ c || any f l
    at true e = refl
    at false e = e

abbrev pub pair_test : List ℕ → Filled → ℕ → Rule → ℕ → ℕ → Bool
pair_test b p s r x u = has (pair_on b p s r.relation r.step.0 x) u

pub pair-here : (b : List ℕ) (p : Filled) (s k y x here : ℕ) → here ≡ pair_on b p s k y x → (u : ℕ) → u < width → has here u ≡ has (pair_on b p s k y x) u
pair-here b p s k y x here q u l = ap (λ (z : ℕ). has z u) q

module _ (b : List ℕ) (p : Filled) (s : ℕ) (r : Rule) where
  abbrev test : ℕ → ℕ → Bool
  test = pair_test b p s r

  kept-as : (c : Bool) → eqb r.form 2 ≡ c → pick c (some_pair_on b p s r) (every_pair_on b p s r) ≡ set_of (kept_on b p s r) width
  unfolding kept_on some_pair_on every_pair_on
  kept-as true e = set_of-ext _ _ width (λ u l. rw (needed-as-one r.form (λ x. test x u) (steps_in r.group), e))
  kept-as false e = set_of-ext _ _ width (λ u l. rw (needed-as-one r.form (λ x. test x u) (steps_in r.group), e))

  pub kept-some : (n : ℕ) → n ≡ some_pair_on b p s r → r.form ≡ 2 → n ≡ set_of (kept_on b p s r) width
  kept-some n q e = q ∙ kept-as true (eq-eqb r.form 2 e)

  pub kept-every : (n : ℕ) → n ≡ every_pair_on b p s r → (r.form ≡ 2 → ⊥) → n ≡ set_of (kept_on b p s r) width
  kept-every n q e = q ∙ kept-as false (ne_eqb r.form 2 e)

  -- X has one member: every form asks for the pair with it
  pub kept-one : (x n : ℕ) → r.group < 2 ^ most_steps → members 32 r.group ≡ x ∷ [] → n ≡ pair_on b p s r.relation r.step.0 x → n < 2 ^ width → n ≡ set_of (kept_on b p s r) width
  unfolding kept_on all any
  kept-one x n small e q fits =
      sym (set_of-has width n fits)
      ∙ set_of-ext _ _ width
      (λ u l. ap (λ (z : ℕ). has z u) q ∙ sym (alone (eqb r.form 2) (test x u))
      ∙ ap (λ (m : List ℕ). pick (eqb r.form 2) (any (λ y. test y u) m) (all (λ y. test y u) m)) (sym e ∙ steps-wide r.group small)
      ∙ sym (needed-as-one r.form (λ y. test y u) (steps_in r.group)))
    where
      alone : (c d : Bool) → pick c (d || false) (d && true) ≡ d
      alone true d = or-false-end d
      alone false d = and-true-end d

  -- what the loops over the pairs end with, begun with everybody
  module _ (small : r.group < 2 ^ most_steps) (among : ℕ) (whole : among ≡ set_of (λ u. true) width) where
    everyone : (f : ℕ → Bool) → set_of (λ u. has among u && f u) width ≡ set_of f width
    everyone f = set_of-ext _ _ width (λ u l. ap (λ (x : Bool). x && f u) (ap (λ (z : ℕ). has z u) whole ∙ has-set_of (λ v. true) width u l))

    pub every-pair : (n : ℕ) → n ≡ set_of (λ u. has among u && all (λ x. test x u) (members 32 r.group)) width → n ≡ every_pair_on b p s r
    unfolding every_pair_on
    every-pair n q = q ∙ everyone (λ u. all (λ x. test x u) (members 32 r.group)) ∙ ap (λ (l : List ℕ). set_of (λ u. all (λ x. test x u) l) width) (steps-wide r.group small)

    -- whoever is out is in no pair
    none_out : (out : ℕ) → out ≡ set_of (λ u. has among u && all (λ x. not (test x u)) (members 32 r.group)) width
        → (u : ℕ) → u < width → not (has out u) ≡ any (λ x. test x u) (steps_in r.group)
    none_out out q u l =
        ap not (ap (λ (z : ℕ). has z u) (q ∙ everyone (λ v. all (λ x. not (test x v)) (members 32 r.group))) ∙ has-set_of (λ v. all (λ x. not (test x v)) (members 32 r.group)) width u l)
        ∙ not-all (λ x. test x u) (members 32 r.group)
        ∙ ap (any (λ x. test x u)) (steps-wide r.group small)

    pub some_pair : (out n : ℕ) → out ≡ set_of (λ u. has among u && all (λ x. not (test x u)) (members 32 r.group)) width → n ≡ difference width among out → n ≡ some_pair_on b p s r
    unfolding some_pair_on
    some_pair out n q e =
        e ∙ set_of-ext _ _ width
        (λ u l. ap₂ ◌&&◌ (ap (λ (z : ℕ). has z u) whole ∙ has-set_of (λ v. true) width u l) (none_out out q u l))

    -- nobody is out
    pub some-pair-all : (out n : ℕ) → out ≡ set_of (λ u. has among u && all (λ x. not (test x u)) (members 32 r.group)) width → out ≡ 0 → n ≡ set_of (λ u. true) width
        → n ≡ some_pair_on b p s r
    unfolding some_pair_on
    some-pair-all out n q z e = e ∙ set_of-ext _ _ width (λ u l. sym (ap not (ap (λ (x : ℕ). has x u) z ∙ has-empty u)) ∙ none_out out q u l)

-- ---- the rules that a step completes

abbrev pub due_test : List ℕ → Filled → ℕ → ℕ → ℕ → Bool
due_test b p s i u = kept_on b p s (rule_on b i) u

pub due-here : (b : List ℕ) (p : Filled) (s i here : ℕ) (r : Rule) → here ≡ set_of (kept_on b p s r) width → r ≡ rule_on b i → (u : ℕ) → u < width
    → has here u ≡ due_test b p s i u
due-here b p s i here r q e u l = ap (λ (z : ℕ). has z u) q ∙ has-set_of (kept_on b p s r) width u l ∙ ap (λ z. kept_on b p s z u) e

pub fits-are : (b : List ℕ) (p : Filled) (s among n : ℕ) → n ≡ set_of (λ u. has among u && all (λ i. due_test b p s i u) (members most_rules (due_on b p s))) width
    → n ≡ common width among (fits_on b p s)
unfolding fits_on
fits-are b p s among n q =
    q ∙ set_of-ext _ _ width (λ u l. ap (λ (x : Bool). has among u && x) (sym (has-set_of (λ v. all (λ i. due_test b p s i v) (members most_rules (due_on b p s))) width u l)))

-- no rule is due: everybody fits
pub all_fit : (b : List ℕ) (p : Filled) (s among : ℕ) → among < 2 ^ width → due_on b p s ≡ 0 → among ≡ common width among (fits_on b p s)
unfolding members all
all_fit b p s among l e =
    fits-are b p s among among
    (sym (set_of-has width among l)
    ∙ set_of-ext _ _ width (λ u k. sym (ap (λ (xs : List ℕ). has among u && all (λ i. due_test b p s i u) xs) (ap (members most_rules) e ∙ keep-nothing (has 0) (upto most_rules) (λ x m. has-empty x)) ∙ and-true-end (has among u))))

-- ---- from positions that agree at the steps of the rules asked

module _ (b : List ℕ) {L : ℕ} {p q : Filled} (a : Agree L p q) (s : ℕ) where
  -- rule i, whose steps are among those looked at: those who keep it from p keep it from q
  pub due-told : (i here M : ℕ) (r : Rule) → L ≡ joined most_steps M (with most_steps r.group r.step.0) → here ≡ set_of (kept_on b p s r) width → r ≡ rule_on b i
      → (u : ℕ) → u < width → has here u ≡ due_test b q s i u
  due-told i here M r d e f u l =
      due-here b p s i here r e f u l
      ∙ ap (λ x. kept_on b p s x u) (sym f)
      ∙ sym (kept-agree b a s r (λ x k h. ap (λ (z : ℕ). has z x) d ∙ has-set_of (λ w. has M w || has (with most_steps r.group r.step.0) w) most_steps x k ∙ true-or (has M x) _ h) u)
      ∙ ap (λ x. kept_on b q s x u) f

  pub fits-due : (due among n : ℕ) → due ≡ due_on b p s → n ≡ set_of (λ u. has among u && all (λ i. due_test b q s i u) (members 32 due)) width → n ≡ common width among (fits_on b q s)
  fits-due due among n d e = fits-are b q s among n (e ∙ ap (λ (x : ℕ). set_of (λ u. has among u && all (λ i. due_test b q s i u) (members most_rules x)) width) (d ∙ sym (due-agree b a s)))
