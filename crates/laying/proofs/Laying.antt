-- The parts, put onto a board one after the other, are the board of the case.
use mathlib.Core.Path.{◌≡◌, refl, sym, ap, ap₂, subst, ◌∙◌}
use mathlib.Core.Bool.{Bool, true, false, not, ◌&&◌, ◌||◌, true≢false}
use mathlib.Core.List.{List}
use Prim.Native.Nat.{ℕ, zero, suc, ◌+◌, ◌*◌, ◌^◌, ◌≤◌, ◌<◌}
use native.Mathlib.Nat.{mul-le-mul}
use native.Mathlib.Decide.{dec_lt}
use native.Mathlib.Omega.{arith}
use borrow.Author.Tests.{eq-eqb, lt-ltb, le-ltb, ltb-true, ltb-false}
use lib.Dec.{eqb, ltb}
use lib.ListN.{get_or, get_or-eq_default}
use lib.Pow.{pow_pos}
use Rattle.sets.specs.Lists.{pick, upto, all}
use Rattle.sets.specs.Sets.{has, set_of, meets, everybody}
use Rattle.sets.specs.Stored.{width, set_at, number, no_people}
use Rattle.sets.proofs.Lists.{and-true, and-true-end, and-false-end, true-or, or-false-end, upto-in, all-cong}
use Rattle.sets.proofs.Bits.{has-empty, has-beyond}
use Rattle.sets.proofs.Counting.{set_of-lt, has-set_of, set_of-ext, is-set_of}
use Rattle.sets.proofs.Records.{number-none}
use Rattle.words.specs.Part.{table}
use Rattle.words.proofs.Parts.{length-table, get_or-table}
use Rattle.cases.specs.declared.Rule.{Rule}
use Rattle.cases.specs.declared.Case.{Case}
use Rattle.cases.specs.Case.{most_people, most_steps, most_tables, most_roles, most_rules, people, steps, tables, entry, row, roles_held, roles_for, zero_step, zero_rule}
use Rattle.cases.specs.Rules.{related}
use Rattle.cases.specs.Plans.{may}
use Rattle.cases.proofs.Rounds.{may-known, may-step, entry_at, entry_past}
use Rattle.boards.specs.Board.{relations, half_steps, halves, columns_from, loops_from, allowed_from, named_from, rules_from, ready_from, complete_from, places, row_place, half_step}
use Rattle.pieces.specs.declared.Order.{Order}
use Rattle.pieces.specs.declared.Order.TheVariants as order
use Rattle.pieces.specs.Pieces.{packed, related_in, row_in, gathered_in, column_in, having_in, loops_in, allowed_in, preceding_in, named_by, preceded_by, waits_in, free_in, half_in, laid_from}
use Rattle.pieces.proofs.Rows.{eqb-turned}
use Rattle.pieces.proofs.Writing.{blank}
use Rattle.laying.specs.declared.sizes.Sizes.{Sizes}
use Rattle.laying.specs.Laid.{names, pair_of, row_of, column_of, loops_of, allowed_of, named_of, preceding, packed_of, ready_of, complete_of, laid_out}
use Rattle.laying.specs.Ready.{Bounded}
use Rattle.laying.specs.Putting.{laid_blocks, Front, Sized}
use Rattle.laying.proofs.Places.{row_at, column-at, loops-at, allowed_at, named-at, rule-at, ready_at, complete-at, laid-length}
use Rattle.laying.proofs.TableWords.{words-end}
use Rattle.laying.proofs.Building.{front-start, front-from, front-blocks, front-end}

-- what is 0 unless a test holds
unless : (d : Bool) (x y : ℕ) → (d ≡ true → x ≡ y) → (d ≡ false → x ≡ 0) → x ≡ pick d y 0
unless true x y f g = f refl
unless false x y f g = g refl

-- a set that nobody is in
nobody : (f : ℕ → Bool) (w : ℕ) → ((v : ℕ) → v < w → f v ≡ false) → set_of f w ≡ (let z : ℕ = 0 in z)
nobody f w h = sym (is-set_of f w 0 (pow_pos w) (λ v l. has-empty v ∙ sym (h v l)))

and-turned : (a b x y : Bool) → x ≡ y → a && (b && x) ≡ b && (a && y)
and-turned true true x y e = e
and-turned true false x y e = refl
and-turned false true x y e = refl
and-turned false false x y e = refl

and-swap : (a b : Bool) → a && b ≡ b && a
and-swap true b = sym (and-true-end b)
and-swap false b = sym (and-false-end b)

or_swap : (a b : Bool) → a || b ≡ b || a
or_swap true b = sym (true-or b true refl)
or_swap false b = sym (or-false-end b)

pub rows_few : (t n : ℕ) → t ≤ most_tables → n ≤ most_people → t * n ≤ most_tables * most_people
rows_few t n h g = mul-le-mul h g

module _ (c : Case) (o : Order) (counts : Bounded c.counts) where
  abbrev b : List ℕ
  b = laid_out c o

  abbrev n : ℕ
  n = people c

  abbrev m : ℕ
  m = tables c + 2

  -- no pair but of people of the case, in a relation of the case
  pair-unknown : (k u v : ℕ) → ltb k m && ltb u n ≡ false → pair_of c k u v ≡ false
  unfolding pair_of
  pair-unknown k u v e = go (ltb k m) (ltb u n) e
    where
      go : (x y : Bool) → x && y ≡ false → x && (y && (ltb v n && related c k u v)) ≡ false
      go true true q = absurd (true≢false q)
      go true false q = refl
      go false y q = refl

  pair-known : (k u v : ℕ) → ltb k m ≡ true → ltb u n ≡ true → pair_of c k u v ≡ ltb v n && related c k u v
  unfolding pair_of
  pair-known k u v e q = ap₂ (λ (x y : Bool). x && (y && (ltb v n && related c k u v))) e q

  column-unknown : (k u v : ℕ) → ltb k m && ltb v n ≡ false → pair_of c k u v ≡ false
  unfolding pair_of
  column-unknown k u v e = go (ltb k m) (ltb v n) e
    where
      go : (x y : Bool) → x && y ≡ false → x && (ltb u n && (y && related c k u v)) ≡ false
      go true true q = absurd (true≢false q)
      go true false q = and-false-end (ltb u n)
      go false y q = refl

  -- "same person" and "different person" are the same both ways
  pair-turned : (k u v : ℕ) → k < 2 → pair_of c k u v ≡ pair_of c k v u
  unfolding pair_of related
  pair-turned zero u v h = ap (λ (d : Bool). ltb 0 m && d) (and-turned (ltb u n) (ltb v n) (eqb u v) (eqb v u) (eqb-turned u v))
  pair-turned (suc zero) u v h = ap (λ (d : Bool). ltb 1 m && d) (and-turned (ltb u n) (ltb v n) (not (eqb u v)) (not (eqb v u)) (ap not (eqb-turned u v)))
  pair-turned (suc (suc k)) u v h = absurd (omega arith)

  may_here : (u s : ℕ) → u < n → ltb s (steps c) ≡ true → may c u s ≡ meets most_roles (get_or c.people u 0) (get_or c.steps s zero_step).roles
  unfolding may roles_held roles_for entry
  may_here u s h e =
      ap₂ (λ (x y : Bool). meets most_roles (pick x (get_or c.people u 0) 0) (pick y (get_or c.steps s zero_step) zero_step).roles) (lt-ltb u n h) e

  preceding-here : (o : Order) (s : ℕ) → ltb s (steps c) ≡ true → preceding c o s ≡ preceding_in (get_or c.steps s zero_step) o s
  unfolding entry
  preceding-here order.Listed s e = refl
  preceding-here order.Chosen s e = ap (λ (d : Bool). (pick d (get_or c.steps s zero_step) zero_step).before) e

  -- ---- the rows

  module _ (words : List ℕ) (w : words ≡ table (λ i. number (entry no_people (tables c * n) c.rows i)) (most_tables * most_people)) where
    word_at : (i : ℕ) → set_at words i ≡ number (entry no_people (tables c * n) c.rows i)
    unfolding set_at
    word_at i = ap (λ (l : List ℕ). get_or l i 0) w ∙ go (dec_lt i (most_tables * most_people))
      where
        f : ℕ → ℕ
        f j = number (entry no_people (tables c * n) c.rows j)

        go : Dec (i < most_tables * most_people) → get_or (table f (most_tables * most_people)) i 0 ≡ f i
        go (yes h) = get_or-table f (most_tables * most_people) i 0 h
        go (no h) =
            get_or-eq_default (table f (most_tables * most_people)) 0 (omega (arith, length-table f (most_tables * most_people)))
            ∙ sym (ap number (entry_past no_people (tables c * n) c.rows i (omega (arith, rows_few (tables c) n counts.tables counts.people)))
            ∙ number-none)

    related-is : (k u v : ℕ) → ltb u n ≡ true → related_in words n k u v ≡ related c k u v
    unfolding related_in related row
    related-is zero u v e = refl
    related-is (suc zero) u v e = refl
    related-is (suc (suc k)) u v e =
        ap (λ (s : ℕ). has s v) (word_at (k * n + u) ∙ sym (ap (λ (d : Bool). pick d (number (entry no_people (tables c * n) c.rows (k * n + u))) 0) e))

    row-part : (k u : ℕ) → k < relations → u < most_people → get_or b (0 + (k * most_people + u)) 0 ≡ pick (ltb k m && ltb u n) (row_in words n k u) 0
    unfolding set_at row_of row_in
    row-part k u h l =
        let at : 0 + (k * most_people + u) ≡ k * most_people + u = omega arith in
        ap (λ (i : ℕ). get_or b i 0) at ∙ row_at c o k u h l
        ∙ unless (ltb k m && ltb u n) (set_of (λ v. pair_of c k u v) width) (set_of (λ v. ltb v n && related_in words n k u v) width)
        (λ e. set_of-ext _ _ width (λ v i. known v (and-true (ltb k m) (ltb u n) e)))
        (λ e. nobody _ width (λ v i. pair-unknown k u v e))
      where
        known : (v : ℕ) → (ltb k m ≡ true) × (ltb u n ≡ true) → pair_of c k u v ≡ ltb v n && related_in words n k u v
        known v e =
            pair-known k u v e.0 e.1 ∙ ap (λ (d : Bool). ltb v n && d) (sym (related-is k u v e.1))

  -- ---- what is read off the rows

  module _ (out : List ℕ) (a : ℕ) (front : Front b a out) (past : columns_from ≤ a) where
    row_has : (k u v : ℕ) → k < relations → u < most_people → v < width → has (set_at out (row_place k u)) v ≡ pair_of c k u v
    unfolding set_at row_of
    row_has k u v h l i =
        ap (λ (s : ℕ). has s v) (front.done (row_place k u) (omega arith) ∙ row_at c o k u h l) ∙ has-set_of (λ x. pair_of c k u x) width v i

    column-part : (k v : ℕ) → k < relations → v < most_people
        → get_or b (columns_from + (k * most_people + v)) 0 ≡ pick (ltb k m && ltb v n) (column_in out k v) 0
    unfolding set_at row_of column_of column_in gathered_in
    column-part k v h l =
        column-at c o k v h l
        ∙ unless (ltb k m && ltb v n) (set_of (λ u. pair_of c k u v) width) (pick (ltb k 2) (get_or out (row_place k v) 0) gathered)
        (λ e. either_way (dec_lt k 2))
        (λ e. nobody _ width (λ u i. column-unknown k u v e))
      where
        gathered : ℕ
        gathered = set_of (λ u. has (get_or out (row_place k u) 0) v) width

        either_way : Dec (k < 2) → set_of (λ u. pair_of c k u v) width ≡ pick (ltb k 2) (get_or out (row_place k v) 0) gathered
        either_way (yes i) =
            set_of-ext _ _ width (λ u j. pair-turned k u v i) ∙ sym (front.done (row_place k v) (omega arith) ∙ row_at c o k v h l)
            ∙ sym (ap (λ (d : Bool). pick d (get_or out (row_place k v) 0) gathered) (lt-ltb k 2 i))
        either_way (no i) =
            set_of-ext _ _ width (λ u j. sym (row_has k u v h j l))
            ∙ sym (ap (λ (d : Bool). pick d (get_or out (row_place k v) 0) gathered) (le-ltb k 2 (omega arith)))

    loops-part : (k : ℕ) → k < relations → get_or b (loops_from + k) 0 ≡ pick (ltb k m) (loops_in out n k) 0
    unfolding set_at loops_of pair_of related having_in
    loops-part k h =
        loops-at c o k h
        ∙ unless (ltb k m) (set_of (λ u. pair_of c k u u) width) (loops_in out n k) (λ e. known k h e)
        (λ e. nobody _ width (λ u i. pair-unknown k u u (ap (λ (d : Bool). d && ltb u n) e)))
      where
        own : (a d : Bool) → d ≡ true → a && (a && d) ≡ a
        own true d q = q
        own false d q = refl

        other : (a d : Bool) → d ≡ false → a && (a && d) ≡ false
        other true d q = q
        other false d q = refl

        known : (k : ℕ) → k < relations → ltb k m ≡ true → set_of (λ u. pair_of c k u u) width ≡ loops_in out n k
        known zero l e = set_of-ext _ _ width (λ u i. ap (λ (d : Bool). d && (ltb u n && (ltb u n && eqb u u))) e ∙ own (ltb u n) (eqb u u) (eq-eqb u u refl))
        known (suc zero) l e =
            nobody _ width (λ u i. ap (λ (d : Bool). d && (ltb u n && (ltb u n && not (eqb u u)))) e ∙ other (ltb u n) (not (eqb u u)) (ap not (eq-eqb u u refl)))
        known (suc (suc k)) l e = set_of-ext _ _ width (λ u i. sym (row_has (suc (suc k)) u u l i i))

  -- ---- the other parts

  allowed-part : (s : ℕ) → s < most_steps
      → get_or b (allowed_from + s) 0 ≡ pick (ltb s (steps c)) (allowed_in c.people n (get_or c.steps s zero_step).roles) 0
  unfolding set_at allowed_of allowed_in
  allowed-part s h =
      allowed_at c o s h
      ∙ unless (ltb s (steps c)) (set_of (λ u. may c u s) width)
      (set_of (λ u. ltb u n && meets most_roles (get_or c.people u 0) (get_or c.steps s zero_step).roles) width)
      (λ e. set_of-ext _ _ width (λ u i. known u e (dec_lt u n)))
      (λ e. nobody _ width (λ u i. unknown u e (may c u s) refl))
    where
      unknown : (u : ℕ) → ltb s (steps c) ≡ false → (d : Bool) → may c u s ≡ d → d ≡ false
      unknown u e false q = refl
      unknown u e true q = absurd (true≢false (sym (lt-ltb s (steps c) (may-step c u s q)) ∙ e))

      nothing : (u : ℕ) → (u < n → ⊥) → (d : Bool) → may c u s ≡ d → d ≡ false
      nothing u e false q = refl
      nothing u e true q = absurd (e (may-known c u s q))

      known : (u : ℕ) → ltb s (steps c) ≡ true → Dec (u < n)
          → may c u s ≡ ltb u n && meets most_roles (get_or c.people u 0) (get_or c.steps s zero_step).roles
      known u e (yes k) = may_here u s k e ∙ sym (ap (λ (d : Bool). d && meets most_roles (get_or c.people u 0) (get_or c.steps s zero_step).roles) (lt-ltb u n k))
      known u e (no k) =
          nothing u k (may c u s) refl
          ∙ sym (ap (λ (d : Bool). d && meets most_roles (get_or c.people u 0) (get_or c.steps s zero_step).roles) (le-ltb u n (omega arith)))

  module _ (named : List ℕ) (e : named ≡ table (waits_in (named_by c.rules) c.counts.rules) most_steps) where
    -- the rules that wait for a step are those that name it
    named-word : (x i : ℕ) → x < most_steps → i < most_rules → has (get_or named x 0) i ≡ ltb i c.counts.rules && names (get_or c.rules i zero_rule) x
    unfolding waits_in names
    named-word x i l k =
        ap (λ (z : ℕ). has z i) (ap (λ (w : List ℕ). get_or w x 0) e ∙ get_or-table (waits_in (named_by c.rules) c.counts.rules) most_steps x 0 l)
        ∙ has-set_of (λ j. has (named_by c.rules j) x && ltb j c.counts.rules) most_rules i k
        ∙ ap (λ (d : Bool). d && ltb i c.counts.rules) (has-set_of (λ w. has rule.group w || eqb w rule.step.0) most_steps x l ∙ turned)
        ∙ and-swap (eqb rule.step.0 x || has rule.group x) (ltb i c.counts.rules)
      where
        rule : Rule
        rule = get_or c.rules i zero_rule

        turned : has rule.group x || eqb x rule.step.0 ≡ eqb rule.step.0 x || has rule.group x
        turned = ap (λ (d : Bool). has rule.group x || d) (eqb-turned x rule.step.0) ∙ or_swap (has rule.group x) (eqb rule.step.0 x)

    named-part : (s : ℕ) → s < most_steps → get_or b (named_from + s) 0 ≡ pick (ltb s most_steps) (get_or named s 0) 0
    unfolding named_of waits_in
    named-part s h =
        named-at c o s h
        ∙ sym (is-set_of _ most_rules (get_or named s 0) small (λ i l. named-word s i h l))
        ∙ sym (ap (λ (d : Bool). pick d (get_or named s 0) 0) (lt-ltb s most_steps h))
      where
        small : get_or named s 0 < 2 ^ most_rules
        small =
            omega (
              arith,
              ap (λ (w : List ℕ). get_or w s 0) e ∙ get_or-table (waits_in (named_by c.rules) c.counts.rules) most_steps s 0 h,
              set_of-lt (λ i. has (named_by c.rules i) s && ltb i c.counts.rules) most_rules,
            )

    complete-part : (j : ℕ) → j < halves → get_or b (complete_from + j) 0 ≡ pick (ltb j halves) (half_in named (everybody most_rules c.counts.rules) j) 0
    unfolding complete_of free_in
    complete-part j h =
        complete-at c o j h
        ∙ set_of-ext _ _ most_rules
        (λ i l. only i l (ltb i used) refl
        ∙ ap (λ (d : Bool). d && all (λ x. has j x || not (has (get_or named (half_step j x) 0) i)) (upto half_steps)) (sym (has-set_of (λ v. ltb v used) most_rules i l)))
        ∙ sym (ap (λ (d : Bool). pick d (half_in named (everybody most_rules used) j) 0) (lt-ltb j halves h))
      where
        used : ℕ
        used = c.counts.rules

        only : (i : ℕ) → i < most_rules → (d : Bool) → ltb i used ≡ d
            → d && all (λ x. has j x || not (names (get_or c.rules i zero_rule) (half_step j x))) (upto half_steps)
            ≡ d && all (λ x. has j x || not (has (get_or named (half_step j x) 0) i)) (upto half_steps)
        only i l false q = refl
        only i l true q =
            all-cong _ _ (upto half_steps)
            (λ x m.
            let k = upto-in half_steps x m in
            ap (λ (d : Bool). has j x || not d)
            (sym (named-word (half_step j x) i (omega arith) l ∙ ap (λ (d : Bool). d && names (get_or c.rules i zero_rule) (half_step j x)) q)))

  module _ (following : List ℕ) (e : following ≡ table (waits_in (preceded_by c.steps o) (steps c)) most_steps) where
    following-word : (x s : ℕ) → x < most_steps → s < most_rules → ltb s (steps c) ≡ true → has (get_or following x 0) s ≡ has (preceding c o s) x
    unfolding waits_in
    following-word x s l k q =
        ap (λ (z : ℕ). has z s) (ap (λ (w : List ℕ). get_or w x 0) e ∙ get_or-table (waits_in (preceded_by c.steps o) (steps c)) most_steps x 0 l)
        ∙ has-set_of (λ v. has (preceded_by c.steps o v) x && ltb v (steps c)) most_rules s k
        ∙ ap₂ (λ (z : ℕ) (d : Bool). has z x && d) (sym (preceding-here o s q)) q ∙ and-true-end (has (preceding c o s) x)

    ready-part : (j : ℕ) → j < halves → get_or b (ready_from + j) 0 ≡ pick (ltb j halves) (half_in following (everybody most_rules (steps c)) j) 0
    unfolding ready_of free_in
    ready-part j h =
        ready_at c o j h
        ∙ is-set_of _ most_rules (set_of first most_steps) (omega (arith, set_of-lt first most_steps)) (λ s l. at s l (dec_lt s most_steps))
        ∙ sym (ap (λ (d : Bool). pick d (half_in following (everybody most_rules (steps c)) j) 0) (lt-ltb j halves h))
      where
        first : ℕ → Bool
        first s = ltb s (steps c) && all (λ x. has j x || not (has (preceding c o s) (half_step j x))) (upto half_steps)

        free : ℕ → Bool
        free s = all (λ x. has j x || not (has (get_or following (half_step j x) 0) s)) (upto half_steps)

        listed : (s : ℕ) → s < most_rules → has (everybody most_rules (steps c)) s ≡ ltb s (steps c)
        listed s l = has-set_of (λ v. ltb v (steps c)) most_rules s l

        only : (s : ℕ) → s < most_rules → (d : Bool) → ltb s (steps c) ≡ d → d && all (λ x. has j x || not (has (preceding c o s) (half_step j x))) (upto half_steps) ≡ d && free s
        only s l false q = refl
        only s l true q =
            all-cong _ _ (upto half_steps)
            (λ x m.
            let k = upto-in half_steps x m in
            ap (λ (d : Bool). has j x || not d) (sym (following-word (half_step j x) s (omega arith) l q)))

        at : (s : ℕ) → s < most_rules → Dec (s < most_steps) → has (set_of first most_steps) s ≡ has (everybody most_rules (steps c)) s && free s
        at s l (yes k) = has-set_of first most_steps s k ∙ only s l (ltb s (steps c)) refl ∙ sym (ap (λ (d : Bool). d && free s) (listed s l))
        at s l (no k) =
            has-beyond most_steps (set_of first most_steps) s (set_of-lt first most_steps) (omega arith)
            ∙ sym (ap (λ (d : Bool). d && free s) (listed s l ∙ le-ltb s (steps c) (omega (arith, counts.steps))))

  rules-part : (i : ℕ) → i < most_rules → get_or b (rules_from + i) 0 ≡ pick (ltb i c.counts.rules) (packed (get_or c.rules i zero_rule)) 0
  unfolding packed_of packed
  rules-part i h =
      rule-at c o i h
      ∙ unless (ltb i c.counts.rules) (packed (entry zero_rule c.counts.rules c.rules i)) (packed (get_or c.rules i zero_rule))
      (λ e. ap packed (entry_at zero_rule c.counts.rules c.rules i (ltb-true i c.counts.rules e)))
      (λ e. ap packed (entry_past zero_rule c.counts.rules c.rules i (ltb-false i c.counts.rules e)))

  -- ---- the parts put together, by the case's sizes

  module _ (z : Sizes) (q : Sized c.counts z) where
    pub laid : (words named following b₀ b₁ b₂ b₃ b₄ b₅ b₆ b₇ b₈ : List ℕ) (all-steps all-rules : ℕ)
        → named ≡ table (waits_in (named_by c.rules) z.rules) most_steps → following ≡ table (waits_in (preceded_by c.steps o) z.steps) most_steps
        → words ≡ laid_from 0 z.rows (λ i. number (get_or c.rows i no_people)) (blank (most_tables * most_people))
        → b₀ ≡ blank places → b₁ ≡ laid_blocks 0 z.kinds z.people (row_in words z.people) b₀
        → b₂ ≡ laid_blocks columns_from z.kinds z.people (column_in b₁) b₁
        → b₃ ≡ laid_from loops_from z.kinds (loops_in b₂ z.people) b₂
        → b₄ ≡ laid_from allowed_from z.steps (λ x. allowed_in c.people z.people (get_or c.steps x zero_step).roles) b₃
        → b₅ ≡ laid_from named_from most_steps (λ x. get_or named x 0) b₄
        → b₆ ≡ laid_from rules_from z.rules (λ i. packed (get_or c.rules i zero_rule)) b₅
        → all-steps ≡ everybody most_rules z.steps → b₇ ≡ laid_from ready_from halves (half_in following all-steps) b₆
        → all-rules ≡ everybody most_rules z.rules → b₈ ≡ laid_from complete_from halves (half_in named all-rules) b₇ → b₈ ≡ laid_out c o
    laid words named following b₀ b₁ b₂ b₃ b₄ b₅ b₆ b₇ b₈ all-steps all-rules en ef ew e₀ e₁ e₂ e₃ e₄ e₅ e₆ es e₇ er e₈ =
        let few : m ≤ relations = omega (arith, counts.tables) in
        let wide : tables c * n ≤ most_tables * most_people = rows_few (tables c) n counts.tables counts.people in
        let w = words-end c.rows (tables c * n) words wide (ew ∙ ap (λ (x : ℕ). laid_from 0 x (λ i. number (get_or c.rows i no_people)) (blank (most_tables * most_people))) q.rows) in
        let qnamed : named ≡ table (waits_in (named_by c.rules) c.counts.rules) most_steps = en ∙ ap (λ (x : ℕ). table (waits_in (named_by c.rules) x) most_steps) q.rules in
        let qfollowing : following ≡ table (waits_in (preceded_by c.steps o) (steps c)) most_steps = ef ∙ ap (λ (x : ℕ). table (waits_in (preceded_by c.steps o) x) most_steps) q.steps in
        let f₀ : Front b 0 b₀ = subst (λ x. Front b 0 x) (sym e₀) (front-start b) in
        let f₁ = front-blocks b f₀ m n (row_in words n) b₁ few (omega arith) (row-part words w)
        (e₁ ∙ ap₂ (λ (x y : ℕ). laid_blocks 0 x y (row_in words y) b₀) q.kinds q.people) in
        let f₂ = front-blocks b f₁ m n (column_in b₁) b₂ few (omega arith) (column-part b₁ columns_from f₁ (omega arith))
        (e₂ ∙ ap₂ (λ (x y : ℕ). laid_blocks columns_from x y (column_in b₁) b₁) q.kinds q.people) in
        let f₃ = front-from b f₂ m relations (loops_in b₂ n) b₃ few (omega arith) (loops-part b₂ loops_from f₂ (omega arith))
        (e₃ ∙ ap₂ (λ (x y : ℕ). laid_from loops_from x (loops_in b₂ y) b₂) q.kinds q.people) in
        let f₄ = front-from b f₃ (steps c) most_steps _ b₄ counts.steps (omega arith) allowed-part
        (e₄ ∙ ap₂ (λ (x y : ℕ). laid_from allowed_from x (λ s. allowed_in c.people y (get_or c.steps s zero_step).roles) b₃) q.steps q.people) in
        let f₅ = front-from b f₄ most_steps most_steps _ b₅ (omega arith) (omega arith) (named-part named qnamed) e₅ in
        let f₆ = front-from b f₅ c.counts.rules most_rules _ b₆ counts.rules (omega arith) rules-part
        (e₆ ∙ ap (λ (x : ℕ). laid_from rules_from x (λ i. packed (get_or c.rules i zero_rule)) b₅) q.rules) in
        let f₇ = front-from b f₆ halves halves _ b₇ (omega arith) (omega arith) (ready-part following qfollowing)
        (e₇ ∙ ap (λ (x : ℕ). laid_from ready_from halves (half_in following x) b₆) (es ∙ ap (everybody most_rules) q.steps)) in
        let f₈ = front-from b f₇ halves halves _ b₈ (omega arith) (omega arith) (complete-part named qnamed)
        (e₈ ∙ ap (λ (x : ℕ). laid_from complete_from halves (half_in named x) b₇) (er ∙ ap (everybody most_rules) q.rules)) in
        front-end b (laid-length c o) f₈
