-- The board means the case: who may do a step, which steps may be filled next, and with whom the rules are kept.
use mathlib.Core.Path.{◌≡◌, refl, sym, ap, ap₂, ◌∙◌}
use mathlib.Core.Logic.{◌⊎◌, inl, inr}
use mathlib.Core.Bool.{Bool, true, false, not, ◌&&◌, ◌||◌, true≢false}
use mathlib.Core.List.{List}
use Prim.Native.Nat.{ℕ, ◌+◌, ◌*◌, ◌/◌, ◌%◌, ◌^◌, ◌≤◌, ◌<◌}
use native.Mathlib.Nat.{lt_of_lt_of_le}
use native.Mathlib.Decide.{dec_lt, ℕ_discrete}
use native.Mathlib.Omega.{arith}
use borrow.Author.Tests.{eq-eqb, ne_eqb, eqb-true, lt-ltb, ltb-true}
use lib.Dec.{eqb, ltb}
use lib.ListN.{get_or}
use lib.Pow.{pow_mono}
use Rattle.sets.specs.Lists.{pick, ◌∈◌, upto, keep, all}
use Rattle.sets.specs.Sets.{has, set_of, members, with}
use Rattle.sets.specs.Stored.{width, set_at}
use Rattle.sets.proofs.Lists.{and-true, true-and, true-or, upto-in, upto-mem, keep-in, keep-mem, keep-cong, all-mem, mem-all, all-cong}
use Rattle.sets.proofs.Bits.{has-beyond}
use Rattle.sets.proofs.Counting.{set_of-lt, has-set_of, set-ext}
use Rattle.sets.proofs.Members.{members-in, members-mem}
use Rattle.cases.specs.declared.Rule.{Rule}
use Rattle.cases.specs.declared.Case.{Case}
use Rattle.cases.specs.declared.Filled.{Filled}
use Rattle.cases.specs.Case.{most_steps, most_rules, people, steps, tables, rules, zero_rule}
use Rattle.cases.specs.Rules.{related, steps_in, needed, filled, kept, rules_hold}
use Rattle.cases.specs.Plans.{may}
use Rattle.cases.specs.Filled.{who_in, filled_with, who_with}
use Rattle.cases.proofs.Rules.{needed-cong}
use Rattle.cases.proofs.Rounds.{may-known, entry_at}
use Rattle.boards.specs.Board.{relations, ready_from, complete_from, row_place, unpacked, allowed_on, named_on, both_on, complete_on, rule_on, ready_on, full_on, due_on, pair_on, kept_on, fits_on}
use Rattle.boards.proofs.Halves.{steps_low, both_told}
use Rattle.boards.proofs.Pairs.{pair-as}
use Rattle.pieces.specs.declared.Order.{Order}
use Rattle.pieces.specs.Pieces.{packed}
use Rattle.pieces.proofs.Tests.{same, all_keep, all_map}
use Rattle.laying.specs.Laid.{names, pair_of, row_of, column_of, loops_of, allowed_of, named_of, preceding, packed_of, ready_of, complete_of, laid_out}
use Rattle.laying.specs.Ready.{ReadyRule, Ready}
use Rattle.meaning.specs.Sound.{Sound}
use Rattle.laying.proofs.Places.{row_at, column-at, loops-at, allowed_at, named-at, rule-at, ready_at, complete-at}

-- ---- a rule, packed and taken apart again

module _ (r : Rule) (f : r.form < 256) (k : r.relation < 256) (s : r.step.0 < 256) where
  form-back : (unpacked (packed r)).form ≡ r.form
  unfolding packed
  form-back = omega arith

  relation-back : (unpacked (packed r)).relation ≡ r.relation
  unfolding packed
  relation-back =
      let e : packed r / 256 ≡ r.relation + (r.step.0 + r.group * 256) * 256 = omega arith in
      ap (λ (n : ℕ). n % 256) e ∙ omega arith

  pub step_back : (unpacked (packed r)).step.0 ≡ r.step.0
  unfolding packed
  step_back =
      let e : packed r / 65536 ≡ r.step.0 + r.group * 256 = omega arith in
      ap (λ (n : ℕ). n % 256) e ∙ omega arith

  pub group-back : (unpacked (packed r)).group ≡ r.group % 256
  unfolding packed
  group-back =
      let e : packed r / 16777216 ≡ r.group = omega arith in
      ap (λ (n : ℕ). n % 256) e

-- ---- sets of steps

-- of a set of steps only as many bits are looked at as there are steps
steps_alike : (g : ℕ) → steps_in (g % 2 ^ most_steps) ≡ steps_in g
unfolding steps_in members
steps_alike g = keep-cong (has (g % 2 ^ most_steps)) (has g) (upto most_steps) (λ x m. steps_low g x (upto-in most_steps x m))

-- a set none of whose members is past n
pub no_more : (w n s : ℕ) → n ≤ w → s < 2 ^ w → ((v : ℕ) → n ≤ v → v < w → has s v ≡ false) → s < 2 ^ n
no_more w n s h small none =
    omega (
      arith,
      set_of-lt (has s) n,
      set-ext w s (set_of (has s) n) small (lt_of_lt_of_le (set_of-lt (has s) n) (pow_mono h)) (λ v l. at v l (dec_lt v n)),
    )
  where
    at : (v : ℕ) → v < w → Dec (v < n) → has s v ≡ has (set_of (has s) n) v
    at v l (yes k) = sym (has-set_of (has s) n v k)
    at v l (no k) = none v (omega arith) l ∙ sym (has-beyond n (set_of (has s) n) v (set_of-lt (has s) n) (omega arith))

-- ---- the steps of a rule

-- they are s and X
steps-filled : (r : Rule) (is_filled : ℕ → Bool) → r.step.0 < most_steps → all (λ x. is_filled x || not (names r x)) (upto most_steps) ≡ filled r is_filled
unfolding names filled steps_in
steps-filled r is_filled small =
    sym (all_keep is_filled (names r) (upto most_steps))
    ∙ same (all is_filled (keep (names r) (upto most_steps))) (is_filled s && all is_filled (members most_steps r.group))
    (λ e. true-and (is_filled s) (all is_filled (members most_steps r.group))
    (all-mem is_filled (keep (names r) (upto most_steps)) e s
    (keep-mem (names r) s (upto most_steps) (upto-mem most_steps s small) (ap (λ (d : Bool). d || has r.group s) (eq-eqb s s refl))))
    (mem-all is_filled (members most_steps r.group)
    (λ x m.
    let k = members-in most_steps r.group x m in
    all-mem is_filled (keep (names r) (upto most_steps)) e x
    (keep-mem (names r) x (upto most_steps) (upto-mem most_steps x k.0) (true-or (eqb s x) (has r.group x) k.1)))))
    (λ e. let k = and-true (is_filled s) (all is_filled (members most_steps r.group)) e in
    mem-all is_filled (keep (names r) (upto most_steps))
    (λ x m. let h = keep-in (names r) x (upto most_steps) m in at x (upto-in most_steps x h.0) k.0 k.1 (eqb s x) refl h.1))
  where
    s : ℕ
    s = r.step.0

    at : (x : ℕ) → x < most_steps → is_filled s ≡ true → all is_filled (members most_steps r.group) ≡ true
        → (d : Bool) → eqb s x ≡ d → d || has r.group x ≡ true → is_filled x ≡ true
    at x l own others true q h = ap is_filled (sym (eqb-true s x q)) ∙ own
    at x l own others false q h = all-mem is_filled (members most_steps r.group) others x (members-mem most_steps r.group x l h)

module _ (c : Case) (o : Order) where
  abbrev b : List ℕ
  b = laid_out c o

  module _ (ready : Ready c) where
    -- ---- who may do a step

    pub allowed-means : (s u : ℕ) → s < most_steps → has (allowed_on b s) u ≡ may c u s
    unfolding allowed_on allowed_of
    allowed-means s u l = ap (λ (z : ℕ). has z u) (allowed_at c o s l) ∙ go (may c u s) refl (dec_lt u width)
      where
        go : (d : Bool) → may c u s ≡ d → Dec (u < width) → has (set_of (λ v. may c v s) width) u ≡ d
        go d e (yes k) = has-set_of (λ v. may c v s) width u k ∙ e
        go true e (no k) = let h = may-known c u s e in let z : ⊥ = omega (arith, ready.counts.people) in absurd z
        go false e (no k) = has-beyond width (set_of (λ v. may c v s) width) u (set_of-lt (λ v. may c v s) width) (omega arith)

    -- ---- which steps may be filled next

    -- a step of the case that is not filled, where those that must precede it are
    pub ready-means : (p : Filled) (s : ℕ) → s < most_steps
        → has (ready_on b p) s ≡ ltb s (steps c) && (not (has p.steps s) && all (has p.steps) (steps_in (preceding c o s)))
    unfolding ready_on ready_of steps_in members
    ready-means p s l =
        has-set_of (λ x. has (both_on b ready_from p.steps) x && not (has p.steps x)) most_steps s l
        ∙ ap (λ (d : Bool). d && not (has p.steps s))
        (both_told b ready_from p.steps s (omega arith) (ltb s (steps c)) (has (preceding c o s)) (λ j h. ap (λ (z : ℕ). has z s) (ready_at c o j h) ∙ has-set_of _ most_steps s l))
        ∙ turned (ltb s (steps c)) _ (not (has p.steps s))
        ∙ ap (λ (d : Bool). ltb s (steps c) && (not (has p.steps s) && d)) (sym (all_keep (has p.steps) (has (preceding c o s)) (upto most_steps)))
      where
        turned : (x y z : Bool) → (x && y) && z ≡ x && (z && y)
        turned true true true = refl
        turned true true false = refl
        turned true false true = refl
        turned true false false = refl
        turned false y z = refl

    -- a rule in use all of whose steps are in f
    pub complete-means : (f i : ℕ) → i < most_rules
        → has (complete_on b f) i ≡ ltb i c.counts.rules && all (λ x. has f x || not (names (get_or c.rules i zero_rule) x)) (upto most_steps)
    unfolding complete_on complete_of
    complete-means f i l =
        both_told b complete_from f i l (ltb i c.counts.rules) (names (get_or c.rules i zero_rule))
        (λ j h. ap (λ (z : ℕ). has z i) (complete-at c o j h) ∙ has-set_of _ most_rules i l)

    -- ---- with whom a rule is kept

    -- people of the case and one of its relations
    pair-of : (k u v : ℕ) → k < tables c + 2 → u < people c → v < people c → pair_of c k u v ≡ related c k u v
    unfolding pair_of
    pair-of k u v h l m = rw (lt-ltb k (tables c + 2) h, lt-ltb u (people c) l, lt-ltb v (people c) m)

    module _ (p : Filled) (sound : Sound c p) (s : ℕ) (there : s < steps c) (u : ℕ) (known : u < people c) where
      room : s < most_steps
      room = omega (arith, ready.counts.steps)

      abbrev who : ℕ → ℕ
      who x = who_with p s u x

      narrow : (v : ℕ) → v < people c → v < width
      narrow v l = omega (arith, ready.counts.people)

      who-here : (x : ℕ) → x ≡ s → who x ≡ u
      who-here x e = ap (λ (d : Bool). pick d u (who_in p x)) (eq-eqb x s e)

      who-else : (x : ℕ) → (x ≡ s → ⊥) → who x ≡ who_in p x
      who-else x n = ap (λ (d : Bool). pick d u (who_in p x)) (ne_eqb x s n)

      -- a step that is then filled: it is s, or it was filled
      abbrev Then : ℕ → Type 0
      Then x = (x ≡ s) ⊎ ((x ≡ s → ⊥) × (who_in p x < people c))

      then : (x : ℕ) → filled_with p s x ≡ true → Then x
      then x e = go (ℕ_discrete x s)
        where
          go : Dec (x ≡ s) → Then x
          go (yes q) = inl q
          go (no n) = inr (n, sound.known x (at (has p.steps x) (ap (λ (d : Bool). has p.steps x || d) (sym (ne_eqb x s n)) ∙ e)))
            where
              at : (d : Bool) → d || false ≡ true → d ≡ true
              at true q = refl
              at false q = q

      -- a pair is in the relation on the board as in the case
      pair-means : (k y x : ℕ) → k < tables c + 2 → Then y → Then x → has (pair_on b p s k y x) u ≡ related c k (who y) (who x)
      unfolding row_of column_of loops_of
      pair-means k y x h = go
        where
          small : k < relations
          small = omega (arith, ready.counts.tables)

          go : Then y → Then x → has (pair_on b p s k y x) u ≡ related c k (who y) (who x)
          go (inl e) (inl f) =
              ap (λ (z : ℕ). has z u) (sym (pair-as b p s k y x true true (eq-eqb y s e) (eq-eqb x s f)) ∙ loops-at c o k small)
              ∙ has-set_of (λ v. pair_of c k v v) width u (narrow u known) ∙ pair-of k u u h known known
              ∙ sym (ap₂ (related c k) (who-here y e) (who-here x f))
          go (inl e) (inr f) =
              ap (λ (z : ℕ). has z u)
              (sym (pair-as b p s k y x true false (eq-eqb y s e) (ne_eqb x s f.0))
              ∙ column-at c o k (who_in p x) small (narrow (who_in p x) f.1))
              ∙ has-set_of (λ v. pair_of c k v (who_in p x)) width u (narrow u known) ∙ pair-of k u (who_in p x) h known f.1
              ∙ sym (ap₂ (related c k) (who-here y e) (who-else x f.0))
          go (inr e) (inl f) =
              ap (λ (z : ℕ). has z u)
              (sym (pair-as b p s k y x false true (ne_eqb y s e.0) (eq-eqb x s f))
              ∙ row_at c o k (who_in p y) small (narrow (who_in p y) e.1))
              ∙ has-set_of (λ v. pair_of c k (who_in p y) v) width u (narrow u known) ∙ pair-of k (who_in p y) u h e.1 known
              ∙ sym (ap₂ (related c k) (who-else y e.0) (who-here x f))
          go (inr e) (inr f) =
              ap (λ (z : ℕ). has z u) (sym (pair-as b p s k y x false false (ne_eqb y s e.0) (ne_eqb x s f.0)))
              ∙ has-set_of (λ v. has (set_at b (row_place k (who_in p y))) (who_in p x)) width u (narrow u known)
              ∙ ap (λ (z : ℕ). has z (who_in p x)) (row_at c o k (who_in p y) small (narrow (who_in p y) e.1))
              ∙ has-set_of (λ v. pair_of c k (who_in p y) v) width (who_in p x) (narrow (who_in p x) f.1)
              ∙ pair-of k (who_in p y) (who_in p x) h e.1 f.1 ∙ sym (ap₂ (related c k) (who-else y e.0) (who-else x f.0))

      abbrev rule : ℕ → Rule
      rule i = get_or c.rules i zero_rule

      -- a rule holds in the case: kept, where its steps are then all filled
      abbrev holds_one : ℕ → Bool
      holds_one i = not (filled (rule i) (filled_with p s)) || kept c (rule i) who

      module _ (i : ℕ) (listed : i < c.counts.rules) where
        good : ReadyRule c (rule i)
        good = ready.each i listed

        rule-is : rule_on b i ≡ unpacked (packed (rule i))
        unfolding rule_on packed_of
        rule-is =
            ap unpacked (rule-at c o i (omega (arith, ready.counts.rules))
            ∙ ap packed (entry_at zero_rule c.counts.rules c.rules i listed))

        form : (rule i).form < 256
        form = omega (arith, good.form)

        relation : (rule i).relation < 256
        relation = omega (arith, good.relation, ready.counts.tables)

        step : (rule i).step.0 < 256
        step = omega (arith, good.step, ready.counts.steps)

        group-is : steps_in (unpacked (packed (rule i))).group ≡ steps_in (rule i).group
        group-is = ap steps_in (group-back (rule i) form relation step) ∙ steps_alike (rule i).group

        -- it is kept on the board as in the case
        kept-means : filled (rule i) (filled_with p s) ≡ true → kept_on b p s (rule_on b i) u ≡ kept c (rule i) who
        unfolding kept_on kept filled
        kept-means full =
            let fills = and-true (filled_with p s (rule i).step.0) (all (filled_with p s) (steps_in (rule i).group)) full in
            let f = form-back (rule i) form relation step in
            let k = relation-back (rule i) form relation step in
            let y = step_back (rule i) form relation step in
            ap (λ r. kept_on b p s r u) rule-is
            ∙ (λ j. needed (f j) (λ x. has (pair_on b p s (k j) (y j) x) u) (group-is j))
            ∙ needed-cong (rule i).form _ _ (steps_in (rule i).group)
            (λ x m.
            pair-means (rule i).relation (rule i).step.0 x good.relation (then (rule i).step.0 fills.0)
            (then x (all-mem (filled_with p s) (steps_in (rule i).group) fills.1 x m)))

      -- ---- a rule that does not name s

      -- no step of it is s
      other : (i : ℕ) → names (rule i) s ≡ false → ((rule i).step.0 ≡ s → ⊥) × ((x : ℕ) → x ∈ steps_in (rule i).group → x ≡ s → ⊥)
      unfolding names steps_in
      other i e = (
        λ q. true≢false (sym (ap (λ (d : Bool). d || has (rule i).group s) (eq-eqb (rule i).step.0 s q)) ∙ e),
        λ x m q. true≢false (sym (later (eqb (rule i).step.0 s) (has (rule i).group s) (ap (has (rule i).group) (sym q) ∙ (members-in most_steps (rule i).group x m).1)) ∙ e),
      )
        where
          later : (a d : Bool) → d ≡ true → a || d ≡ true
          later true d q = refl
          later false d q = q

      -- its steps were filled before, where they are now
      filled-before : (i : ℕ) → names (rule i) s ≡ false → filled (rule i) (filled_with p s) ≡ true → filled (rule i) (has p.steps) ≡ true
      unfolding filled
      filled-before i e full =
          let n = other i e in
          let fills = and-true (filled_with p s (rule i).step.0) (all (filled_with p s) (steps_in (rule i).group)) full in
          true-and (has p.steps (rule i).step.0) (all (has p.steps) (steps_in (rule i).group)) (was (rule i).step.0 n.0 fills.0)
          (mem-all (has p.steps) (steps_in (rule i).group)
          (λ x m. was x (n.1 x m) (all-mem (filled_with p s) (steps_in (rule i).group) fills.1 x m)))
        where
          was : (x : ℕ) → (x ≡ s → ⊥) → filled_with p s x ≡ true → has p.steps x ≡ true
          was x n q = at (has p.steps x) (ap (λ (d : Bool). has p.steps x || d) (sym (ne_eqb x s n)) ∙ q)
            where
              at : (d : Bool) → d || false ≡ true → d ≡ true
              at true r = refl
              at false r = r

      -- it is kept as before
      kept_same : (i : ℕ) → names (rule i) s ≡ false → kept c (rule i) who ≡ kept c (rule i) (who_in p)
      unfolding kept
      kept_same i e =
          let n = other i e in
          needed-cong (rule i).form _ _ (steps_in (rule i).group)
          (λ x m. ap₂ (related c (rule i).relation) (who-else (rule i).step.0 n.0) (who-else x (n.1 x m)))

      before-each : rules_hold c (has p.steps) (who_in p)
          ≡ all (λ i. not (filled (rule i) (has p.steps)) || kept c (rule i) (who_in p)) (upto c.counts.rules)
      unfolding rules_hold rules
      before-each = all_map (λ r. not (filled r (has p.steps)) || kept c r (who_in p)) rule (upto c.counts.rules)

      kept-still : (i : ℕ) → i < c.counts.rules → names (rule i) s ≡ false → holds_one i ≡ true
      kept-still i l e = go (filled (rule i) (filled_with p s)) refl
        where
          before : not (filled (rule i) (has p.steps)) || kept c (rule i) (who_in p) ≡ true
          before =
              all-mem (λ j. not (filled (rule j) (has p.steps)) || kept c (rule j) (who_in p)) (upto c.counts.rules)
              (sym before-each ∙ sound.kept) i (upto-mem c.counts.rules i l)

          go : (d : Bool) → filled (rule i) (filled_with p s) ≡ d → not d || kept c (rule i) who ≡ true
          go false q = refl
          go true q =
              kept_same i e ∙ sym (ap (λ (d : Bool). not d || kept c (rule i) (who_in p)) (filled-before i e q)) ∙ before

      -- ---- the rules that s completes

      abbrev then-filled : ℕ
      then-filled = with most_steps p.steps s

      then-has : (x : ℕ) → x < most_steps → has then-filled x ≡ filled_with p s x
      then-has x l = has-set_of (λ w. has p.steps w || eqb w s) most_steps x l

      abbrev is_named : ℕ → Bool
      is_named i = ltb i c.counts.rules && names (rule i) s

      abbrev is_full : ℕ → Bool
      is_full i = ltb i c.counts.rules && all (λ x. has then-filled x || not (names (rule i) x)) (upto most_steps)

      full_is : (i : ℕ) → i < most_rules → has (full_on b p s) i ≡ is_full i
      unfolding full_on
      full_is = complete-means then-filled

      named-is : named_on b s ≡ set_of is_named most_rules
      unfolding named_on named_of
      named-is = named-at c o s room

      abbrev due : ℕ
      due = due_on b p s

      due-has : (i : ℕ) → i < most_rules → has due i ≡ is_named i && is_full i
      unfolding due_on
      due-has i l =
          has-set_of (λ j. has (named_on b s) j && has (full_on b p s) j) most_rules i l
          ∙ ap₂ ◌&&◌ (ap (λ (z : ℕ). has z i) named-is ∙ has-set_of is_named most_rules i l) (full_is i l)

      full-means : (i : ℕ) → i < c.counts.rules → all (λ x. has then-filled x || not (names (rule i) x)) (upto most_steps) ≡ filled (rule i) (filled_with p s)
      full-means i listed =
          all-cong _ _ (upto most_steps) (λ x m. ap (λ (d : Bool). d || not (names (rule i) x)) (then-has x (upto-in most_steps x m)))
          ∙ steps-filled (rule i) (filled_with p s) (omega (arith, (ready.each i listed).step, ready.counts.steps))

      -- ---- with whom every rule is kept

      after-each : rules_hold c (filled_with p s) who ≡ all holds_one (upto c.counts.rules)
      unfolding rules_hold rules
      after-each = all_map (λ r. not (filled r (filled_with p s)) || kept c r who) rule (upto c.counts.rules)

      abbrev all_due : Bool
      all_due = all (λ i. kept_on b p s (rule_on b i) u) (members most_rules due)

      one_holds : all_due ≡ true → (i : ℕ) → i ∈ upto c.counts.rules → holds_one i ≡ true
      one_holds d i m = go (names (rule i) s) refl (filled (rule i) (filled_with p s)) refl
        where
          l : i < c.counts.rules
          l = upto-in c.counts.rules i m

          small : i < most_rules
          small = omega (arith, l, ready.counts.rules)

          go : (e : Bool) → names (rule i) s ≡ e → (g : Bool) → filled (rule i) (filled_with p s) ≡ g → holds_one i ≡ true
          go false q g r = kept-still i l q
          go true q false r = ap (λ (x : Bool). not x || kept c (rule i) who) r
          go true q true r =
              let used = lt-ltb i c.counts.rules l in
              let full = full-means i l ∙ r in
              let k = due-has i small
              ∙ true-and (is_named i) (is_full i) (true-and (ltb i c.counts.rules) (names (rule i) s) used q)
              (true-and (ltb i c.counts.rules) (all (λ x. has then-filled x || not (names (rule i) x)) (upto most_steps)) used full) in
              ap (λ (x : Bool). not x || kept c (rule i) who) r ∙ sym (kept-means i l r)
              ∙ all-mem (λ j. kept_on b p s (rule_on b j) u) (members most_rules due) d i (members-mem most_rules due i small k)

      one_kept : all holds_one (upto c.counts.rules) ≡ true → (i : ℕ) → i ∈ members most_rules due → kept_on b p s (rule_on b i) u ≡ true
      one_kept h i m =
          let k = members-in most_rules due i m in
          let full = (and-true (is_named i) (is_full i) (sym (due-has i k.0) ∙ k.1)).1 in
          let a = and-true (ltb i c.counts.rules) (all (λ x. has then-filled x || not (names (rule i) x)) (upto most_steps)) full in
          let l = ltb-true i c.counts.rules a.0 in
          let r = sym (full-means i l) ∙ a.1 in
          kept-means i l r ∙ sym (ap (λ (x : Bool). not x || kept c (rule i) who) r)
          ∙ all-mem holds_one (upto c.counts.rules) h i (upto-mem c.counts.rules i l)

      -- with person u at step s no rule is broken exactly if on the board u fits
      pub fits-means : has (fits_on b p s) u ≡ rules_hold c (filled_with p s) (who_with p s u)
      unfolding fits_on
      fits-means =
          has-set_of (λ v. all (λ i. kept_on b p s (rule_on b i) v) (members most_rules due)) width u (narrow u known)
          ∙ same all_due (all holds_one (upto c.counts.rules))
          (λ d. mem-all holds_one (upto c.counts.rules) (one_holds d))
          (λ h. mem-all (λ i. kept_on b p s (rule_on b i) u) (members most_rules due) (one_kept h))
          ∙ sym after-each
