-- A line of people whose placing is good, each judged in as many trials: the dynamic walk's answer without a walk for each.
use mathlib.Core.Path.{◌≡◌, refl, sym, ap, ap₂, ◌∙◌, subst}
use mathlib.Core.Logic.{inl, inr}
use mathlib.Core.Option.{Option, none, some}
use mathlib.Core.Bool.{Bool, true, false, ◌&&◌, true≢false}
use mathlib.Core.List.{List, [], ◌∷◌, ◌++◌}
use Prim.Native.Nat.{ℕ, zero, suc, ◌+◌, ◌-◌, ◌*◌, ◌^◌, ◌≤◌, ◌<◌}
use native.Mathlib.Nat.{suc-mul, mul-le-mul}
use native.Mathlib.Numerals.{add-one}
use native.Mathlib.Omega.{arith}
use borrow.Author.Tests.{leb-true, leb-false, le-leb, lt-leb, eq-eqb, ne_eqb, lt-ltb, ltb-true}
use lib.Dec.{leb, ltb}
use lib.ListN.{length, length-append, get_or}
use Rattle.sets.specs.Lists.{◌∈◌, pick}
use Rattle.sets.specs.Sets.{has, set_from, size, size_before, members, lowest, without, after}
use Rattle.sets.specs.Stored.{width}
use Rattle.sets.proofs.Lists.{nothing-in, and-true, true-and}
use Rattle.sets.proofs.Counting.{count_most, set_of-lt, set_of-ext}
use Rattle.sets.proofs.Members.{members-in, members-length, set_from-members, lowest-none, lowest-some, lowest-least, members-split}
use Rattle.games.specs.Walks.{Search, plus, dynamic}
use Rattle.games.specs.Limit.{stopped, whole, cut}
use Rattle.cases.specs.declared.Filled.{Filled}
use Rattle.boards.specs.Board.{fits_on}
use Rattle.boards.specs.Arena.{put_on, board_arena}
use Rattle.tries.specs.Trying.{step_on, Alone, InLine}
use Rattle.tries.specs.Alike.{all_trials, all_spent, member_at, all_bad, good_from}
use Rattle.games.proofs.Cuts.{plus-zero, ends, stops}
use Rattle.tries.proofs.Scans.{stop, go, Hunt, turn, scan, Inside, has-after, nobody-left, came-to}
use Rattle.tries.proofs.Lines.{count_good, showing}
use Rattle.tries.proofs.Turns.{dynamic_hunt, dynamic-full, dynamic-going}
use Rattle.tries.proofs.Alike.{Alike, spent-stops, spent_ends, all-tried}

-- ---- counting around a member

-- those before it, it, and those after it
around : (T v : ℕ) → v < width → has T v ≡ true → size width T ≡ suc (size_before width T v) + size width (after width T v)
around T v l e =
    let k = members-split width T v l e in
    let m = ap length k.split ∙ length-append k.lower (v ∷ members width (after width T v)) in
    omega (arith, m, k.many, members-length width T, members-length width (after width T v))

after-twice : (T v x : ℕ) → v < x → after width (after width T v) x ≡ after width T x
after-twice T v x l = set_of-ext _ _ width (λ u h. ap (λ (b : Bool). b && ltb x u) (has-after T v u h) ∙ only (has T u) (ltb v u) (ltb x u) (λ q. lt-ltb v u (omega (arith, ltb-true x u q))))
  where
    only : (a b c : Bool) → (c ≡ true → b ≡ true) → (a && b) && c ≡ a && c
    only true true c f = refl
    only true false true f = f refl
    only true false false f = refl
    only false b c f = refl

-- those before x, who comes later
before-later : (T v x : ℕ) → v < width → has T v ≡ true → x < width → has (after width T v) x ≡ true
    → size_before width T x ≡ suc (size_before width T v) + size_before width (after width T v) x
before-later T v x l e h d =
    let k = and-true (has T x) (ltb v x) (sym (has-after T v x h) ∙ d) in
    let z = ap (size width) (after-twice T v x (ltb-true v x k.1)) in
    omega (arith, around T v l e, around T x h k.0, around (after width T v) x h d, z)

-- ---- the lowest member, and the others

module _ (F v : ℕ) (low : lowest width F ≡ some v) where
  first_of : members width F ≡ v ∷ members width (after width F v)
  first_of =
      let l = lowest-some width F v low in
      let k = members-split width F v l.0 l.1 in
      k.split ∙ ap (λ (xs : List ℕ). xs ++ (v ∷ members width (after width F v)))
      (nothing-in k.lower (λ u m. true≢false (sym (k.below u m).1 ∙ lowest-least width F v low u (k.below u m).0)))

  one_more : size width F ≡ suc (size width (after width F v))
  one_more = sym (members-length width F) ∙ ap length first_of ∙ ap suc (members-length width (after width F v))

  first-sum : F < 2 ^ width → F ≡ 2 ^ v + after width F v
  unfolding set_from
  first-sum small =
      sym (set_from-members width F small) ∙ ap set_from first_of ∙ ap (λ (x : ℕ). 2 ^ v + x) (set_from-members width (after width F v) (set_of-lt (λ w. has F w && ltb v w) width))

  first-at : v ≡ member_at F 0
  unfolding member_at
  first-at = sym (ap (λ (l : List ℕ). get_or l 0 0) first_of)

  next-at : (m : ℕ) → member_at (after width F v) m ≡ member_at F (suc m)
  unfolding member_at
  next-at m = sym (ap (λ (l : List ℕ). get_or l (suc m) 0) first_of)

get_or-in : (xs : List ℕ) (k : ℕ) → k < length xs → get_or xs k 0 ∈ xs
get_or-in [] k h = let w : ⊥ = omega arith in absurd w
get_or-in (x ∷ xs) zero h = inl refl
get_or-in (x ∷ xs) (suc k) h = inr (get_or-in xs k (omega arith))

-- a place below the size has a member
pub member-there : (s k : ℕ) → k < size width s → (member_at s k < width) × (has s (member_at s k) ≡ true)
unfolding member_at
member-there s k h = members-in width s (get_or (members width s) k 0) (get_or-in (members width s) k (omega (arith, members-length width s)))

inside-after : (T F v : ℕ) → Inside F T → Inside (after width F v) (after width T v)
inside-after T F v inside u l e =
    let k = and-true (has F u) (ltb v u) (sym (has-after F v u l) ∙ e) in
    has-after T v u l ∙ true-and (has T u) (ltb v u) (inside u l k.0) k.1

-- ---- all good, in c trials each

module _ (t : ℕ) (sub : ℕ → Search ℕ) (c : ℕ) (alike : Alike (showing t sub) none c) where
  abbrev h : Hunt (Option ℕ) (Option ℕ) (ℕ × ℕ)
  h = showing t sub

  -- nobody is left
  good_none : (m k S T F : ℕ) → F < 2 ^ width → lowest width F ≡ none → scan h F (members width T) (k, S) ≡ good_from T F S m c
  unfolding good_from set_from
  good_none m k S T F small low =
      let empty : F ≡ 0 = sym (set_from-members width F small) ∙ ap set_from (lowest-none width F low) in
      let many : size width F ≡ 0 = sym (members-length width F) ∙ ap length (lowest-none width F low) in
      let sum : S ≡ S + F = omega arith in
      let cost : size width T ≡ 0 + (size width T + 0 * c) = omega arith in
      nobody-left h T F (k, S) low
      ∙ ap₂ (λ (x y : ℕ). record { got = some x; trials = y }) sum (cost ∙ ap (λ (x : ℕ). 0 + (size width T + x * c)) (sym many))
      ∙ sym (ap (λ (b : Bool). pick b (record { got = some (S + F); trials = all_trials T F 0 c }) (record { got = none; trials = suc (size_before width T (member_at F m)) + suc m * c }))
      (le-leb (size width F) m (omega arith)))

  module _ (k S T F v : ℕ) (inside : Inside F T) (low : lowest width F ≡ some v) where
    abbrev T' : ℕ
    T' = after width T v

    abbrev F' : ℕ
    F' = after width F v

    known : v < width
    known = (lowest-some width F v low).0

    listed : has T v ≡ true
    listed = inside v known (lowest-some width F v low).1

    -- v is tried, and is good
    judged-good : scan h F (members width T) (k, S) ≡ plus (suc (size_before width T v)) (plus c (turn (count_good t v none (k, S)) (scan h F' (members width T'))))
    judged-good =
        came-to h T F (k, S) inside v low
        ∙ ap₂ (λ (x : ℕ) (o : Option ℕ). plus (suc (size_before width T v)) (plus x (turn (count_good t v o (k, S)) (scan h F' (members width T'))))) (alike.trials v) (alike.got v)

    -- one more than t
    good-last : k ≡ t → scan h F (members width T) (k, S) ≡ good_from T F S 0 c
    unfolding good_from plus
    good-last e =
        let cost : suc (size_before width T v) + (c + 0) ≡ suc (size_before width T v) + 1 * c = omega arith in
        judged-good
        ∙ ap (λ (b : Bool). plus (suc (size_before width T v)) (plus c (turn (pick b (stop none) (go (k + 1, S + 2 ^ v))) (scan h F' (members width T'))))) (eq-eqb k t e)
        ∙ ap (λ (x : ℕ). record { got = none; trials = x }) (cost ∙ ap (λ (x : ℕ). suc (size_before width T x) + 1 * c) (first-at F v low))
        ∙ sym (ap (λ (b : Bool). pick b (record { got = some (S + F); trials = all_trials T F 0 c }) (record { got = none; trials = suc (size_before width T (member_at F 0)) + 1 * c }))
        (lt-leb (size width F) 0 (omega (arith, one_more F v low))))

    -- one more is shown, and m may still be
    good_more : (m : ℕ) → F < 2 ^ width → (k ≡ t → ⊥) → scan h F' (members width T') (k + 1, S + 2 ^ v) ≡ good_from T' F' (S + 2 ^ v) m c
        → scan h F (members width T) (k, S) ≡ good_from T F S (suc m) c
    unfolding good_from plus
    good_more m small d rest =
        judged-good
        ∙ ap (λ (b : Bool). plus (suc (size_before width T v)) (plus c (turn (pick b (stop none) (go (k + 1, S + 2 ^ v))) (scan h F' (members width T'))))) (ne_eqb k t d)
        ∙ ap (λ (w : Search ℕ). plus (suc (size_before width T v)) (plus c w)) rest
        ∙ at (leb (size width F') m) refl
      where
        at : (b : Bool) → leb (size width F') m ≡ b
            → plus (suc (size_before width T v)) (plus c (pick b
            (record { got = some (S + 2 ^ v + F'); trials = all_trials T' F' 0 c })
            (record { got = none; trials = suc (size_before width T' (member_at F' m)) + suc m * c })))
            ≡ good_from T F S (suc m) c
        at true q =
            let sum : S + 2 ^ v + F' ≡ S + F = omega (arith, first-sum F v low small) in
            let one : suc (size width F') * c ≡ size width F * c = ap (λ (x : ℕ). x * c) (sym (one_more F v low)) in
            let cost : suc (size_before width T v) + (c + (0 + (size width T' + size width F' * c))) ≡ 0 + (size width T + size width F * c) =
            omega (arith, around T v known listed, one, suc-mul (size width F') c) in
            ap₂ (λ (x y : ℕ). record { got = some x; trials = y }) sum cost
            ∙ sym (ap (λ (b : Bool). pick b (record { got = some (S + F); trials = all_trials T F 0 c }) (record { got = none; trials = suc (size_before width T (member_at F (suc m))) + suc (suc m) * c }))
            (le-leb (size width F) (suc m) (omega (arith, one_more F v low, leb-true (size width F') m q))))
        at false q =
            let x = member-there F' m (leb-false (size width F') m q) in
            let there : has T' (member_at F' m) ≡ true = inside-after T F v inside (member_at F' m) x.0 x.1 in
            let cost : suc (size_before width T v) + (c + (suc (size_before width T' (member_at F' m)) + suc m * c)) ≡ suc (size_before width T (member_at F' m)) + suc (suc m) * c =
            omega (arith, before-later T v (member_at F' m) known listed x.0 there, suc-mul (suc m) c) in
            ap (λ (y : ℕ). record { got = none; trials = y }) (cost ∙ ap (λ (y : ℕ). suc (size_before width T y) + suc (suc m) * c) (next-at F v low m))
            ∙ sym (ap (λ (b : Bool). pick b (record { got = some (S + F); trials = all_trials T F 0 c }) (record { got = none; trials = suc (size_before width T (member_at F (suc m))) + suc (suc m) * c }))
            (lt-leb (size width F) (suc m) (omega (arith, one_more F v low, leb-false (size width F') m q))))

  -- k are found, who make the set S, and m more may be shown
  pub good-scan : (m k S T F : ℕ) → k + m ≡ t → Inside F T → F < 2 ^ width → scan h F (members width T) (k, S) ≡ good_from T F S m c
  good-scan zero k S T F e inside small = at (lowest width F) refl
    where
      at : (o : Option ℕ) → lowest width F ≡ o → scan h F (members width T) (k, S) ≡ good_from T F S 0 c
      at none q = good_none 0 k S T F small q
      at (some v) q = good-last k S T F v inside q (omega arith)
  good-scan (suc m) k S T F e inside small =
      at (lowest width F) refl
      (λ v. good-scan m (k + 1) (S + 2 ^ v) (after width T v) (after width F v) (omega arith) (inside-after T F v inside) (set_of-lt (λ w. has F w && ltb v w) width))
    where
      at : (o : Option ℕ) → lowest width F ≡ o
          → ((v : ℕ) → scan h (after width F v) (members width (after width T v)) (k + 1, S + 2 ^ v) ≡ good_from (after width T v) (after width F v) (S + 2 ^ v) m c)
          → scan h F (members width T) (k, S) ≡ good_from T F S (suc m) c
      at none q rest = good_none (suc m) k S T F small q
      at (some v) q rest = good_more k S T F v inside q m small (λ z. omega arith) (rest v)

-- ---- what the code answers

module _ (limit T F c : ℕ) where
  pub bad-limit : none ≡ all_spent T F 0 c limit → stopped limit ≡ cut limit (all_bad T F c)
  unfolding all_bad
  bad-limit e = spent-stops limit T F 0 c (all_bad T F c) (some 0) refl e

  pub bad-all : (S m : ℕ) → S ≡ 0 → some m ≡ all_spent T F 0 c limit → whole (record { got = some S; trials = m }) ≡ cut limit (all_bad T F c)
  unfolding all_bad
  bad-all S m z e = ap (λ (x : ℕ). whole (record { got = some x; trials = m })) z ∙ spent_ends limit T F 0 c (all_bad T F c) (some 0) refl m e

  module _ (t : ℕ) {m : ℕ} (e : m ≡ size width F) where
    module _ (few : m ≤ t) where
      good-few : good_from T F 0 t c ≡ record { got = some F; trials = all_trials T F 0 c }
      unfolding good_from
      good-few =
          let z : 0 + F ≡ F = omega arith in
          ap (λ (b : Bool). pick b (record { got = some (0 + F); trials = all_trials T F 0 c }) (record { got = none; trials = suc (size_before width T (member_at F t)) + suc t * c }))
          (le-leb (size width F) t (omega (arith, e)))
          ∙ ap (λ (x : ℕ). record { got = some x; trials = all_trials T F 0 c }) z

      pub good-limit : none ≡ all_spent T F 0 c limit → stopped limit ≡ cut limit (good_from T F 0 t c)
      good-limit s = spent-stops limit T F 0 c (good_from T F 0 t c) (some F) good-few s

      pub good-all : (x : ℕ) → some x ≡ all_spent T F 0 c limit → whole (record { got = some F; trials = x }) ≡ cut limit (good_from T F 0 t c)
      good-all x s = spent_ends limit T F 0 c (good_from T F 0 t c) (some F) good-few x s

    module _ (many : t < m) {last passed : ℕ} (l : last ≡ member_at F t) (b : passed ≡ size_before width T last) where
      good-many : good_from T F 0 t c ≡ record { got = none; trials = passed + 1 + (t + 1) * c }
      unfolding good_from
      good-many =
          let more : suc t * c ≡ (t + 1) * c = ap (λ (x : ℕ). x * c) (sym (add-one t)) in
          let there : passed ≡ size_before width T (member_at F t) = b ∙ ap (size_before width T) l in
          let cost : suc (size_before width T (member_at F t)) + suc t * c ≡ passed + 1 + (t + 1) * c = omega (arith, more, there) in
          ap (λ (x : Bool). pick x (record { got = some (0 + F); trials = all_trials T F 0 c }) (record { got = none; trials = suc (size_before width T (member_at F t)) + suc t * c }))
          (lt-leb (size width F) t (omega (arith, e)))
          ∙ ap (λ (x : ℕ). record { got = none; trials = x }) cost

      pub good-over : limit < passed + 1 + (t + 1) * c → stopped limit ≡ cut limit (good_from T F 0 t c)
      good-over h = stops limit 0 (good_from T F 0 t c) _ (good-many ∙ sym (plus-zero _)) (omega arith)

      pub good-within : passed + 1 + (t + 1) * c ≤ limit → whole (record { got = none; trials = passed + 1 + (t + 1) * c }) ≡ cut limit (good_from T F 0 t c)
      good-within h = ends limit (good_from T F 0 t c) none (passed + 1 + (t + 1) * c) good-many h

-- ---- the member with k members before

pub at_none : (s k : ℕ) → none ≡ lowest width s → 0 ≡ member_at s k
unfolding member_at
at_none s k e = sym (ap (λ (l : List ℕ). get_or l k 0) (lowest-none width s (sym e)))

pub at_first : (s k v : ℕ) → some v ≡ lowest width s → k ≡ 0 → v ≡ member_at s k
at_first s k v e z = first-at s v (sym e) ∙ ap (member_at s) (sym z)

pub at_next : (s k v r : ℕ) → some v ≡ lowest width s → (k ≡ 0 → ⊥) → r ≡ without width s v → member_at s k ≡ member_at r (k - 1)
unfolding member_at
at_next s k v r e d q =
    let z : k ≡ suc (k - 1) = omega arith in
    ap (λ (l : List ℕ). get_or l k 0) (lowest-some width s v (sym e)).2
    ∙ ap (λ (j : ℕ). get_or (v ∷ members width (without width s v)) j 0) z
    ∙ ap (λ (x : ℕ). get_or (members width x) (k - 1) 0) (sym q)

-- ---- the dynamic walk, where k steps are left, at least one

module _ (b : List ℕ) (n k : ℕ) (p : Filled) (T F : ℕ) (some_left : k ≡ 0 → ⊥) (l : n ≤ width) (one : Alone b p) (t : ℕ) (line : InLine b n 0 p T F) (c : ℕ) where
  -- all who fit are bad
  pub dynamic-bad : (x : ℕ) → Alike (dynamic_hunt b n t (k - 1) p) (some x) c → all_bad T F c ≡ dynamic (board_arena b n) t k p
  unfolding all_bad
  dynamic-bad x alike = sym (all-tried alike (λ u. refl) (dynamic-going b n k p 0 T F some_left l one t line))

  -- all who fit are good
  pub dynamic-good : Alike (dynamic_hunt b n t (k - 1) p) none c → good_from T F 0 t c ≡ dynamic (board_arena b n) t k p
  dynamic-good alike =
      let g = dynamic-going b n k p 0 T F some_left l one t line in
      let small : F < 2 ^ width = subst (λ (x : ℕ). x < 2 ^ width) (sym line.fit) (set_of-lt (λ w. has T w && has (fits_on b p (step_on b p)) w) width) in
      sym (good-scan t (λ u. dynamic (board_arena b n) t (k - 1) (put_on p u (step_on b p))) c alike t 0 0 T F (omega arith) g.inside small) ∙ sym (g.rest ∙ plus-zero _)

-- with the last step filled all is done
pub last-alike : (b : List ℕ) (n k : ℕ) (p : Filled) (t : ℕ) → k ≡ 1 → Alike (dynamic_hunt b n t (k - 1) p) none 0
last-alike b n k p t e =
    let z : k - 1 ≡ 0 = omega arith in
    record {
      got = λ u. ap (λ (w : Search ℕ). w.got) (dynamic-full (board_arena b n) (k - 1) (put_on p u (step_on b p)) z t);
      trials = λ u. ap (λ (w : Search ℕ). w.trials) (dynamic-full (board_arena b n) (k - 1) (put_on p u (step_on b p)) z t);
    }
