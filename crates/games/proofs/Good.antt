-- The dynamic verdict, found by counting people, agrees with the game over every set of at most t absentees before every step, at every position.
use mathlib.Core.Path.{◌≡◌, refl, sym, ap, ◌∙◌}
use mathlib.Core.Logic.{◌↔◌}
use mathlib.Core.Option.{none, some}
use mathlib.Core.Bool.{Bool, true, false, not, true≢false}
use mathlib.Core.List.{List}
use Prim.Native.Nat.{ℕ, zero, suc, ◌≤◌, ◌<◌, min}
use native.Mathlib.Omega.{arith}
use borrow.Author.Tests.{ltb-true, ltb-false, lt-ltb, le-ltb, leb-true, le-leb, lt-leb}
use lib.Dec.{leb, ltb}
use lib.ListN.{length, take, length-take}
use lib.Seq.{take_all}
use Rattle.sets.specs.Lists.{only_if, upto, keep}
use Rattle.sets.specs.Sets.{has, set_from, size}
use Rattle.sets.proofs.Lists.{only_if-some, keep-cong}
use Rattle.sets.proofs.Counting.{pigeon, set_of-lt, has-set_of, size-set_of, length-keep, set_from-keep}
use Rattle.games.specs.Arena.{Arena, Round}
use Rattle.games.specs.Walks.{Search, if_none, tally, too_few, tries, dynamic}
use Rattle.games.specs.Games.{Absent, Dynamic}
use Rattle.games.specs.Good.{can_leave, good, good_count, good_people}
use Rattle.games.proofs.Searches.{gets, gets_none, gets-lacking, can_leave-cong, can_leave-round, round-can_leave, tries-gets, tally-keep}

module _ (G : Arena) where
  -- ---- the walk finds the good people

  -- the position is good_walk: how the walk judges what a person leaves
  abbrev pub good_walk : ℕ → ℕ → G.Pos → Search (Unit {0})
  good_walk t k q = if_none (tt {0}) (dynamic G t k q)

  found : ℕ → ℕ → G.Pos → List ℕ
  found t k p = (tally (tries G (good_walk t k) p) (upto G.people) (suc t)).got

  abbrev pub Judged : ℕ → ℕ → Type 0
  Judged t k = (q : G.Pos) → gets (dynamic G t k q).got ≡ not (good G t k q)

  not-not : (b : Bool) → not (not b) ≡ b
  not-not true = refl
  not-not false = refl

  pub well : (t k : ℕ) → Judged t k → (q : G.Pos) → gets (good_walk t k q).got ≡ good G t k q
  unfolding if_none
  well t k ih q = gets-lacking (tt {0}) (dynamic G t k q).got ∙ ap not (ih q) ∙ not-not (good G t k q)

  found-is : (t k : ℕ) → Judged t k → (p : G.Pos) → found t k p ≡ take (suc t) (keep (can_leave G (good G t k) p) (upto G.people))
  unfolding found
  found-is t k ih p =
      tally-keep (tries G (good_walk t k) p) (upto G.people) (suc t)
      ∙ ap (take (suc t)) (keep-cong _ (can_leave G (good G t k) p) (upto G.people) (λ u m. tries-gets G (good_walk t k) p u ∙ can_leave-cong G _ (good G t k) (well t k ih) p u))

  found-length : (t k : ℕ) → Judged t k → (p : G.Pos) → length (found t k p) ≡ min (suc t) (good_count G t k p)
  found-length t k ih p = rw (found-is t k ih p, length-take, length-keep)

  -- the walk gets nothing exactly if the position is good
  pub judged : (t k : ℕ) (p : G.Pos) → gets (dynamic G t k p).got ≡ not (good G t k p)
  unfolding dynamic good too_few found
  judged t zero p = refl
  judged t (suc k) p = gets-if (leb (length (found t k p)) t) (set_from (found t k p)) ∙ ap (λ (n : ℕ). leb n t) (found-length t k (judged t k) p) ∙ few (good_count G t k p)
    where
      gets-if : (b : Bool) (x : ℕ) → gets (only_if b x) ≡ b
      gets-if true x = refl
      gets-if false x = refl

      few : (g : ℕ) → leb (min (suc t) g) t ≡ not (ltb t g)
      few g = go (ltb t g) refl
        where
          go : (b : Bool) → ltb t g ≡ b → leb (min (suc t) g) t ≡ not b
          go true e = let h = ltb-true t g e in lt-leb (min (suc t) g) t (omega arith)
          go false e = let h = ltb-false t g e in le-leb (min (suc t) g) t (omega arith)

  pub dynamic-good : (t k : ℕ) (p : G.Pos) → ((dynamic G t k p).got ≡ none) ↔ (good G t k p ≡ true)
  dynamic-good t k p = go (good G t k p) refl
    where
      go : (b : Bool) → good G t k p ≡ b → ((dynamic G t k p).got ≡ none) ↔ (b ≡ true)
      go true e = (λ x. refl, λ x. (gets_none (dynamic G t k p).got).1 (judged t k p ∙ ap not e))
      go false e = (λ x. absurd (true≢false (sym (judged t k p ∙ ap not e) ∙ (gets_none (dynamic G t k p).got).0 x)), λ x. absurd (true≢false (sym x)))

  pub dynamic-bad : (t k : ℕ) (p : G.Pos) (A : ℕ) → (dynamic G t k p).got ≡ some A → good G t k p ≡ false
  dynamic-bad t k p A e = go (good G t k p) (sym (ap gets e) ∙ judged t k p)
    where
      go : (b : Bool) → true ≡ not b → b ≡ false
      go true h = absurd (true≢false h)
      go false h = refl

  -- the set shown is that of all good people, who are at most t
  pub record DynamicShown (t k : ℕ) (p : G.Pos) (A : ℕ) : Type 0 where
    pub all : A ≡ good_people G t k p
    pub few : good_count G t k p ≤ t
    pub absent : Absent G.people t A

  pub good_people-absent : (t k : ℕ) (p : G.Pos) → good_count G t k p ≤ t → Absent G.people t (good_people G t k p)
  unfolding good_people
  good_people-absent t k p h =
      record { known = set_of-lt (can_leave G (good G t k) p) G.people; few = rw (size-set_of (can_leave G (good G t k) p) G.people) h }

  pub dynamic-shown : (t k : ℕ) (p : G.Pos) (A : ℕ) → (dynamic G t (suc k) p).got ≡ some A → DynamicShown t k p A
  unfolding dynamic too_few found good_people
  dynamic-shown t k p A e =
      let i = only_if-some (leb (length (found t k p)) t) (set_from (found t k p)) A e in
      let few : good_count G t k p ≤ t = omega (arith, leb-true (length (found t k p)) t i.0, found-length t k (judged t k) p) in
      let all : A ≡ good_people G t k p =
      sym i.1
      ∙ ap set_from (found-is t k (judged t k) p ∙ take_all (suc t) (keep (can_leave G (good G t k) p) (upto G.people)) (omega (arith, length-keep (can_leave G (good G t k) p) G.people)))
      ∙ set_from-keep (can_leave G (good G t k) p) G.people in
      record { all = all; few = few; absent = rw all (good_people-absent t k p few) }

  -- ---- counting agrees with the game

  pub good_more : (t k : ℕ) (p : G.Pos) → (good G t (suc k) p ≡ true) ↔ (t < good_count G t k p)
  unfolding good
  good_more t k p = (ltb-true t (good_count G t k p), lt-ltb t (good_count G t k p))

  pub good-few : (t k : ℕ) (p : G.Pos) → (good G t (suc k) p ≡ false) ↔ (good_count G t k p ≤ t)
  unfolding good
  good-few t k p = (ltb-false t (good_count G t k p), le-ltb t (good_count G t k p))

  -- where more than t people are good, one of them is left by any t absentees
  pub good_left : (t k A : ℕ) (p : G.Pos) → t < good_count G t k p → Absent G.people t A → (q : G.Pos) × Round G A p q × (good G t k q ≡ true)
  unfolding size
  good_left t k A p h a =
      let v = pigeon (can_leave G (good G t k) p) (has A) G.people (omega (arith, a.few)) in
      let r = can_leave-round G (good G t k) A p v.0 v.1 v.3 v.2 in
      (r.0, r.1, r.2)

  -- with all good people away no round leaves a good position
  pub good-away : (t k : ℕ) (p q : G.Pos) → Round G (good_people G t k p) p q → good G t k q ≡ false
  unfolding good_people
  good-away t k p q r = go (good G t k q) refl
    where
      go : (b : Bool) → good G t k q ≡ b → b ≡ false
      go true e =
          absurd (true≢false (sym (round-can_leave G (good G t k) (good_people G t k p) p q r e)
          ∙ sym (has-set_of (can_leave G (good G t k) p) G.people r.person r.listed) ∙ r.present))
      go false e = refl

  pub good-exactly : (t k : ℕ) (p : G.Pos) → (good G t k p ≡ true) ↔ Dynamic G.people (Round G) t k p
  good-exactly t zero p = (λ e. tt, λ g. unfold good in refl)
  good-exactly t (suc k) p = (there (good-exactly t k), back (good-exactly t k))
    where
      there : ((q : G.Pos) → (good G t k q ≡ true) ↔ Dynamic G.people (Round G) t k q) → good G t (suc k) p ≡ true → Dynamic G.people (Round G) t (suc k) p
      there ih e A a = let d = good_left t k A p ((good_more t k p).0 e) a in (d.0, d.1, (ih d.0).0 d.2)

      back : ((q : G.Pos) → (good G t k q ≡ true) ↔ Dynamic G.people (Round G) t k q) → Dynamic G.people (Round G) t (suc k) p → good G t (suc k) p ≡ true
      back ih g = go (ltb t (good_count G t k p)) refl
        where
          go : (b : Bool) → ltb t (good_count G t k p) ≡ b → good G t (suc k) p ≡ true
          go true e = (good_more t k p).1 (ltb-true t (good_count G t k p) e)
          go false e =
              let r = g (good_people G t k p) (good_people-absent t k p (ltb-false t (good_count G t k p) e)) in
              absurd (true≢false (sym ((ih r.0).1 r.2) ∙ good-away t k p r.0 r.1))

  -- the verdict is the game's
  pub dynamic-exactly : (t k : ℕ) (p : G.Pos) → ((dynamic G t k p).got ≡ none) ↔ Dynamic G.people (Round G) t k p
  dynamic-exactly t k p = (
    λ e. (good-exactly t k p).0 ((dynamic-good t k p).0 e),
    λ g. (dynamic-good t k p).1 ((good-exactly t k p).1 g),
  )
