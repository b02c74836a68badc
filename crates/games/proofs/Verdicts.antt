-- Each walk's verdict is its game's: a plan is got exactly if there is one, and it is the first; nothing is got by a verdict's walk exactly if
-- the desk wins; and what is got otherwise is a set that beats it.
use mathlib.Core.Path.{◌≡◌, refl, sym, ap, ◌∙◌, subst}
use mathlib.Core.Logic.{◌↔◌}
use mathlib.Core.Option.{Option, none, some, some-injective}
use mathlib.Core.Bool.{true, true≢false}
use mathlib.Core.List.{List, ◌∷◌, ◌++◌}
use Prim.Native.Nat.{ℕ, zero, suc, ◌<◌, zero-le}
use lib.Pow.{pow_pos}
use Rattle.sets.specs.Lists.{◌∈◌, upto}
use Rattle.sets.specs.Sets.{sets}
use Rattle.sets.proofs.Ascending.{Ascending, upto-ascending, keep-ascending, lower-before}
use Rattle.sets.proofs.Bits.{has-empty}
use Rattle.sets.proofs.Counting.{size-empty}
use Rattle.sets.proofs.Listed.{sets-mem, sets-in, within-mem, mem-within, sets-ascending}
use Rattle.games.specs.Arena.{Arena, Round}
use Rattle.games.specs.Walks.{Search, plus, seek, if_none, present, tries, desk, try, plan, static, decremental}
use Rattle.games.specs.Games.{Absent, Contains, Planned, Static, Decremental}
use Rattle.games.specs.Good.{First}
use Rattle.games.proofs.Searches.{gets, gets-some, gets_none, lacking-some, lacking-exactly, seek_found, seek-none, found_in, try-some, present-in, present-mem, desk-wins, turn-wins}

-- ---- sets of absentees

pub nobody : (n t : ℕ) → Absent n t 0
nobody n t = record { known = pow_pos n; few = rw (size-empty n) zero-le }

pub contains-empty : (n A : ℕ) → Contains n A 0
contains-empty n A v h e = absurd (true≢false (sym e ∙ has-empty v))

-- the sets that are gone over are those that the away side may name
pub absent-listed : (n t c A : ℕ) → Absent n t A → Contains n A c → A ∈ sets n t c
absent-listed n t c A a w = sets-mem n t c A a.known (mem-within n c A w) a.few

pub listed-absent : (n t c A : ℕ) → A ∈ sets n t c → Absent n t A × Contains n A c
listed-absent n t c A m = let k = sets-in n t c A m in (record { known = k.0; few = k.2 }, within-mem n c A k.1)

-- ---- a search over sets for the first that beats the desk

module _ {B : Type 0} (f : ℕ → Search B) (n t c : ℕ) where
  abbrev beaten : Search ℕ
  beaten = seek (λ A. if_none A (f A)) (sets n t c)

  -- no set is got exactly if the desk gets something with each of them away
  pub beaten-none : (beaten.got ≡ none) ↔ ((A : ℕ) → Absent n t A → Contains n A c → gets (f A).got ≡ true)
  unfolding if_none
  beaten-none = (there, back)
    where
      there : beaten.got ≡ none → (A : ℕ) → Absent n t A → Contains n A c → gets (f A).got ≡ true
      there e A a w = (lacking-exactly A (f A).got).0 (seek-none (λ x. if_none x (f x)) (sets n t c) e A (absent-listed n t c A a w))

      back : ((A : ℕ) → Absent n t A → Contains n A c → gets (f A).got ≡ true) → beaten.got ≡ none
      back h = go beaten.got refl
        where
          go : (o : Option ℕ) → beaten.got ≡ o → beaten.got ≡ none
          go none q = q
          go (some A) q =
              let k = seek_found (λ x. if_none x (f x)) (sets n t c) A q in
              let s = lacking-some k.at A (f k.at).got k.hit in
              let a = listed-absent n t c k.at (found_in (λ x. if_none x (f x)) (sets n t c) A k) in
              absurd (true≢false (sym (h k.at a.0 a.1) ∙ ap gets s.0))

  -- the set got: the away side may name it, the desk gets nothing, and with a set of lower number away it would have
  pub record Beaten (A : ℕ) : Type 0 where
    pub absent : Absent n t A
    pub contains : Contains n A c
    pub nothing : (f A).got ≡ none
    pub first : (B : ℕ) → B < A → Absent n t B → Contains n B c → gets (f B).got ≡ true

  pub beaten-some : (A : ℕ) → beaten.got ≡ some A → Beaten A
  unfolding if_none
  beaten-some A e =
      let k = seek_found (λ x. if_none x (f x)) (sets n t c) A e in
      let s = lacking-some k.at A (f k.at).got k.hit in
      let a = listed-absent n t c k.at (found_in (λ x. if_none x (f x)) (sets n t c) A k) in
      subst Beaten s.1
      (record {
        absent = a.0;
        contains = a.1;
        nothing = s.0;
        first = λ x l b w.
            let i = lower-before k.before k.rest k.at x (subst Ascending k.split (sets-ascending n t c))
            (subst (λ l. x ∈ l) k.split (absent-listed n t c x b w)) l in
            (lacking-exactly x (f x).got).0 (k.missed x i);
      })

module _ (G : Arena) where
  -- ---- plan

  pub plan-line : (A k : ℕ) (p : G.Pos) → (gets (plan G A k p).got ≡ true) ↔ Planned G.people (Round G) A k p
  unfolding plan
  plan-line A zero p = (λ e. (p, refl), λ l. refl)
  plan-line A (suc k) p = (there (plan-line A k), back (plan-line A k))
    where
      there : ((q : G.Pos) → (gets (plan G A k q).got ≡ true) ↔ Planned G.people (Round G) A k q)
          → gets (desk G (plan G A k) A p).got ≡ true → Planned G.people (Round G) A (suc k) p
      there ih e =
          let d = (desk-wins G (plan G A k) A p).0 e in
          let l = (ih d.0).0 d.2 in
          (l.0, (d.0, d.1, l.1))

      back : ((q : G.Pos) → (gets (plan G A k q).got ≡ true) ↔ Planned G.people (Round G) A k q)
          → Planned G.people (Round G) A (suc k) p → gets (desk G (plan G A k) A p).got ≡ true
      back ih l = (desk-wins G (plan G A k) A p).1 (l.1.0, l.1.1, (ih l.1.0).1 (l.0, l.1.2))

  -- a plan is got exactly if there is one
  pub plan-exactly : (A k : ℕ) (p : G.Pos) → ((q : G.Pos) × ((plan G A k p).got ≡ some q)) ↔ Planned G.people (Round G) A k p
  plan-exactly A k p = (λ q. (plan-line A k p).0 (ap gets q.1), λ l. gets-some (plan G A k p).got ((plan-line A k p).1 l))

  -- where a desk's turn gets something, the round that it goes by, and that no sooner one would have got anything
  module _ {B : Type 0} (judge : G.Pos → Search B) (A : ℕ) (p : G.Pos) where
    pub record Turn (b : B) : Type 0 where
      pub to : G.Pos
      pub round : Round G A p to
      pub hit : (judge to).got ≡ some b
      pub lower : (s : G.Pos) (y : Round G A p s) → y.person < round.person → (judge s).got ≡ none
      pub before : List G.Move
      pub behind : List G.Move
      pub split : G.moves p round.person ≡ before ++ (round.move ∷ behind)
      pub sooner : (m : G.Move) → m ∈ before → (s : G.Pos) → ◌≡◌ {A = Option G.Pos} (G.after p m) (some s) → (judge s).got ≡ none

    pub desk-turn : (b : B) → (desk G judge A p).got ≡ some b → Turn b
    unfolding plus desk tries present try
    desk-turn b e =
        let u = seek_found (tries G judge p) (present G A) b e in
        let i = present-in G A u.at (found_in (tries G judge p) (present G A) b u) in
        let m = seek_found (λ x. try judge (G.after p x)) (G.moves p u.at) b u.hit in
        let q = try-some judge (G.after p m.at) b m.hit in
        record {
          to = q.0;
          round = record {
            person = u.at;
            listed = i.0;
            present = i.1;
            move = m.at;
            offered = found_in (λ x. try judge (G.after p x)) (G.moves p u.at) b m;
            leaves = q.1;
          };
          hit = q.2;
          lower = λ s y l.
              let z = lower-before u.before u.rest u.at y.person (subst Ascending u.split (keep-ascending _ (upto G.people) (upto-ascending G.people)))
              (subst (λ xs. y.person ∈ xs) u.split (present-mem G A y.person y.listed y.present)) l in
              rw y.leaves at (seek-none (λ x. try judge (G.after p x)) (G.moves p y.person) (u.missed y.person z) y.move y.offered);
          before = m.before;
          behind = m.rest;
          split = m.split;
          sooner = λ x z s a. rw a at (m.missed x z);
        }

  -- and the plan got is the first in the walk's order
  pub plan-first : (A k : ℕ) (p q : G.Pos) → (plan G A k p).got ≡ some q → First G A k p q
  unfolding plan
  plan-first A zero p q e = some-injective p q e
  plan-first A (suc k) p q e =
      let d = desk-turn (plan G A k) A p q e in (
        d.to,
        d.round,
        record {
          lower = λ s y l h. none-planned s (d.lower s y l) h;
          before = d.before;
          behind = d.behind;
          split = d.split;
          sooner = λ m i s a h. none-planned s (d.sooner m i s a) h;
        },
        plan-first A k d.to q d.hit,
      )
    where
      none-planned : (s : G.Pos) → (plan G A k s).got ≡ none → Planned G.people (Round G) A k s → ⊥
      none-planned s e h = true≢false (sym ((plan-line A k s).1 h) ∙ (gets_none (plan G A k s).got).0 e)

  -- ---- static

  pub static-exactly : (t k : ℕ) (p : G.Pos) → ((static G t k p).got ≡ none) ↔ Static G.people (Round G) t k p
  unfolding static
  static-exactly t k p =
      let b = beaten-none (λ A. plan G A k p) G.people t 0 in (
        λ e A a. (plan-line A k p).0 (b.0 e A a (contains-empty G.people A)),
        λ h. b.1 (λ A a w. (plan-line A k p).1 (h A a)),
      )

  -- the set shown: at most t people, no plan without them, and it is the first such set in ascending number
  pub record StaticShown (t k : ℕ) (p : G.Pos) (A : ℕ) : Type 0 where
    pub absent : Absent G.people t A
    pub unplanned : Planned G.people (Round G) A k p → ⊥
    pub first : (B : ℕ) → B < A → Absent G.people t B → Planned G.people (Round G) B k p

  pub static-shown : (t k : ℕ) (p : G.Pos) (A : ℕ) → (static G t k p).got ≡ some A → StaticShown t k p A
  unfolding static
  static-shown t k p A e =
      let b = beaten-some (λ x. plan G x k p) G.people t 0 A e in
      record {
        absent = b.absent;
        unplanned = λ h. true≢false (sym ((plan-line A k p).1 h) ∙ (gets_none (plan G A k p).got).0 b.nothing);
        first = λ x l a. (plan-line x k p).0 (b.first x l a (contains-empty G.people x));
      }

  -- ---- decremental

  -- the away side's turn that the desk survives
  survives : (t k A : ℕ) → G.Pos → Search (Unit {0})
  survives t k A q = if_none (tt {0}) (decremental G t k A q)

  -- the desk's turn against A
  against : (t k A : ℕ) → G.Pos → Search (Unit {0})
  against t k A p = desk G (survives t k A) A p

  abbrev Answered : (t k A : ℕ) → G.Pos → Type 0
  Answered t k A p = (q : G.Pos) × Round G A p q × Decremental G.people (Round G) t k A q

  abbrev Exactly : (t k : ℕ) → Type 0
  Exactly t k = (c : ℕ) (p : G.Pos) → ((decremental G t k c p).got ≡ none) ↔ Decremental G.people (Round G) t k c p

  answered : (t k : ℕ) → Exactly t k → (A : ℕ) (p : G.Pos) → (gets (against t k A p).got ≡ true) ↔ Answered t k A p
  unfolding against survives
  answered t k ih A p = turn-wins G (decremental G t k A) (Decremental G.people (Round G) t k A) (ih A) A p

  pub decremental-exactly : (t k c : ℕ) (p : G.Pos) → ((decremental G t k c p).got ≡ none) ↔ Decremental G.people (Round G) t k c p
  unfolding decremental against survives
  decremental-exactly t zero c p = (λ e. tt, λ g. refl)
  decremental-exactly t (suc k) c p =
      let ih : Exactly t k = decremental-exactly t k in
      let b = beaten-none (λ A. against t k A p) G.people t c in (
        λ e A a w. (answered t k ih A p).0 (b.0 e A a w),
        λ g. b.1 (λ A a w. (answered t k ih A p).1 (g A a w)),
      )

  -- the set shown: the away side may name it, no answer of the desk wins, and it is the first such set in ascending number
  pub record DecrementalShown (t k c : ℕ) (p : G.Pos) (A : ℕ) : Type 0 where
    pub absent : Absent G.people t A
    pub contains : Contains G.people A c
    pub beats : Answered t k A p → ⊥
    pub first : (B : ℕ) → B < A → Absent G.people t B → Contains G.people B c → Answered t k B p

  pub decremental-shown : (t k c : ℕ) (p : G.Pos) (A : ℕ) → (decremental G t (suc k) c p).got ≡ some A → DecrementalShown t k c p A
  unfolding decremental against survives
  decremental-shown t k c p A e =
      let b = beaten-some (λ x. against t k x p) G.people t c A e in
      record {
        absent = b.absent;
        contains = b.contains;
        beats = λ r. true≢false (sym ((answered t k (decremental-exactly t k) A p).1 r) ∙ (gets_none (against t k A p).got).0 b.nothing);
        first = λ x l a w. (answered t k (decremental-exactly t k) x p).0 (b.first x l a w);
      }
