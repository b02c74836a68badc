-- Laws of the searches: what one gets, and where.
use mathlib.Core.Path.{◌≡◌, refl, sym, ap, ◌∙◌, subst}
use mathlib.Core.Logic.{◌⊎◌, inl, inr, ◌↔◌}
use mathlib.Core.Option.{Option, none, some, none-ne-some, some-ne-none, some-injective}
use mathlib.Core.Bool.{Bool, true, false, not, ◌||◌, true≢false}
use mathlib.Core.List.{List, [], ◌∷◌, ◌++◌}
use Prim.Native.Nat.{ℕ, zero, suc, ◌<◌}
use lib.ListN.{take}
use lib.Seq.{take-nil}
use Rattle.sets.specs.Lists.{◌∈◌, cons_if, upto, keep, any}
use Rattle.sets.specs.Sets.{has}
use Rattle.sets.proofs.Lists.{keep-in, keep-mem, upto-in, upto-mem, any-cong, any-mem, mem-any}
use Rattle.games.specs.Arena.{Arena, Round}
use Rattle.games.specs.Walks.{Search, unbeaten, plus, or_else, seek, try, lacking, if_none, having, mark, tally, present, tries, desk}
use Rattle.games.specs.Good.{passes, can_leave}

-- ---- something or nothing

abbrev pub gets : {B : Type 0} → Option B → Bool
gets none = false
gets (some b) = true

pub gets-some : {B : Type 0} (o : Option B) → gets o ≡ true → (b : B) × (o ≡ some b)
gets-some none e = absurd (true≢false (sym e))
gets-some (some b) e = (b, refl)

pub gets_none : {B : Type 0} (o : Option B) → (o ≡ none) ↔ (gets o ≡ false)
gets_none none = (λ e. refl, λ e. refl)
gets_none (some b) = (λ e. absurd (some-ne-none b e), λ e. absurd (true≢false e))

pub gets-lacking : {B C : Type 0} (c : C) (o : Option B) → gets (lacking c o) ≡ not (gets o)
gets-lacking c none = refl
gets-lacking c (some b) = refl

pub lacking-some : {B C : Type 0} (c x : C) (o : Option B) → lacking c o ≡ some x → (o ≡ none) × (c ≡ x)
lacking-some c x none e = (refl, some-injective c x e)
lacking-some c x (some b) e = absurd (none-ne-some x e)

-- c is not got exactly if something is, and got exactly if nothing is
pub lacking-exactly : {B C : Type 0} (c : C) (o : Option B) → (lacking c o ≡ none) ↔ (gets o ≡ true)
lacking-exactly c none = (λ e. absurd (some-ne-none c e), λ e. absurd (true≢false (sym e)))
lacking-exactly c (some b) = (λ e. refl, λ e. refl)

pub lacked-exactly : {B C : Type 0} (c : C) (o : Option B) → (gets (lacking c o) ≡ true) ↔ (o ≡ none)
lacked-exactly c none = (λ e. refl, λ e. refl)
lacked-exactly c (some b) = (λ e. absurd (true≢false (sym e)), λ e. absurd (some-ne-none b e))

pub having-some : {B C : Type 0} (c x : C) (o : Option B) → having c o ≡ some x → (gets o ≡ true) × (c ≡ x)
having-some c x none e = absurd (none-ne-some x e)
having-some c x (some b) e = (refl, some-injective c x e)

pub having-none : {B C : Type 0} (c : C) (o : Option B) → having c o ≡ none → gets o ≡ false
having-none c none e = refl
having-none c (some b) e = absurd (some-ne-none c e)

-- ---- one thing, or else another

module _ {B : Type 0} (c : ℕ) (rest : Unit {0} → Search B) where
  -- nothing is got exactly if neither gets anything
  pub neither : (o : Option B) → ((or_else o c rest).got ≡ none) ↔ ((o ≡ none) × ((rest tt).got ≡ none))
  unfolding or_else plus
  neither none = (λ e. (refl, e), λ e. e.1)
  neither (some b) = (λ e. absurd (some-ne-none b e), λ e. absurd (some-ne-none b e.0))

  -- what is got is the first thing, or the other where the first is nothing
  pub either-got : (o : Option B) (b : B) → (or_else o c rest).got ≡ some b → (o ≡ some b) ⊎ ((o ≡ none) × ((rest tt).got ≡ some b))
  unfolding or_else plus
  either-got none b e = inr (refl, e)
  either-got (some x) b e = inl e

-- ---- going over a list

module _ {A B : Type 0} (f : A → Search B) where
  -- a search over a list gets something exactly if one of them does
  pub seek-gets : (xs : List A) → gets (seek f xs).got ≡ any (λ x. gets (f x).got) xs
  unfolding plus or_else seek any
  seek-gets [] = refl
  seek-gets (x ∷ xs) = go (f x).got (f x).trials (seek-gets xs)
    where
      go : (o : Option B) (c : ℕ) → gets (seek f xs).got ≡ any (λ y. gets (f y).got) xs
          → gets (or_else o c (λ _. seek f xs)).got ≡ gets o || any (λ y. gets (f y).got) xs
      go (some b) c r = refl
      go none c r = r

  -- what a search over a list gets: from x, after nothing from those before
  pub record Found (xs : List A) (b : B) : Type 0 where
    pub before : List A
    pub at : A
    pub rest : List A
    pub split : xs ≡ before ++ (at ∷ rest)
    pub missed : (y : A) → y ∈ before → (f y).got ≡ none
    pub hit : (f at).got ≡ some b

  pub seek_found : (xs : List A) (b : B) → (seek f xs).got ≡ some b → Found xs b
  unfolding plus or_else seek
  seek_found [] b e = absurd (none-ne-some b e)
  seek_found (x ∷ xs) b e = go (seek_found xs b) (f x).got refl e
    where
      go : ((seek f xs).got ≡ some b → Found xs b) → (o : Option B) → (f x).got ≡ o
          → (or_else o (f x).trials (λ _. seek f xs)).got ≡ some b → Found (x ∷ xs) b
      go r (some c) q h = record { before = []; at = x; rest = xs; split = refl; missed = λ y m. absurd m; hit = q ∙ h }
      go r none q h =
          let k = r h in
          record {
            before = x ∷ k.before;
            at = k.at;
            rest = k.rest;
            split = ap (λ (l : List A). x ∷ l) k.split;
            missed = missed-too k.before k.missed q;
            hit = k.hit;
          }
        where
          missed-too : (ys : List A) → ((y : A) → y ∈ ys → (f y).got ≡ none) → (f x).got ≡ none → (y : A) → y ∈ (x ∷ ys) → (f y).got ≡ none
          missed-too ys m e y (inl z) = ap (λ w. (f w).got) z ∙ e
          missed-too ys m e y (inr z) = m y z

  pub seek-none : (xs : List A) → (seek f xs).got ≡ none → (x : A) → x ∈ xs → (f x).got ≡ none
  seek-none xs e x m = go (f x).got refl
    where
      nothing : any (λ y. gets (f y).got) xs ≡ false
      nothing = sym (seek-gets xs) ∙ (gets_none (seek f xs).got).0 e

      go : (o : Option B) → (f x).got ≡ o → (f x).got ≡ none
      go none q = q
      go (some b) q = absurd (true≢false (sym (mem-any (λ y. gets (f y).got) xs x m (ap gets q)) ∙ nothing))

-- what stands where a list is split is in it
pub split-mem : {A : Type 0} (xs ys : List A) (x : A) → x ∈ (xs ++ (x ∷ ys))
split-mem [] ys x = inl refl
split-mem (w ∷ xs) ys x = inr (split-mem xs ys x)

pub found_in : {A B : Type 0} (f : A → Search B) (xs : List A) (b : B) (h : Found f xs b) → h.at ∈ xs
found_in f xs b h = subst (λ l. h.at ∈ l) (sym h.split) (split-mem h.before h.rest h.at)

-- ---- a turn of the desk

module _ {P B : Type 0} (judge : P → Search B) where
  pub try-some : (o : Option P) (b : B) → (try judge o).got ≡ some b → (q : P) × (o ≡ some q) × ((judge q).got ≡ some b)
  unfolding plus try
  try-some none b e = absurd (none-ne-some b e)
  try-some (some q) b e = (q, refl, e)

module _ (G : Arena) where
  pub present-in : (A u : ℕ) → u ∈ present G A → (u < G.people) × (has A u ≡ false)
  unfolding present
  present-in A u m = let k = keep-in (λ v. not (has A v)) u (upto G.people) m in (upto-in G.people u k.0, not-true (has A u) k.1)
    where
      not-true : (b : Bool) → not b ≡ true → b ≡ false
      not-true true e = absurd (true≢false (sym e))
      not-true false e = refl

  pub present-mem : (A u : ℕ) → u < G.people → has A u ≡ false → u ∈ present G A
  unfolding present
  present-mem A u h e = keep-mem (λ v. not (has A v)) u (upto G.people) (upto-mem G.people u h) (ap not e)

  pub can_leave-cong : (f g : G.Pos → Bool) → ((q : G.Pos) → f q ≡ g q) → (p : G.Pos) (u : ℕ) → can_leave G f p u ≡ can_leave G g p u
  unfolding can_leave
  can_leave-cong f g h p u = any-cong _ _ (G.moves p u) (λ m k. go (G.after p m))
    where
      go : (o : Option G.Pos) → passes G f o ≡ passes G g o
      go none = refl
      go (some q) = h q

  -- a person who can leave a position that passes is one round's work, and the other way round
  pub can_leave-round : (test : G.Pos → Bool) (A : ℕ) (p : G.Pos) (u : ℕ) → u < G.people → has A u ≡ false → can_leave G test p u ≡ true
      → (q : G.Pos) × (r : Round G A p q) × (test q ≡ true) × (r.person ≡ u)
  unfolding can_leave
  can_leave-round test A p u h e k =
      let m = any-mem (λ m. passes G test (G.after p m)) (G.moves p u) k in
      go m.0 m.1 (G.after p m.0) refl m.2
    where
      go : (m : G.Move) → m ∈ G.moves p u → (o : Option G.Pos) → G.after p m ≡ o → passes G test o ≡ true → (q : G.Pos) × (r : Round G A p q) × (test q ≡ true) × (r.person ≡ u)
      go m i none a t = absurd (true≢false (sym t))
      go m i (some q) a t = (q, record { person = u; listed = h; present = e; move = m; offered = i; leaves = a }, t, refl)

  pub round-can_leave : (test : G.Pos → Bool) (A : ℕ) (p q : G.Pos) (r : Round G A p q) → test q ≡ true → can_leave G test p r.person ≡ true
  unfolding can_leave
  round-can_leave test A p q r t =
      mem-any (λ m. passes G test (G.after p m)) (G.moves p r.person) r.move r.offered (ap (passes G test) r.leaves ∙ t)

  module _ {B : Type 0} (judge : G.Pos → Search B) where
    abbrev pub well : G.Pos → Bool
    well q = gets (judge q).got

    pub tries-gets : (p : G.Pos) (u : ℕ) → gets (tries G judge p u).got ≡ can_leave G well p u
    unfolding plus tries try can_leave
    tries-gets p u = seek-gets (λ m. try judge (G.after p m)) (G.moves p u) ∙ any-cong _ _ (G.moves p u) (λ m k. go (G.after p m))
      where
        go : (o : Option G.Pos) → gets (try judge o).got ≡ passes G well o
        go none = refl
        go (some q) = refl

    -- a turn of the desk gets something exactly if some round leaves a position judged well
    pub desk-wins : (A : ℕ) (p : G.Pos) → (gets (desk G judge A p).got ≡ true) ↔ ((q : G.Pos) × Round G A p q × (well q ≡ true))
    unfolding desk
    desk-wins A p = (there, back)
      where
        there : gets (desk G judge A p).got ≡ true → (q : G.Pos) × Round G A p q × (well q ≡ true)
        there e =
            let u = any-mem (λ v. gets (tries G judge p v).got) (present G A) (sym (seek-gets (tries G judge p) (present G A)) ∙ e) in
            let i = present-in A u.0 u.1 in
            let r = can_leave-round well A p u.0 i.0 i.1 (sym (tries-gets p u.0) ∙ u.2) in
            (r.0, r.1, r.2)

        back : (q : G.Pos) × Round G A p q × (well q ≡ true) → gets (desk G judge A p).got ≡ true
        back k =
            let r = k.1 in
            seek-gets (tries G judge p) (present G A)
            ∙ mem-any (λ v. gets (tries G judge p v).got) (present G A) r.person (present-mem A r.person r.listed r.present)
            (tries-gets p r.person ∙ round-can_leave well A p k.0 r k.2)

  -- a turn of the desk against the away side's next turn, whose verdict is a game's: it gets something exactly if some round leaves a won game
  pub turn-wins : (next : G.Pos → Search ℕ) (Won : G.Pos → Type 0) → ((q : G.Pos) → ((next q).got ≡ none) ↔ Won q) → (A : ℕ) (p : G.Pos)
      → (gets (desk G (λ q. unbeaten (next q)) A p).got ≡ true) ↔ ((q : G.Pos) × Round G A p q × Won q)
  unfolding if_none
  turn-wins next Won ih A p =
      let d = desk-wins (λ q. unbeaten (next q)) A p in (
        λ e. let r = d.0 e in (r.0, r.1, (ih r.0).0 ((lacked-exactly (tt {0}) (next r.0).got).0 r.2)),
        λ r. d.1 (r.0, r.1, (lacked-exactly (tt {0}) (next r.0).got).1 ((ih r.0).1 r.2)),
      )

-- ---- the tally: what it gets is the beginning of the whole list of those for whom something is got

pub tally-keep : {B : Type 0} (f : ℕ → Search B) (us : List ℕ) (w : ℕ) → (tally f us w).got ≡ take w (keep (λ u. gets (f u).got) us)
unfolding mark tally keep
tally-keep f [] w = sym (take-nil w)
tally-keep f (u ∷ us) zero = refl
tally-keep {B} f (u ∷ us) (suc w) = go (λ v. tally-keep f us v) (f u).got
  where
    ok : ℕ → Bool
    ok v = gets (f v).got

    go : ((v : ℕ) → (tally f us v).got ≡ take v (keep ok us)) → (o : Option B)
        → (mark o (f u).trials u (λ v. tally f us v) w).got ≡ take (suc w) (cons_if (gets o) u (keep ok us))
    go r (some b) = ap (λ (l : List ℕ). u ∷ l) (r w)
    go r none = r (suc w)
