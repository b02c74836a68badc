-- Walks that coincide: one arena seen through another. Positions and moves are mapped, wherever play can come to, and the walks are the same.
use mathlib.Core.Path.{◌≡◌, refl, sym, ap, ap₂, ◌∙◌}
use mathlib.Core.Logic.{inl, inr}
use mathlib.Core.Option.{Option, none, some}
use mathlib.Core.List.{List, [], ◌∷◌, map}
use Prim.Native.Nat.{ℕ, zero, suc, ◌<◌}
use Rattle.sets.specs.Lists.{◌∈◌, upto}
use Rattle.sets.specs.Sets.{sets}
use Rattle.sets.proofs.Lists.{upto-in}
use Rattle.games.specs.Arena.{Arena}
use Rattle.games.specs.Walks.{Walk, Search, plus, or_else, seek, try, if_none, if_some, mark, tally, too_few, present, tries, desk, plan, static, decremental, one_shot, dynamic, advice}
use Rattle.games.proofs.Searches.{present-in}

-- ---- searches that agree on what they go over

pub seek-cong : {A B : Type 0} (f g : A → Search B) (xs : List A) → ((x : A) → x ∈ xs → f x ≡ g x) → seek f xs ≡ seek g xs
unfolding seek
seek-cong f g [] h = refl
seek-cong f g (x ∷ xs) h = ap₂ (λ w r. or_else w.got w.trials (λ _. r)) (h x (inl refl)) (seek-cong f g xs (λ y m. h y (inr m)))

pub tally-cong : {B : Type 0} (f g : ℕ → Search B) (us : List ℕ) (w : ℕ) → ((u : ℕ) → u ∈ us → f u ≡ g u) → tally f us w ≡ tally g us w
unfolding tally
tally-cong f g [] w h = refl
tally-cong f g (u ∷ us) zero h = refl
tally-cong {B} f g (u ∷ us) (suc w) h = ap (λ r. mark r.got r.trials u (λ v. tally f us v) w) (h u (inl refl)) ∙ go (g u).got (g u).trials (λ v. tally-cong f g us v (λ y m. h y (inr m)))
  where
    go : (o : Option B) (c : ℕ) → ((v : ℕ) → tally f us v ≡ tally g us v) → mark o c u (λ v. tally f us v) w ≡ mark o c u (λ v. tally g us v) w
    go o c r = ap (λ (k : ℕ → Walk (List ℕ)). mark o c u k w) (λ i v. r v i)

-- ---- arenas

abbrev pub mapped : {A B : Type 0} → (A → B) → Option A → Option B
mapped f none = none
mapped f (some a) = some (f a)

-- the same walk, told otherwise
abbrev pub told : {A B : Type 0} → (A → B) → Search A → Search B
told f w = record { got = mapped f w.got; trials = w.trials }

seek-map : {A B C : Type 0} (f : B → Search C) (g : A → B) (xs : List A) → seek f (map g xs) ≡ seek (λ x. f (g x)) xs
unfolding seek
seek-map f g [] = refl
seek-map f g (x ∷ xs) = ap (λ r. or_else (f (g x)).got (f (g x)).trials (λ _. r)) (seek-map f g xs)

pub seek-told : {A B C : Type 0} (h : B → C) (f : A → Search B) (xs : List A) → told h (seek f xs) ≡ seek (λ x. told h (f x)) xs
unfolding seek or_else plus
seek-told h f [] = refl
seek-told {A} {B} h f (x ∷ xs) = go (f x).got (f x).trials (seek-told h f xs)
  where
    go : (o : Option B) (c : ℕ) → told h (seek f xs) ≡ seek (λ y. told h (f y)) xs
        → told h (or_else o c (λ _. seek f xs)) ≡ or_else (mapped h o) c (λ _. seek (λ y. told h (f y)) xs)
    go (some b) c e = refl
    go none c e = ap (plus c) e

module _ (G H : Arena) (same : G.people ≡ H.people) (f : G.Pos → H.Pos) (g : G.Pos → G.Move → H.Move) (Inv : G.Pos → Type 0) where
  -- at a position that play can come to: the same moves, which leave the same positions
  pub record Agrees (p : G.Pos) (u : ℕ) : Type 0 where
    pub offered : H.moves (f p) u ≡ map (g p) (G.moves p u)
    pub left : (m : G.Move) → m ∈ G.moves p u → ◌≡◌ {A = Option H.Pos} (H.after (f p) (g p m)) (mapped f (G.after p m))
    pub stays : (m : G.Move) → m ∈ G.moves p u → (q : G.Pos) → ◌≡◌ {A = Option G.Pos} (G.after p m) (some q) → Inv q

  module _ (agree : (p : G.Pos) → Inv p → (u : ℕ) → u < G.people → Agrees p u) where
    -- person u's moves, each tried and told on
    told-agree : {B C D : Type 0} (i : G.Pos → Search B) (j : H.Pos → Search C) (tell : G.Move → Search B → Search D) (tell' : H.Move → Search C → Search D)
        (p : G.Pos) → Inv p → (u : ℕ) → u < G.people
        → ((m : G.Move) → m ∈ G.moves p u → tell m (record { got = none; trials = 1 }) ≡ tell' (g p m) (record { got = none; trials = 1 }))
        → ((m : G.Move) → m ∈ G.moves p u → (q : G.Pos) → Inv q → tell m (plus 1 (i q)) ≡ tell' (g p m) (plus 1 (j (f q))))
        → seek (λ m. tell m (try i (G.after p m))) (G.moves p u) ≡ seek (λ m. tell' m (try j (H.after (f p) m))) (H.moves (f p) u)
    unfolding try
    told-agree i j tell tell' p v u l none-same some_same =
        let a = agree p v u l in
        seek-cong _ (λ m. tell' (g p m) (try j (H.after (f p) (g p m)))) (G.moves p u)
        (λ m k. tried m k (G.after p m) refl ∙ ap (λ o. tell' (g p m) (try j o)) (sym (a.left m k)))
        ∙ sym (seek-map (λ m. tell' m (try j (H.after (f p) m))) (g p) (G.moves p u))
        ∙ ap (seek (λ m. tell' m (try j (H.after (f p) m)))) (sym a.offered)
      where
        tried : (m : G.Move) → m ∈ G.moves p u → (o : Option G.Pos) → ◌≡◌ {A = Option G.Pos} (G.after p m) o
            → tell m (try i (G.after p m)) ≡ tell' (g p m) (try j (mapped f (G.after p m)))
        tried m k none e = ap (λ o. tell m (try i o)) e ∙ none-same m k ∙ ap (λ o. tell' (g p m) (try j (mapped f o))) (sym e)
        tried m k (some q) e = ap (λ o. tell m (try i o)) e ∙ some_same m k q ((agree p v u l).stays m k q e) ∙ ap (λ o. tell' (g p m) (try j (mapped f o))) (sym e)

    tries-agree : {B : Type 0} (i : G.Pos → Search B) (j : H.Pos → Search B) → ((q : G.Pos) → Inv q → i q ≡ j (f q)) → (p : G.Pos) → Inv p → (u : ℕ) → u < G.people
        → tries G i p u ≡ tries H j (f p) u
    unfolding tries
    tries-agree i j h p v u l = told-agree i j (λ m w. w) (λ m w. w) p v u l (λ m k. refl) (λ m k q w. ap (plus 1) (h q w))

    present-agree : (A : ℕ) → present G A ≡ present H A
    unfolding present
    present-agree A = ap (λ n. present (record { Pos = G.Pos; Move = G.Move; people = n; moves = G.moves; after = G.after }) A) same

    pub desk-agree : {B : Type 0} (i : G.Pos → Search B) (j : H.Pos → Search B) → ((q : G.Pos) → Inv q → i q ≡ j (f q)) → (A : ℕ) (p : G.Pos) → Inv p
        → desk G i A p ≡ desk H j A (f p)
    unfolding desk
    desk-agree i j h A p v =
        seek-cong (tries G i p) (tries H j (f p)) (present G A) (λ u m. tries-agree i j h p v u (present-in G A u m).0)
        ∙ ap (seek (tries H j (f p))) (present-agree A)

    pub plan-agree : (A k : ℕ) (p : G.Pos) → Inv p → told f (plan G A k p) ≡ plan H A k (f p)
    unfolding plan desk tries plus
    plan-agree A zero p v = refl
    plan-agree A (suc k) p v =
        seek-told f (tries G (plan G A k) p) (present G A)
        ∙ seek-cong (λ u. told f (tries G (plan G A k) p u)) (tries H (plan H A k) (f p)) (present G A)
        (λ u m.
        seek-told f (λ x. try (plan G A k) (G.after p x)) (G.moves p u)
        ∙ told-agree (plan G A k) (plan H A k) (λ x w. told f w) (λ x w. w) p v u (present-in G A u m).0 (λ x z. refl)
        (λ x z q w. ap (plus 1) (plan-agree A k q w)))
        ∙ ap (seek (tries H (plan H A k) (f p))) (present-agree A)

    found-agree : (A k : ℕ) (p : G.Pos) → Inv p → if_none A (plan G A k p) ≡ if_none A (plan H A k (f p))
    unfolding if_none
    found-agree A k p v = lacks (plan G A k p) ∙ ap (if_none A) (plan-agree A k p v)
      where
        lacks : (w : Search G.Pos) → if_none A w ≡ if_none A (told f w)
        lacks w = go w.got w.trials
          where
            go : (o : Option G.Pos) (c : ℕ) → if_none A (record { got = o; trials = c }) ≡ if_none A (told f (record { got = o; trials = c }))
            go none c = refl
            go (some x) c = refl

    pub static-agree : (t k : ℕ) (p : G.Pos) → Inv p → static G t k p ≡ static H t k (f p)
    unfolding static
    static-agree t k p v =
        seek-cong _ _ (sets G.people t 0) (λ A m. found-agree A k p v) ∙ ap (λ n. seek (λ A. if_none A (plan H A k (f p))) (sets n t 0)) same

    pub decremental-agree : (t k c : ℕ) (p : G.Pos) → Inv p → decremental G t k c p ≡ decremental H t k c (f p)
    unfolding decremental
    decremental-agree t zero c p v = refl
    decremental-agree t (suc k) c p v =
        seek-cong _ (λ A. if_none A (desk H (λ q. if_none tt (decremental H t k A q)) A (f p))) (sets G.people t c)
        (λ A m. ap (if_none A) (desk-agree _ (λ q. if_none tt (decremental H t k A q)) (λ q w. ap (if_none tt) (decremental-agree t k A q w)) A p v))
        ∙ ap (λ n. seek (λ A. if_none A (desk H (λ q. if_none tt (decremental H t k A q)) A (f p))) (sets n t c)) same

    pub one_shot-agree : (t k : ℕ) (p : G.Pos) → Inv p → one_shot G t k p ≡ one_shot H t k (f p)
    unfolding one_shot
    one_shot-agree t zero p v = refl
    one_shot-agree t (suc k) p v =
        ap₂ (λ (w r : Search ℕ). or_else w.got w.trials (λ _. r))
        (ap (if_none 0) (desk-agree _ (λ q. if_none tt (one_shot H t k q)) (λ q w. ap (if_none tt) (one_shot-agree t k q w)) 0 p v))
        (static-agree t (suc k) p v)

    pub dynamic-agree : (t k : ℕ) (p : G.Pos) → Inv p → dynamic G t k p ≡ dynamic H t k (f p)
    unfolding dynamic
    dynamic-agree t zero p v = refl
    dynamic-agree t (suc k) p v =
        ap (too_few t) (tally-cong _ (tries H (λ q. if_none tt (dynamic H t k q)) (f p)) (upto G.people) (suc t)
        (λ u m. tries-agree _ (λ q. if_none tt (dynamic H t k q)) (λ q w. ap (if_none tt) (dynamic-agree t k q w)) p v u (upto-in G.people u m)))
        ∙ ap (λ n. too_few t (tally (tries H (λ q. if_none tt (dynamic H t k q)) (f p)) (upto n) (suc t))) same

    abbrev renamed : G.Pos → ℕ × G.Move → ℕ × H.Move
    renamed p a = (a.0, g p a.1)

    pub advice-agree : (t k A : ℕ) (p : G.Pos) → Inv p → told (renamed p) (advice G t k A p) ≡ advice H t k A (f p)
    unfolding advice if_some if_none plus
    advice-agree t zero A p v = refl
    advice-agree t (suc k) A p v =
        seek-told (renamed p) (λ u. seek (λ m. if_some (u, m) (try (λ q. if_none tt (dynamic G t k q)) (G.after p m))) (G.moves p u)) (present G A)
        ∙ seek-cong _ (λ u. seek (λ m. if_some (u, m) (try (λ q. if_none tt (dynamic H t k q)) (H.after (f p) m))) (H.moves (f p) u)) (present G A)
        (λ u m.
        seek-told (renamed p) (λ x. if_some (u, x) (try (λ q. if_none tt (dynamic G t k q)) (G.after p x))) (G.moves p u)
        ∙ told-agree (λ q. if_none tt (dynamic G t k q)) (λ q. if_none tt (dynamic H t k q)) (λ x w. told (renamed p) (if_some (u, x) w)) (λ x w. if_some (u, x) w) p v u (present-in G A u m).0
        (λ x z. refl)
        (λ x z q w. retold u x (dynamic G t k q).got (dynamic G t k q).trials ∙ ap (λ r. if_some (u, g p x) (plus 1 (if_none tt r))) (dynamic-agree t k q w)))
        ∙ ap (seek (λ u. seek (λ m. if_some (u, m) (try (λ q. if_none tt (dynamic H t k q)) (H.after (f p) m))) (H.moves (f p) u))) (present-agree A)
      where
        retold : (u : ℕ) (x : G.Move) (o : Option ℕ) (c : ℕ)
            → told (renamed p) (if_some (u, x) (plus 1 (if_none (tt {0}) (record { got = o; trials = c })))) ≡ if_some (u, g p x) (plus 1 (if_none (tt {0}) (record { got = o; trials = c })))
        retold u x none c = refl
        retold u x (some b) c = refl
