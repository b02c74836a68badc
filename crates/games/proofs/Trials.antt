-- What is counted.
use mathlib.Core.Path.{◌≡◌, refl, sym, ap, ap₂, ◌∙◌}
use mathlib.Core.Logic.{inl, inr}
use mathlib.Core.Option.{Option, none, some, some-ne-none}
use mathlib.Core.List.{List, [], ◌∷◌, ◌++◌, map}
use Prim.Native.Nat.{ℕ, zero, suc, ◌+◌, ◌<◌}
use native.Mathlib.Nat.{not-suc-le-zero, le_of_suc-le-suc, add_assoc, zero-add}
use native.Mathlib.Omega.{arith}
use borrow.Author.Tests.{leb-true}
use lib.Dec.{leb}
use lib.ListN.{length}
use Rattle.sets.specs.Lists.{◌∈◌, upto}
use Rattle.sets.specs.Sets.{set_from}
use Rattle.sets.proofs.Lists.{only_if-some}
use Rattle.games.specs.Arena.{Arena}
use Rattle.games.specs.Walks.{Search, No, unbeaten, plus, or_else, seek, try, if_some, mark, tally, too_few, present, tries, desk, dynamic, advice}
use Rattle.games.proofs.Searches.{seek-none}

abbrev pub sum : {A : Type 0} → (A → ℕ) → List A → ℕ
sum f [] = 0
sum f (x ∷ xs) = f x + sum f xs

pub sum-cong : {A : Type 0} (f g : A → ℕ) (xs : List A) → ((x : A) → x ∈ xs → f x ≡ g x) → sum f xs ≡ sum g xs
sum-cong f g [] h = refl
sum-cong f g (x ∷ xs) h = ap₂ ◌+◌ (h x (inl refl)) (sum-cong f g xs (λ y m. h y (inr m)))

pub sum-append : {A : Type 0} (f : A → ℕ) (xs ys : List A) → sum f (xs ++ ys) ≡ sum f xs + sum f ys
sum-append f [] ys = sym (zero-add (sum f ys))
sum-append f (x ∷ xs) ys = ap (λ (n : ℕ). f x + n) (sum-append f xs ys) ∙ sym (add_assoc (f x) (sum f xs) (sum f ys))

pub sum-map : {A B : Type 0} (f : B → ℕ) (g : A → B) (xs : List A) → sum f (map g xs) ≡ sum (λ x. f (g x)) xs
sum-map f g [] = refl
sum-map f g (x ∷ xs) = ap (λ (n : ℕ). f (g x) + n) (sum-map f g xs)

-- none of a list gets anything
pub seek-all-missed : {A B : Type 0} (f : A → Search B) (c : A → ℕ) (xs : List A) → ((x : A) → x ∈ xs → f x ≡ record { got = none; trials = c x })
    → seek f xs ≡ record { got = none; trials = sum c xs }
unfolding seek or_else plus
seek-all-missed f c [] h = refl
seek-all-missed f c (x ∷ xs) h =
    ap₂ (λ w r. or_else w.got w.trials (λ _. r)) (h x (inl refl)) (seek-all-missed f c xs (λ y m. h y (inr m)))

-- a search that gets nothing has gone over the whole list
pub seek-trials : {A B : Type 0} (f : A → Search B) (xs : List A) → (seek f xs).got ≡ none → (seek f xs).trials ≡ sum (λ x. (f x).trials) xs
unfolding seek or_else plus
seek-trials f [] e = refl
seek-trials {A} {B} f (x ∷ xs) e = go (f x).got e (seek-trials f xs)
  where
    go : (o : Option B) → (or_else o (f x).trials (λ _. seek f xs)).got ≡ none → ((seek f xs).got ≡ none → (seek f xs).trials ≡ sum (λ y. (f y).trials) xs)
        → (or_else o (f x).trials (λ _. seek f xs)).trials ≡ (f x).trials + sum (λ y. (f y).trials) xs
    go none h r = ap (λ (n : ℕ). (f x).trials + n) (r h)
    go (some b) h r = absurd (some-ne-none b h)

module _ (G : Arena) {B : Type 0} (judge : G.Pos → Search B) where
  -- a trial, and the trials of the position that it leaves; a broken rule's trial counts too
  abbrev pub cost : Option G.Pos → ℕ
  cost none = 1
  cost (some q) = 1 + (judge q).trials

  try-trials : (o : Option G.Pos) → (try judge o).trials ≡ cost o
  unfolding try plus
  try-trials none = refl
  try-trials (some q) = refl

  tries-trials : (p : G.Pos) (u : ℕ) → (tries G judge p u).got ≡ none → (tries G judge p u).trials ≡ sum (λ m. cost (G.after p m)) (G.moves p u)
  unfolding tries
  tries-trials p u e = seek-trials _ (G.moves p u) e ∙ sum-cong _ _ (G.moves p u) (λ m i. try-trials (G.after p m))

  -- a turn of the desk that gets nothing has tried every move of every person present, rules kept or not
  pub desk-trials : (A : ℕ) (p : G.Pos) → (desk G judge A p).got ≡ none
      → (desk G judge A p).trials ≡ sum (λ u. sum (λ m. cost (G.after p m)) (G.moves p u)) (present G A)
  unfolding desk
  desk-trials A p e =
      seek-trials (tries G judge p) (present G A) e
      ∙ sum-cong _ _ (present G A) (λ u i. tries-trials p u (seek-none (tries G judge p) (present G A) e u i))

-- ---- the dynamic walk and advice

-- a tally that finds fewer than it looks for has gone over the whole list
pub tally-trials : {B : Type 0} (f : ℕ → Search B) (us : List ℕ) (w : ℕ) → length (tally f us w).got < w → (tally f us w).trials ≡ sum (λ u. (f u).trials) us
unfolding mark tally
tally-trials f [] w h = refl
tally-trials f (u ∷ us) zero h = absurd (not-suc-le-zero h)
tally-trials {B} f (u ∷ us) (suc w) h = go (f u).got h (λ v. tally-trials f us v)
  where
    go : (o : Option B) → length (mark o (f u).trials u (λ v. tally f us v) w).got < suc w
        → ((v : ℕ) → length (tally f us v).got < v → (tally f us v).trials ≡ sum (λ u. (f u).trials) us)
        → (mark o (f u).trials u (λ v. tally f us v) w).trials ≡ (f u).trials + sum (λ u. (f u).trials) us
    go (some b) l r = ap (λ (n : ℕ). (f u).trials + n) (r w (le_of_suc-le-suc l))
    go none l r = ap (λ (n : ℕ). (f u).trials + n) (r (suc w) l)

module _ (G : Arena) where
  -- a no of the dynamic walk has tried everybody
  pub dynamic-trials : (t k : ℕ) (p : G.Pos) (A : ℕ) → No (dynamic G t (suc k) p) A
      → (dynamic G t (suc k) p).trials ≡ sum (λ u. (tries G (λ q. unbeaten (dynamic G t k q)) p u).trials) (upto G.people)
  unfolding dynamic too_few
  dynamic-trials t k p A e =
      let f : ℕ → Search (Unit {0}) = tries G (λ q. unbeaten (dynamic G t k q)) p in
      let found : List ℕ = (tally f (upto G.people) (suc t)).got in
      tally-trials f (upto G.people) (suc t) (omega (arith, leb-true (length found) t (only_if-some (leb (length found) t) (set_from found) A e).0))

  -- advice that names nobody has tried every move of every person present
  pub advice-trials : (t k A : ℕ) (p : G.Pos) → (advice G t (suc k) A p).got ≡ none
      → (advice G t (suc k) A p).trials ≡ sum (λ u. sum (λ m. cost G (λ q. unbeaten (dynamic G t k q)) (G.after p m)) (G.moves p u)) (present G A)
  unfolding advice if_some
  advice-trials t k A p e =
      let judge : G.Pos → Search (Unit {0}) = λ q. unbeaten (dynamic G t k q) in
      let about : ℕ → Search (ℕ × G.Move) = λ u. seek (λ m. if_some (u, m) (try judge (G.after p m))) (G.moves p u) in
      seek-trials about (present G A) e
      ∙ sum-cong _ _ (present G A) (λ u i.
      seek-trials (λ m. if_some (u, m) (try judge (G.after p m))) (G.moves p u) (seek-none about (present G A) e u i)
      ∙ sum-cong _ _ (G.moves p u) (λ m j. try-trials G judge (G.after p m)))
