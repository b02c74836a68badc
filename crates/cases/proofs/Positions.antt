-- A position in memory and the list of its persons.
use mathlib.Core.Path.{◌≡◌, refl, sym, ap, ap₂, ◌∙◌}
use mathlib.Core.Logic.{inl, inr}
use mathlib.Core.Bool.{Bool}
use mathlib.Core.List.{List, [], ◌∷◌, ◌++◌, map}
use Prim.Native.Nat.{ℕ, zero, suc, ◌+◌, ◌≤◌, ◌<◌}
use native.Mathlib.Nat.{not-suc-le-zero, le_of_suc-le-suc}
use native.Mathlib.Numerals.{add-one}
use native.Mathlib.Omega.{arith}
use borrow.Author.Tests.{lt-ltb, le-ltb}
use lib.ListN.{length, get_or, set, get_or-eq_default}
use lib.Seq.{get_or-set_same, get_or-set_other}
use Rattle.sets.specs.Lists.{pick, ◌∈◌, from, upto}
use Rattle.sets.proofs.Lists.{upto-in, upto_snoc}
use Rattle.cases.specs.declared.Person.{Person}
use Rattle.cases.specs.declared.Position.{Position}
use Rattle.cases.specs.Case.{most_steps}
use Rattle.cases.specs.Positions.{zero_person, start_position, persons, placed_next, next_persons}

-- ---- lists made of the first n numbers

module _ {A : Type 0} (f : ℕ → A) where
  from_at : (v n i : ℕ) (d : A) → i < n → get_or (map f (from v n)) i d ≡ f (v + i)
  unfolding from
  from_at v zero i d h = absurd (not-suc-le-zero h)
  from_at v (suc n) zero d h = ap f (omega arith)
  from_at v (suc n) (suc i) d h = from_at (suc v) n i d (le_of_suc-le-suc h) ∙ ap f (omega arith)

  pub upto-at : (n i : ℕ) (d : A) → i < n → get_or (map f (upto n)) i d ≡ f i
  unfolding upto
  upto-at n i d h = from_at 0 n i d h ∙ ap f (omega arith)

  from-many : (v n : ℕ) → length (map f (from v n)) ≡ n
  unfolding from
  from-many v zero = refl
  from-many v (suc n) = ap suc (from-many (suc v) n)

  pub upto-many : (n : ℕ) → length (map f (upto n)) ≡ n
  unfolding upto
  upto-many n = from-many 0 n

pub map-cong : {A B : Type 0} (f g : A → B) (xs : List A) → ((x : A) → x ∈ xs → f x ≡ g x) → map f xs ≡ map g xs
map-cong f g [] h = refl
map-cong f g (x ∷ xs) h = ap₂ ◌∷◌ (h x (inl refl)) (map-cong f g xs (λ y m. h y (inr m)))

pub map-append : {A B : Type 0} (f : A → B) (xs ys : List A) → map f (xs ++ ys) ≡ map f xs ++ map f ys
map-append f [] ys = refl
map-append f (x ∷ xs) ys = ap (λ l. f x ∷ l) (map-append f xs ys)

-- ---- persons

pub persons-length : (p : Position) → length (persons p) ≡ p.len
unfolding persons
persons-length p = upto-many (λ i. (get_or p.who i zero_person).0) p.len

pub persons-at : (p : Position) (i : ℕ) → i < p.len → (get_or p.who i zero_person).0 ≡ get_or (persons p) i 0
unfolding persons
persons-at p i h = sym (upto-at (λ j. (get_or p.who j zero_person).0) p.len i 0 h)

-- where no step is filled, and where there is no room
pub persons-past : (p : Position) (i : ℕ) → p.len ≤ i → 0 ≡ get_or (persons p) i 0
persons-past p i h = sym (get_or-eq_default (persons p) 0 (omega (arith, persons-length p)))

pub persons-beyond : (p : Position) (i : ℕ) → i < p.len → length p.who ≤ i → 0 ≡ get_or (persons p) i 0
persons-beyond p i h l = sym (ap (λ v. v.0) (get_or-eq_default p.who zero_person l)) ∙ persons-at p i h

pub persons-start : persons start_position ≡ []
unfolding persons upto from
persons-start = refl

-- one person more
pub persons-placed : (p : Position) (v : Person) → p.len < most_steps → p.len < length p.who → persons (placed_next p v) ≡ persons p ++ (v.0 ∷ [])
unfolding persons
persons-placed p v room h =
    ap persons (ap (λ (b : Bool). pick b next p) (lt-ltb p.len most_steps room))
    ∙ ap (map (λ i. (get_or next.who i zero_person).0)) (ap upto (add-one p.len) ∙ upto_snoc p.len)
    ∙ map-append (λ i. (get_or next.who i zero_person).0) (upto p.len) (p.len ∷ [])
    ∙ ap₂ ◌++◌
    (map-cong (λ i. (get_or next.who i zero_person).0) (λ i. (get_or p.who i zero_person).0) (upto p.len)
    (λ i m. ap (λ u. u.0) (get_or-set_other p.who p.len i v zero_person (λ e. let l = upto-in p.len i m in omega arith))))
    (ap (λ u. u.0 ∷ []) (get_or-set_same p.who p.len v zero_person h))
  where
    next : Position
    next = record { who = set p.who p.len v; len = p.len + 1 }

-- what `placed` gives: the position itself where there is no room, else the longer one
pub placed-full : (p : Position) (v : Person) → most_steps ≤ p.len → (p ≡ placed_next p v) × (persons p ≡ next_persons (persons p) v.0)
placed-full p v h = (
  sym (ap (λ (b : Bool). pick b next p) (le-ltb p.len most_steps h)),
  sym (ap (λ (b : Bool). pick b (persons p ++ (v.0 ∷ [])) (persons p)) (le-ltb (length (persons p)) most_steps (omega (arith, persons-length p)))),
)
  where
    next : Position
    next = record { who = set p.who p.len v; len = p.len + 1 }

pub placed-is : (p q : Position) (v : Person) → p.len < most_steps → p.len < length p.who
    → q ≡ record { who = set p.who p.len v; len = p.len + 1 } → (q ≡ placed_next p v) × (persons q ≡ next_persons (persons p) v.0)
placed-is p q v h l e =
    let is : q ≡ placed_next p v = e ∙ sym (ap (λ (b : Bool). pick b (record { who = set p.who p.len v; len = p.len + 1 }) p) (lt-ltb p.len most_steps h)) in (
      is,
      ap persons is ∙ persons-placed p v h l
          ∙ sym (ap (λ (b : Bool). pick b (persons p ++ (v.0 ∷ [])) (persons p)) (lt-ltb (length (persons p)) most_steps (omega (arith, persons-length p)))),
    )

-- where there is room, the persons of the position with one more
pub next-room : (l : List ℕ) (v : ℕ) → length l < most_steps → next_persons l v ≡ l ++ (v ∷ [])
next-room l v h = ap (λ (b : Bool). pick b (l ++ (v ∷ [])) l) (lt-ltb (length l) most_steps h)
