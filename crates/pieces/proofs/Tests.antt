-- Tests that come to the same.
use mathlib.Core.Path.{◌≡◌, refl, sym, ap, ap₂, ◌∙◌}
use mathlib.Core.Bool.{Bool, true, false, not, ◌&&◌, ◌||◌}
use mathlib.Core.List.{List, [], ◌∷◌, map}
use Prim.Native.Nat.{ℕ, suc, ◌+◌}
use native.Mathlib.Omega.{arith}
use Rattle.sets.specs.Lists.{cons_if, upto, keep, all}
use Rattle.sets.proofs.Lists.{true-or, and-true-end, or-false-end, all_append, upto_snoc}

-- two tests that hold together
pub same : (x y : Bool) → (x ≡ true → y ≡ true) → (y ≡ true → x ≡ true) → x ≡ y
same true y f g = sym (f refl)
same false true f g = g refl
same false false f g = refl

pub and_assoc : (x y z : Bool) → (x && y) && z ≡ x && (y && z)
and_assoc true y z = refl
and_assoc false y z = refl

-- every one of those that pass another test
pub all_keep : {A : Type 0} (f p : A → Bool) (xs : List A) → all f (keep p xs) ≡ all (λ x. f x || not (p x)) xs
unfolding all keep
all_keep f p [] = refl
all_keep f p (x ∷ xs) = go (p x) (all_keep f p xs)
  where
    go : (d : Bool) → all f (keep p xs) ≡ all (λ y. f y || not (p y)) xs
        → all f (cons_if d x (keep p xs)) ≡ (f x || not d) && all (λ y. f y || not (p y)) xs
    go true h = ap₂ ◌&&◌ (sym (or-false-end (f x))) h
    go false h = h ∙ ap (λ (t : Bool). t && all (λ y. f y || not (p y)) xs) (sym (true-or (f x) true refl))

pub all_map : {A B : Type 0} (f : B → Bool) (g : A → B) (xs : List A) → all f (map g xs) ≡ all (λ x. f (g x)) xs
unfolding all
all_map f g [] = refl
all_map f g (x ∷ xs) = ap (λ (t : Bool). f (g x) && t) (all_map f g xs)

-- every one up to one more
pub all-next : (f : ℕ → Bool) (n : ℕ) → all f (upto (n + 1)) ≡ all f (upto n) && f n
unfolding all
all-next f n =
    let e : n + 1 ≡ suc n = omega arith in
    ap (λ (m : ℕ). all f (upto m)) e ∙ ap (all f) (upto_snoc n) ∙ all_append f (upto n) (n ∷ [])
    ∙ ap (λ (d : Bool). all f (upto n) && d) (and-true-end (f n))
