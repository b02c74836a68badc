-- Lists of numbers as words.
use mathlib.Core.Path.{◌≡◌, refl, sym, ap, ◌∙◌}
use mathlib.Core.Bool.{Bool, true, false}
use mathlib.Core.Option.{none, some}
use mathlib.Core.List.{List, [], ◌∷◌, ◌++◌, map, append_assoc}
use Prim.Native.Nat.{ℕ, ◌+◌, ◌≤◌, ◌<◌}
use native.Mathlib.Numerals.{add-one}
use native.Mathlib.Omega.{arith}
use lib.ListN.{length, take, get_or}
use lib.Seq.{take-suc, take_all}
use Rattle.sets.specs.Lists.{from, upto, cons_if, keep}
use Rattle.sets.specs.Sets.{has, members, lowest, without}
use Rattle.sets.proofs.Members.{members-more, members-same, lowest-none, lowest-some}
use Rattle.cases.specs.declared.Position.{Position}
use Rattle.cases.specs.Positions.{persons}
use Rattle.cases.proofs.Positions.{persons-length}
use Rattle.telling.specs.declared.text.Text.{Text}
use Rattle.telling.specs.Lines.{decimal, spaced}
use Rattle.telling.specs.Telling.{listed}
use Rattle.telling.specs.Held.{put}
use Rattle.telling.proofs.Growing.{then-put, put_same}

pub spaced-append : (a b : List (List ℕ)) → spaced (a ++ b) ≡ spaced a ++ spaced b
unfolding spaced
spaced-append [] b = refl
spaced-append (w ∷ a) b =
    ap (λ (l : List ℕ). 32 ∷ (w ++ l)) (spaced-append a b) ∙ ap (λ (l : List ℕ). 32 ∷ l) (sym (append_assoc w (spaced a) (spaced b)))

map-append : (a b : List ℕ) → map decimal (a ++ b) ≡ map decimal a ++ map decimal b
map-append [] b = refl
map-append (v ∷ a) b = ap (λ (l : List (List ℕ)). decimal v ∷ l) (map-append a b)

-- the words of numbers, with a space before each
abbrev pub numbers : List ℕ → List ℕ
numbers l = spaced (map decimal l)

pub numbers-append : (a b : List ℕ) → numbers (a ++ b) ≡ numbers a ++ numbers b
numbers-append a b = ap spaced (map-append a b) ∙ spaced-append (map decimal a) (map decimal b)

pub append-nil : (a : List ℕ) → a ++ [] ≡ a
append-nil [] = refl
append-nil (x ∷ a) = ap (λ (l : List ℕ). x ∷ l) (append-nil a)

pub numbers-one : (v : ℕ) → numbers (v ∷ []) ≡ 32 ∷ decimal v
unfolding spaced
numbers-one v = ap (λ (l : List ℕ). 32 ∷ l) (append-nil (decimal v))

-- ---- a loop that puts a list has put its first i numbers

pub list-start : (t : Text) (l : List ℕ) → t ≡ put t (numbers (take 0 l))
unfolding put spaced
list-start t l = refl

pub list-step : (t x y : Text) (l : List ℕ) (i v : ℕ) → i < length l → v ≡ get_or l i 0 → x ≡ put t (numbers (take i l))
    → y ≡ put x (32 ∷ decimal v) → y ≡ put t (numbers (take (i + 1) l))
list-step t x y l i v h g e f =
    put_same t y (numbers (take i l) ++ (32 ∷ decimal v)) (numbers (take (i + 1) l)) (then-put t x y (numbers (take i l)) e (32 ∷ decimal v) f)
    (ap (λ (m : List ℕ). numbers (take i l) ++ m) (sym (numbers-one v))
    ∙ sym (numbers-append (take i l) (v ∷ []))
    ∙ ap (λ (u : ℕ). numbers (take i l ++ (u ∷ []))) g
    ∙ ap numbers (sym (take-suc l i 0 h) ∙ ap (λ (n : ℕ). take n l) (sym (add-one i))))

pub list-end : (t x : Text) (l : List ℕ) (i : ℕ) → length l ≤ i → x ≡ put t (numbers (take i l)) → x ≡ put t (numbers l)
list-end t x l i h e = put_same t x (numbers (take i l)) (numbers l) e (ap numbers (take_all i l h))

-- ---- a loop that puts a set has put the members below v

pub member-put : (t y : Text) (b : Bool) (v : ℕ) → b ≡ true → y ≡ put t (32 ∷ decimal v) → y ≡ put t (numbers (cons_if b v []))
member-put t y b v h f =
    put_same t y (32 ∷ decimal v) (numbers (cons_if b v [])) f (sym (numbers-one v) ∙ ap (λ (d : Bool). numbers (cons_if d v [])) (sym h))

pub member-passed : (t : Text) (b : Bool) (v : ℕ) → b ≡ false → t ≡ put t (numbers (cons_if b v []))
unfolding put spaced
member-passed t b v h = ap (λ (d : Bool). put t (numbers (cons_if d v []))) (sym h)

members-next : (A v : ℕ) → members (v + 1) A ≡ members v A ++ cons_if (has A v) v []
members-next A v = go (has A v) refl
  where
    go : (b : Bool) → has A v ≡ b → members (v + 1) A ≡ members v A ++ cons_if b v []
    go true e = members-more v A e
    go false e = members-same v A e ∙ sym (append-nil (members v A))

pub set-start : (t : Text) (A : ℕ) → t ≡ put t (numbers (members 0 A))
unfolding put spaced members keep upto from
set-start t A = refl

pub set-step : (t x y : Text) (A v : ℕ) → x ≡ put t (numbers (members v A)) → y ≡ put x (numbers (cons_if (has A v) v []))
    → y ≡ put t (numbers (members (v + 1) A))
set-step t x y A v e f =
    put_same t y (numbers (members v A) ++ numbers (cons_if (has A v) v [])) (numbers (members (v + 1) A))
    (then-put t x y (numbers (members v A)) e (numbers (cons_if (has A v) v [])) f)
    (sym (numbers-append (members v A) (cons_if (has A v) v [])) ∙ ap numbers (sym (members-next A v)))

-- ---- an empty list is `none`

pub listed-some : (l : List ℕ) → 0 < length l → listed l ≡ map decimal l
listed-some [] h = let z : ⊥ = omega arith in absurd z
listed-some (v ∷ l) h = refl

pub persons-none : (p : Position) → p.len ≡ 0 → persons p ≡ []
persons-none p e = go (persons p) (persons-length p ∙ e)
  where
    go : (l : List ℕ) → length l ≡ 0 → l ≡ []
    go [] h = refl
    go (v ∷ l) h = let z : ⊥ = omega arith in absurd z

pub persons-some : (p : Position) → 0 < p.len → listed (persons p) ≡ map decimal (persons p)
persons-some p h = listed-some (persons p) (omega (arith, persons-length p))

pub members-none : (n A : ℕ) → lowest n A ≡ none → listed (members n A) ≡ listed []
members-none n A e = ap listed (lowest-none n A e)

pub members-some : (n A v : ℕ) → lowest n A ≡ some v → listed (members n A) ≡ map decimal (members n A)
members-some n A v e =
    let first : members n A ≡ v ∷ members n (without n A v) = (lowest-some n A v e).2 in
    ap listed first ∙ ap (map decimal) (sym first)
