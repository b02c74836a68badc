-- The sets of at most t people come in blocks: first those without the last person, then those with.
use mathlib.Core.Path.{◌≡◌, refl, sym, ap, ap₂, ◌∙◌}
use mathlib.Core.Bool.{Bool, true, false, not, ◌&&◌, ◌||◌, true≢false}
use mathlib.Core.List.{List, [], ◌∷◌, ◌++◌, map, append-nil, append_assoc}
use Prim.Native.Nat.{ℕ, zero, suc, ◌+◌, ◌-◌, ◌*◌, ◌^◌, ◌≤◌, ◌<◌, min}
use native.Mathlib.Nat.{pow-suc, suc-add, zero-add}
use native.Mathlib.Decide.{dec_lt}
use native.Mathlib.Omega.{arith}
use borrow.Author.Tests.{le-leb, lt-leb, lt-ltb, le-ltb}
use lib.Dec.{leb, ltb}
use lib.Pow.{pow_mono}
use Rattle.sets.specs.Lists.{◌∈◌, from, upto, cons_if, keep}
use Rattle.sets.specs.Sets.{has, bit, count, size, within, sets}
use Rattle.sets.proofs.Lists.{and-true-end, and-false-end, from-lo, from-hi, from-append, upto-in, keep_append, keep-cong, keep-keep, keep-nothing, keep-everything}
use Rattle.sets.proofs.Bits.{bit_le, has_above, has-empty, has-low, has-top, joined-low, joined-last}
use Rattle.sets.proofs.Counting.{count-ext, size-width}
use Rattle.sets.proofs.Listed.{mem-within, within-cong, sets-apart}

-- ---- lists

pub from_up : (d v m : ℕ) → from (v + d) m ≡ map (λ s. s + d) (from v m)
unfolding from
from_up d v zero = refl
from_up d v (suc m) = ap (λ (l : List ℕ). (v + d) ∷ l) (ap (λ (x : ℕ). from x m) (sym (suc-add v d)) ∙ from_up d (suc v) m)

pub keep-map : {A B : Type 0} (f : A → B) (test : B → Bool) (xs : List A) → keep test (map f xs) ≡ map f (keep (λ x. test (f x)) xs)
unfolding keep
keep-map f test [] = refl
keep-map {A} {B} f test (x ∷ xs) = go (test (f x)) (keep-map f test xs)
  where
    go : (b : Bool) → keep test (map f xs) ≡ map f (keep (λ y. test (f y)) xs) → cons_if b (f x) (keep test (map f xs)) ≡ map f (cons_if b x (keep (λ y. test (f y)) xs))
    go true e = ap (λ (l : List B). f x ∷ l) e
    go false e = e

-- ---- one person more

-- without the last person
pub size_below : (n s : ℕ) → s < 2 ^ n → size (suc n) s ≡ size n s
unfolding size count
size_below n s h = ap (λ (b : Bool). bit b + count (has s) n) (has_above n s h) ∙ zero-add (count (has s) n)

-- with the last person
pub size-with : (n s : ℕ) → s < 2 ^ n → size (suc n) (s + 2 ^ n) ≡ suc (size n s)
unfolding size count
size-with n s h =
    let whole : s + 2 ^ n ≡ 1 * 2 ^ n + s = omega arith in
    ap (λ (x : ℕ). bit (has x n) + count (has x) n) whole
    ∙ ap₂ (λ (b : Bool) (c : ℕ). bit b + c) (has-top true n s h) (count-ext (has (1 * 2 ^ n + s)) (has s) n (λ v l. has-low 1 n s v l))
    ∙ omega arith

-- no set has more members than there are people
pub size-le : (n s : ℕ) → size n s ≤ n
unfolding size count
size-le zero s = omega arith
size-le (suc n) s = omega (arith, bit_le (has s n), size-le n s)

-- the sets of at most t people are told by their size alone
pub sets-few : (n t : ℕ) → sets n t 0 ≡ keep (λ s. leb (size n s) t) (upto (2 ^ n))
unfolding sets
sets-few n t =
    keep-cong (λ s. within n 0 s && leb (size n s) t) (λ s. leb (size n s) t) (upto (2 ^ n))
    (λ s m. ap (λ (b : Bool). b && leb (size n s) t) (mem-within n 0 s (λ v l e. absurd (true≢false (sym e ∙ has-empty v)))))

-- the numbers with one person more: those without, then those with
upto-blocks : (n : ℕ) → upto (2 ^ suc n) ≡ upto (2 ^ n) ++ map (λ s. s + 2 ^ n) (upto (2 ^ n))
unfolding upto
upto-blocks n =
    let double : 2 ^ suc n ≡ 2 ^ n + 2 ^ n = omega (arith, pow-suc 2 n) in
    ap (from 0) double ∙ from-append 0 (2 ^ n) (2 ^ n) ∙ ap (λ (l : List ℕ). from 0 (2 ^ n) ++ l) (from_up (2 ^ n) 0 (2 ^ n))

-- a set of at most t of n people that contains c
abbrev listed : ℕ → ℕ → ℕ → ℕ → Bool
listed n t c s = within n c s && leb (size n s) t

blocks : (n t c : ℕ) → sets (suc n) t c ≡ keep (listed (suc n) t c) (upto (2 ^ n)) ++ map (λ s. s + 2 ^ n) (keep (λ s. listed (suc n) t c (s + 2 ^ n)) (upto (2 ^ n)))
unfolding sets
blocks n t c =
    ap (keep (listed (suc n) t c)) (upto-blocks n)
    ∙ keep_append (listed (suc n) t c) (upto (2 ^ n)) (map (λ s. s + 2 ^ n) (upto (2 ^ n)))
    ∙ ap (λ (l : List ℕ). keep (listed (suc n) t c) (upto (2 ^ n)) ++ l) (keep-map (λ s. s + 2 ^ n) (listed (suc n) t c) (upto (2 ^ n)))

less : (x t : ℕ) → leb (suc x) (suc t) ≡ leb x t
less x t = go (dec_lt t x)
  where
    go : Dec (t < x) → leb (suc x) (suc t) ≡ leb x t
    go (yes l) = lt-leb (suc x) (suc t) (omega arith) ∙ sym (lt-leb x t l)
    go (no l) = le-leb (suc x) (suc t) (omega arith) ∙ sym (le-leb x t (omega arith))

module _ (n c : ℕ) (fits : c < 2 ^ n) where
  -- the last person need not be there
  within-free : (s : ℕ) → within (suc n) c s ≡ within n c s
  unfolding within
  within-free s = ap (λ (b : Bool). (not b || has s n) && within n c s) (has_above n c fits)

  free-lower : (t : ℕ) → keep (listed (suc n) t c) (upto (2 ^ n)) ≡ sets n t c
  unfolding sets
  free-lower t = keep-cong _ _ (upto (2 ^ n)) (λ s m. ap₂ (λ (b : Bool) (x : ℕ). b && leb x t) (within-free s) (size_below n s (upto-in (2 ^ n) s m)))

  free-upper : (t s : ℕ) → s < 2 ^ n → listed (suc n) t c (s + 2 ^ n) ≡ within n c s && leb (suc (size n s)) t
  free-upper t s l =
      ap₂ (λ (b : Bool) (x : ℕ). b && leb x t) (within-free (s + 2 ^ n) ∙ within-cong n c c (s + 2 ^ n) s (λ u k. refl) (joined-low n s)) (size-with n s l)

  -- where one person may be away besides: the sets without the last person, then those with, who leave one less
  pub sets-blocks : (t : ℕ) → sets (suc n) (suc t) c ≡ sets n (suc t) c ++ map (λ s. s + 2 ^ n) (sets n t c)
  unfolding sets
  sets-blocks t =
      blocks n (suc t) c
      ∙ ap₂ (λ (k l : List ℕ). k ++ map (λ s. s + 2 ^ n) l) (free-lower (suc t))
      (keep-cong _ _ (upto (2 ^ n)) (λ s m. free-upper (suc t) s (upto-in (2 ^ n) s m) ∙ ap (λ (b : Bool). within n c s && b) (less (size n s) t)))

  -- where nobody may be away one person more adds nothing
  pub sets-nobody : sets (suc n) 0 c ≡ sets n 0 c
  sets-nobody =
      blocks n 0 c
      ∙ ap₂ (λ (k l : List ℕ). k ++ map (λ s. s + 2 ^ n) l) (free-lower 0)
      (keep-nothing _ (upto (2 ^ n)) (λ s m. free-upper 0 s (upto-in (2 ^ n) s m) ∙ ap (λ (b : Bool). within n c s && b) (lt-leb (suc (size n s)) 0 (omega arith)) ∙ and-false-end (within n c s)))
      ∙ append-nil (sets n 0 c)

  -- where the last person is away anyhow: the sets of the others, who are one less
  pub sets-held : (t : ℕ) → sets (suc n) (suc t) (c + 2 ^ n) ≡ map (λ s. s + 2 ^ n) (sets n t c)
  unfolding within sets
  sets-held t =
      blocks n (suc t) (c + 2 ^ n)
      ∙ ap₂ (λ (k l : List ℕ). k ++ map (λ s. s + 2 ^ n) l)
      (keep-nothing _ (upto (2 ^ n)) (λ s m.
      ap₂ (λ (a b : Bool). ((not a || b) && within n (c + 2 ^ n) s) && leb (size (suc n) s) (suc t)) (joined-last n c fits) (has_above n s (upto-in (2 ^ n) s m))))
      (keep-cong _ _ (upto (2 ^ n)) (λ s m. let l = upto-in (2 ^ n) s m in
      ap₂ (λ (a b : Bool). ((not a || b) && within n (c + 2 ^ n) (s + 2 ^ n)) && leb (size (suc n) (s + 2 ^ n)) (suc t)) (joined-last n c fits) (joined-last n s l)
      ∙ ap₂ ◌&&◌ (within-cong n (c + 2 ^ n) c (s + 2 ^ n) s (joined-low n c) (joined-low n s)) (ap (λ (x : ℕ). leb x (suc t)) (size-with n s l) ∙ less (size n s) t)))

-- ---- the first blocks

-- the sets of n people that come before any with a member from h on
pub sets-lower : (h n t : ℕ) → h ≤ n → keep (λ s. ltb s (2 ^ h)) (sets n t 0) ≡ sets h t 0
unfolding upto
sets-lower h n t l =
    ap (keep (λ s. ltb s (2 ^ h))) (sets-few n t)
    ∙ keep-keep (λ s. leb (size n s) t) (λ s. ltb s (2 ^ h)) (upto (2 ^ n))
    ∙ ap (λ (x : ℕ). keep both (from 0 x)) whole
    ∙ ap (keep both) (from-append 0 (2 ^ h) (2 ^ n - 2 ^ h))
    ∙ keep_append both (from 0 (2 ^ h)) (from (0 + 2 ^ h) (2 ^ n - 2 ^ h))
    ∙ ap₂ ◌++◌ below above
    ∙ append-nil (keep (λ s. leb (size h s) t) (from 0 (2 ^ h)))
    ∙ sym (sets-few h t)
  where
    both : ℕ → Bool
    both s = leb (size n s) t && ltb s (2 ^ h)

    whole : 2 ^ n ≡ 2 ^ h + (2 ^ n - 2 ^ h)
    whole = omega (arith, pow_mono {i = h} {j = n} l)

    below : keep both (from 0 (2 ^ h)) ≡ keep (λ s. leb (size h s) t) (from 0 (2 ^ h))
    below =
        keep-cong both (λ s. leb (size h s) t) (from 0 (2 ^ h))
        (λ s m. let k = from-hi 0 (2 ^ h) s m in let j : s < 2 ^ h = omega arith in
        ap₂ (λ (x : ℕ) (b : Bool). leb x t && b) (size-width n h s (omega (arith, pow_mono {i = h} {j = n} l)) j) (lt-ltb s (2 ^ h) j)
        ∙ and-true-end (leb (size h s) t))

    above : keep both (from (0 + 2 ^ h) (2 ^ n - 2 ^ h)) ≡ []
    above =
        keep-nothing both (from (0 + 2 ^ h) (2 ^ n - 2 ^ h))
        (λ s m. let k = from-lo (0 + 2 ^ h) (2 ^ n - 2 ^ h) s m in
        ap (λ (b : Bool). leb (size n s) t && b) (le-ltb s (2 ^ h) (omega arith)) ∙ and-false-end (leb (size n s) t))

-- a loop over the sets has come to the first with a member from h on: behind it are all the sets of the first h people
pub sets-begun : (h n t : ℕ) (done : List ℕ) (s x : ℕ) (rest : List ℕ) → h ≤ n → sets n t 0 ≡ done ++ (s ∷ x ∷ rest) → s < 2 ^ h → 2 ^ h ≤ x → sets h t 0 ≡ done ++ (s ∷ [])
unfolding keep
sets-begun h n t done s x rest l e k g =
    sym (sets-lower h n t l)
    ∙ ap (keep low) e
    ∙ keep_append low done (s ∷ x ∷ rest)
    ∙ ap₂ ◌++◌ (keep-everything low done (λ w m. lt-ltb w (2 ^ h) (omega (arith, apart.1 w m, k)))) later
  where
    low : ℕ → Bool
    low w = ltb w (2 ^ h)

    apart : ((y : ℕ) → y ∈ (x ∷ rest) → s < y) × ((w : ℕ) → w ∈ done → w < s)
    apart = sets-apart n t 0 done s (x ∷ rest) e

    above : (y : ℕ) → y ∈ rest → x < y
    above = (sets-apart n t 0 (done ++ (s ∷ [])) x rest (e ∙ sym (append_assoc done (s ∷ []) (x ∷ rest)))).0

    later : keep low (s ∷ x ∷ rest) ≡ s ∷ []
    later =
        ap (λ (b : Bool). cons_if b s (keep low (x ∷ rest))) (lt-ltb s (2 ^ h) k)
        ∙ ap (λ (l : List ℕ). s ∷ l) (ap (λ (b : Bool). cons_if b x (keep low rest)) (le-ltb x (2 ^ h) g) ∙ keep-nothing low rest (λ y m. le-ltb y (2 ^ h) (omega (arith, above y m, g))))

-- more than there are people are as good as any number not below theirs
pub sets-capped : (n w t : ℕ) → n ≤ w → sets n t 0 ≡ sets n (min t w) 0
sets-capped n w t h = sets-few n t ∙ keep-cong _ _ (upto (2 ^ n)) (λ s m. same (size n s) (size-le n s) (dec_lt t (size n s))) ∙ sym (sets-few n (min t w))
  where
    same : (x : ℕ) → x ≤ n → Dec (t < x) → leb x t ≡ leb x (min t w)
    same x l (yes k) = lt-leb x t k ∙ sym (lt-leb x (min t w) (omega arith))
    same x l (no k) = le-leb x t (omega arith) ∙ sym (le-leb x (min t w) (omega arith))
