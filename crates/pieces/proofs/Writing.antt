-- A part put onto a board: its start, one entry more, its end; what stands there then, and what stays.
use mathlib.Core.Path.{◌≡◌, refl, sym, ap, ap₂, ◌∙◌}
use mathlib.Core.Bool.{Bool, true, false, ◌&&◌}
use mathlib.Core.List.{List}
use Prim.Native.Nat.{ℕ, ◌+◌, ◌-◌, ◌≤◌, ◌<◌}
use native.Mathlib.Decide.{dec_lt, ℕ_discrete}
use native.Mathlib.Omega.{arith}
use borrow.Author.Tests.{lt-ltb, le-ltb, le-leb, lt-leb}
use lib.Dec.{leb, ltb}
use lib.ListN.{length, get_or, set, length-set, replicate, length-replicate, get_or-replicate, get_or-eq_default}
use lib.Seq.{get_or-set_same, get_or-set_other, ext_get_or}
use Rattle.sets.specs.Lists.{pick}
use Rattle.words.specs.Part.{table}
use Rattle.words.proofs.Parts.{length-table, get_or-table, table-cong}
use Rattle.pieces.specs.Pieces.{laid_from, Put}

-- a list with other entries at the places that pass a test
abbrev pub redone : (ℕ → Bool) → (ℕ → ℕ) → List ℕ → List ℕ
redone there f l = table (λ i. pick (there i) (f i) (get_or l i 0)) (length l)

pub redone-length : (there : ℕ → Bool) (f : ℕ → ℕ) (l : List ℕ) → length (redone there f l) ≡ length l
redone-length there f l = length-table _ (length l)

-- at any place
pub redone-at : (there : ℕ → Bool) (f : ℕ → ℕ) (l : List ℕ) (i : ℕ) (d : Bool) → there i ≡ d → i < length l → get_or (redone there f l) i 0 ≡ pick d (f i) (get_or l i 0)
redone-at there f l i d e h = get_or-table (λ j. pick (there j) (f j) (get_or l j 0)) (length l) i 0 h ∙ ap (λ (x : Bool). pick x (f i) (get_or l i 0)) e

-- where the test fails, also past the end
pub redone-else : (there : ℕ → Bool) (f : ℕ → ℕ) (l : List ℕ) (i : ℕ) → there i ≡ false → get_or (redone there f l) i 0 ≡ get_or l i 0
redone-else there f l i e = go (dec_lt i (length l))
  where
    go : Dec (i < length l) → get_or (redone there f l) i 0 ≡ get_or l i 0
    go (yes h) = redone-at there f l i false e h
    go (no h) =
        get_or-eq_default (redone there f l) 0 (omega (arith, redone-length there f l))
        ∙ sym (get_or-eq_default l 0 (omega arith))

-- a list that is the same, place by place
pub is-redone : (there : ℕ → Bool) (f : ℕ → ℕ) (l out : List ℕ) → length out ≡ length l
    → ((i : ℕ) → i < length l → (d : Bool) → there i ≡ d → get_or out i 0 ≡ pick d (f i) (get_or l i 0)) → out ≡ redone there f l
is-redone there f l out e h =
    ext_get_or 0 out (redone there f l) (e ∙ sym (redone-length there f l))
    (λ i b. let k : i < length l = omega (arith, e) in h i k (there i) refl ∙ sym (redone-at there f l i (there i) refl k))

-- ---- one after the other

module _ (a : ℕ) (f : ℕ → ℕ) where
  abbrev within : ℕ → ℕ → Bool
  within n i = leb a i && ltb i (a + n)

  -- before the part, in it, behind it
  below : (n i : ℕ) → i < a → within n i ≡ false
  below n i h = ap (λ (d : Bool). d && ltb i (a + n)) (lt-leb a i h)

  inside : (n i : ℕ) → a ≤ i → i < a + n → within n i ≡ true
  inside n i h k = ap₂ ◌&&◌ (le-leb a i h) (lt-ltb i (a + n) k)

  behind : (n i : ℕ) → a ≤ i → a + n ≤ i → within n i ≡ false
  behind n i h k = ap₂ ◌&&◌ (le-leb a i h) (le-ltb i (a + n) k)

  pub from_start : (l : List ℕ) → l ≡ laid_from a 0 f l
  unfolding laid_from
  from_start l = is-redone (within 0) (λ i. f (i - a)) l l refl (λ i h d e. go i d e (dec_lt i a))
    where
      go : (i : ℕ) (d : Bool) → within 0 i ≡ d → Dec (i < a) → get_or l i 0 ≡ pick d (f (i - a)) (get_or l i 0)
      go i d e (yes k) = ap (λ (x : Bool). pick x (f (i - a)) (get_or l i 0)) (sym (below 0 i k) ∙ e)
      go i d e (no k) = ap (λ (x : Bool). pick x (f (i - a)) (get_or l i 0)) (sym (behind 0 i (omega arith) (omega arith)) ∙ e)

  pub from_step : (n : ℕ) (l out : List ℕ) (i v : ℕ) → out ≡ laid_from a n f l → i ≡ a + n → v ≡ f n → set out i v ≡ laid_from a (n + 1) f l
  unfolding laid_from
  from_step n l out i v e at q =
      is-redone (within (n + 1)) (λ j. f (j - a)) l (set out i v) (length-set out i v ∙ ap length e ∙ redone-length (within n) (λ j. f (j - a)) l)
      (λ j h d r. go j h d r (ℕ_discrete j i) (dec_lt j a) (dec_lt j (a + n)))
    where
      was : (j : ℕ) → j < length l → (d : Bool) → within n j ≡ d → get_or out j 0 ≡ pick d (f (j - a)) (get_or l j 0)
      was j h d r = ap (λ (x : List ℕ). get_or x j 0) e ∙ redone-at (within n) (λ y. f (y - a)) l j d r h

      go : (j : ℕ) → j < length l → (d : Bool) → within (n + 1) j ≡ d → Dec (j ≡ i) → Dec (j < a) → Dec (j < a + n)
          → get_or (set out i v) j 0 ≡ pick d (f (j - a)) (get_or l j 0)
      go j h d r (yes k) x y =
          let z : j - a ≡ n = omega arith in
          ap (λ (m : ℕ). get_or (set out i v) m 0) k
          ∙ get_or-set_same out i v 0 (omega (arith, h, k, ap length e, redone-length (within n) (λ m. f (m - a)) l))
          ∙ q ∙ ap f (sym z)
          ∙ ap (λ (t : Bool). pick t (f (j - a)) (get_or l j 0)) (sym (inside (n + 1) j (omega arith) (omega arith)) ∙ r)
      go j h d r (no k) (yes x) y =
          get_or-set_other out i j v 0 k ∙ was j h false (below n j x)
          ∙ ap (λ (t : Bool). pick t (f (j - a)) (get_or l j 0)) (sym (below (n + 1) j x) ∙ r)
      go j h d r (no k) (no x) (yes y) =
          get_or-set_other out i j v 0 k ∙ was j h true (inside n j (omega arith) y)
          ∙ ap (λ (t : Bool). pick t (f (j - a)) (get_or l j 0)) (sym (inside (n + 1) j (omega arith) (omega arith)) ∙ r)
      go j h d r (no k) (no x) (no y) =
          get_or-set_other out i j v 0 k ∙ was j h false (behind n j (omega arith) (omega arith))
          ∙ ap (λ (t : Bool). pick t (f (j - a)) (get_or l j 0)) (sym (behind (n + 1) j (omega arith) (omega arith)) ∙ r)

  -- what stands there, and what stays before it
  pub from-length : (n : ℕ) (l : List ℕ) → length (laid_from a n f l) ≡ length l
  unfolding laid_from
  from-length n l = redone-length (within n) (λ i. f (i - a)) l

  pub from_in : (n : ℕ) (l : List ℕ) (j : ℕ) → j < n → a + j < length l → get_or (laid_from a n f l) (a + j) 0 ≡ f j
  unfolding laid_from
  from_in n l j h k =
      let z : a + j - a ≡ j = omega arith in
      redone-at (within n) (λ i. f (i - a)) l (a + j) true (inside n (a + j) (omega arith) (omega arith)) k ∙ ap f z

  pub from-below : (n : ℕ) (l : List ℕ) (i : ℕ) → i < a → get_or (laid_from a n f l) i 0 ≡ get_or l i 0
  unfolding laid_from
  from-below n l i h = redone-else (within n) (λ j. f (j - a)) l i (below n i h)

  pub from-behind : (n : ℕ) (l : List ℕ) (i : ℕ) → a + n ≤ i → get_or (laid_from a n f l) i 0 ≡ get_or l i 0
  unfolding laid_from
  from-behind n l i h = redone-else (within n) (λ j. f (j - a)) l i (behind n i (omega arith) h)

-- parts of the same entries are the same
pub from-cong : (a n : ℕ) (f g : ℕ → ℕ) (l : List ℕ) → ((j : ℕ) → j < n → f j ≡ g j) → laid_from a n f l ≡ laid_from a n g l
unfolding laid_from
from-cong a n f g l h = table-cong _ _ (length l) (λ i b. go i (dec_lt i a) (dec_lt i (a + n)))
  where
    go : (i : ℕ) → Dec (i < a) → Dec (i < a + n)
        → pick (leb a i && ltb i (a + n)) (f (i - a)) (get_or l i 0) ≡ pick (leb a i && ltb i (a + n)) (g (i - a)) (get_or l i 0)
    go i (yes k) d = rw (lt-leb a i k)
    go i (no k) (yes m) = ap (λ (x : ℕ). pick (leb a i && ltb i (a + n)) x (get_or l i 0)) (h (i - a) (omega arith))
    go i (no k) (no m) = rw (le-leb a i (omega arith), le-ltb i (a + n) (omega arith))

-- ---- the loops

module _ (a n : ℕ) (f : ℕ → ℕ) (l : List ℕ) where
  pub put-start : Put a n f l 0 l
  put-start = record { upto = omega arith; so = from_start a f l }

  pub put_step : {i : ℕ} {out : List ℕ} → Put a n f l i out → i < n → (at v : ℕ) → at ≡ a + i → v ≡ f i → Put a n f l (i + 1) (set out at v)
  put_step {i} {out} g h at v e q = record { upto = omega arith; so = from_step a f i l out at v g.so e q }

  pub put-end : {i : ℕ} {out : List ℕ} → Put a n f l i out → n ≤ i → out ≡ laid_from a n f l
  put-end {i} {out} g h = let e : i ≡ n = omega (arith, g.upto) in g.so ∙ ap (λ (m : ℕ). laid_from a m f l) e

-- ---- a board with nothing on it

abbrev pub blank : ℕ → List ℕ
blank n = replicate n 0

pub blank-at : (n i : ℕ) → get_or (blank n) i 0 ≡ (let z : ℕ = 0 in z)
blank-at n i = go (dec_lt i n)
  where
    go : Dec (i < n) → get_or (blank n) i 0 ≡ (let z : ℕ = 0 in z)
    go (yes k) = get_or-replicate n i 0 0 k
    go (no k) = get_or-eq_default (blank n) 0 (omega (arith, length-replicate {A = ℕ} n 0))
