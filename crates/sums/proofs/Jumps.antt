-- Sets that stand side by side in the list: where s has no member below h, the list goes on from s with s and some of the first h people, then s + 2 ^ h.
use mathlib.Core.Path.{◌≡◌, refl, sym, ap, ap₂, subst, ◌∙◌}
use mathlib.Core.Logic.{inl, inr}
use mathlib.Core.Bool.{Bool, true, false, true≢false}
use mathlib.Core.Option.{none}
use mathlib.Core.List.{List, [], ◌∷◌, ◌++◌, map, append-nil}
use Prim.Native.Nat.{ℕ, zero, suc, ◌+◌, ◌-◌, ◌*◌, ◌^◌, ◌≤◌, ◌<◌}
use native.Mathlib.Nat.{add_assoc, add-zero, add-suc, zero-add, zero-mul, suc-mul, mul-le-mul_right, lt_of_mul-lt-mul_right, le_refl}
use native.Mathlib.Decide.{dec_lt}
use native.Mathlib.Omega.{arith}
use borrow.Author.Tests.{le-leb, lt-leb, lt-ltb}
use lib.Bits.{or_zero_r}
use lib.Count.{ones}
use lib.Dec.{leb}
use lib.Pow.{pow_pos, pow-add}
use Rattle.sets.specs.Lists.{pick, ◌∈◌, from, upto, cons_if, keep}
use Rattle.sets.specs.Sets.{has, size, sets}
use Rattle.sets.proofs.Lists.{pick-lt, pick-ge, from-lo, from-hi, from-append, upto-in, mem-middle, keep-in, keep_append, keep-nothing, keep-everything, keep-cong}
use Rattle.sets.proofs.Bits.{has-low, has-high, has-empty}
use Rattle.sets.proofs.Counting.{size-empty, size-words, size-ones}
use Rattle.sets.proofs.Listed.{sets-in, sets-apart}
use Rattle.sets.proofs.CountingUp.{up-size-more}
use Rattle.sets.proofs.Blocks.{keep-map, sets-few}
use Rattle.games.specs.Walks.{Search, plus, or_else, seek}
use Rattle.games.proofs.Cuts.{plus-plus, plus-zero}
use Rattle.games.proofs.Trials.{sum, sum-map}
use Rattle.sums.specs.Sums.{over, only_below, Reached}
use Rattle.sums.proofs.Sums.{over-weights}
use Rattle.sums.proofs.Seeks.{sum_over}

-- s with each set of at most r of the first h people, in ascending number
abbrev pub block : ℕ → ℕ → ℕ → List ℕ
block h r s = map (λ m. s + m) (sets h r 0)

-- ---- s has no member below h, and m has none from h on

module _ (h s q : ℕ) (e : s ≡ q * 2 ^ h) where
  has-below : (m u : ℕ) → u < h → has (s + m) u ≡ has m u
  has-below m u l = ap (λ (x : ℕ). has (x + m) u) e ∙ has-low q h m u l

  nobody-below : (u : ℕ) → u < h → has s u ≡ false
  nobody-below u l = ap (λ (x : ℕ). has x u) (sym (add-zero s)) ∙ has-below 0 u l ∙ has-empty u

  has-from : (m u : ℕ) → m < 2 ^ h → h ≤ u → has (s + m) u ≡ has s u
  has-from m u k l = at m k ∙ sym (at 0 (pow_pos h)) ∙ ap (λ (x : ℕ). has x u) (add-zero s)
    where
      at : (x : ℕ) → x < 2 ^ h → has (s + x) u ≡ has q (u - h)
      at x g =
          let whole : u ≡ h + (u - h) = omega arith in
          ap₂ (λ (y v : ℕ). has (y + x) v) e whole ∙ has-high q h x (u - h) g

  module _ (n : ℕ) (l : h ≤ n) where
    size-block : (m : ℕ) → m < 2 ^ h → size n (s + m) ≡ size n s + size h m
    size-block m k =
        let here : size n s ≡ size h 0 + size (n - h) q = ap (size n) (sym (add-zero s)) ∙ at 0 (pow_pos h) in
        omega (arith, at m k, here, size-empty h)
      where
        at : (x : ℕ) → x < 2 ^ h → size n (s + x) ≡ size h x + size (n - h) q
        at x g =
            let whole : n ≡ h + (n - h) = omega arith in
            ap₂ (λ (k y : ℕ). size k (y + x)) whole e ∙ size-words q h x (n - h) g

    block-fits : s < 2 ^ n → s + 2 ^ h ≤ 2 ^ n
    block-fits f =
        let whole : n ≡ n - h + h = omega arith in
        let double : 2 ^ n ≡ 2 ^ (n - h) * 2 ^ h = ap (λ (k : ℕ). 2 ^ k) whole ∙ pow-add 2 (n - h) h in
        let below : q * 2 ^ h < 2 ^ (n - h) * 2 ^ h = omega arith in
        let few : q < 2 ^ (n - h) = lt_of_mul-lt-mul_right (2 ^ h) below in
        omega (arith, e, double, mul-le-mul_right (2 ^ h) few, suc-mul q (2 ^ h))

    -- counted up at place h: one member more at most
    size-up : s + 2 ^ h < 2 ^ n → size n (s + 2 ^ h) ≤ suc (size n s)
    size-up f =
        omega (
          arith,
          size-ones n s (omega arith),
          size-ones n (s + 2 ^ h) f,
          ap ones (or_zero_r (s + 2 ^ h)),
          up-size-more h s 0 (λ u k. nobody-below u k ∙ sym (has-empty u)) (or_zero_r s),
        )

-- ---- the list from s on

from-shift : (s v m : ℕ) → from (s + v) m ≡ map (λ x. s + x) (from v m)
unfolding from
from-shift s v zero = refl
from-shift s v (suc m) = ap (λ (l : List ℕ). (s + v) ∷ l) (ap (λ (x : ℕ). from x m) (sym (add-suc s v)) ∙ from-shift s (suc v) m)

module _ (n t : ℕ) where
  -- at most t
  abbrev few : ℕ → Bool
  few x = leb (size n x) t

  -- a walk has come to s: what is to come are the sets from s on
  sets-from : (s : ℕ) (passed behind : List ℕ) → sets n t 0 ≡ passed ++ (s ∷ behind) → s < 2 ^ n → s ∷ behind ≡ keep few (from s (2 ^ n - s))
  unfolding upto
  sets-from s passed behind e l =
      sym (keep_append late passed (s ∷ behind) ∙ ap₂ ◌++◌ (keep-nothing late passed (λ x m. lt-leb s x (apart.1 x m))) (keep-everything late (s ∷ behind) on))
      ∙ ap (keep late) (sym e ∙ sets-few n t ∙ ap (keep few) whole ∙ keep_append few low high)
      ∙ keep_append late (keep few low) (keep few high)
      ∙ ap₂ ◌++◌
      (keep-nothing late (keep few low) (λ x m. let k = from-hi 0 s x (keep-in few x low m).0 in lt-leb s x (omega arith)))
      (keep-everything late (keep few high) (λ x m. le-leb s x (from-lo s (2 ^ n - s) x (keep-in few x high m).0)))
    where
      late : ℕ → Bool
      late x = leb s x

      low : List ℕ
      low = from 0 s

      high : List ℕ
      high = from s (2 ^ n - s)

      whole : from 0 (2 ^ n) ≡ low ++ high
      whole =
          let all : 2 ^ n ≡ s + (2 ^ n - s) = omega arith in
          ap (from 0) all ∙ from-append 0 s (2 ^ n - s) ∙ ap (λ (x : ℕ). low ++ from x (2 ^ n - s)) (zero-add s)

      apart : ((y : ℕ) → y ∈ behind → s < y) × ((w : ℕ) → w ∈ passed → w < s)
      apart = sets-apart n t 0 passed s behind e

      on : (x : ℕ) → x ∈ (s ∷ behind) → leb s x ≡ true
      on x (inl p) = le-leb s x (omega arith)
      on x (inr m) = le-leb s x (omega (arith, apart.0 x m))

  module _ (s h q : ℕ) (l : h ≤ n) (e : s ≡ q * 2 ^ h) where
    -- those before s + 2 ^ h
    kept_block : size n s ≤ t → keep few (from s (2 ^ h)) ≡ block h (t - size n s) s
    unfolding upto
    kept_block k =
        ap (λ (x : ℕ). keep few (from x (2 ^ h))) (sym (add-zero s))
        ∙ ap (keep few) (from-shift s 0 (2 ^ h))
        ∙ keep-map (λ m. s + m) few (from 0 (2 ^ h))
        ∙ ap (map (λ m. s + m)) (
        keep-cong _ _ (upto (2 ^ h)) (λ m i. same m (upto-in (2 ^ h) m i) (dec_lt (t - size n s) (size h m))) ∙ sym (sets-few h (t - size n s))
        )
      where
        same : (m : ℕ) → m < 2 ^ h → Dec (t - size n s < size h m) → leb (size n (s + m)) t ≡ leb (size h m) (t - size n s)
        same m g (yes b) = lt-leb (size n (s + m)) t (omega (arith, size-block h s q e n l m g)) ∙ sym (lt-leb (size h m) (t - size n s) b)
        same m g (no b) = le-leb (size n (s + m)) t (omega (arith, size-block h s q e n l m g)) ∙ sym (le-leb (size h m) (t - size n s) (omega arith))

    module _ (passed behind : List ℕ) (split : sets n t 0 ≡ passed ++ (s ∷ behind)) where
      here : (s < 2 ^ n) × (size n s ≤ t)
      here = let k = sets-in n t 0 s (subst (λ (x : List ℕ). s ∈ x) (sym split) (mem-middle passed s behind)) in (k.0, k.2)

      -- d numbers come after the block
      cut_at : (d : ℕ) → 2 ^ n - s ≡ 2 ^ h + d → s ∷ behind ≡ block h (t - size n s) s ++ keep few (from (s + 2 ^ h) d)
      cut_at d g =
          sets-from s passed behind split here.0
          ∙ ap (λ (x : ℕ). keep few (from s x)) g
          ∙ ap (keep few) (from-append s (2 ^ h) d)
          ∙ keep_append few (from s (2 ^ h)) (from (s + 2 ^ h) d)
          ∙ ap (λ (x : List ℕ). x ++ keep few (from (s + 2 ^ h) d)) (kept_block here.1)

      -- another may be away besides, and the block is not the last: s counted up at place h comes after it
      pub sets-jump : s + 2 ^ h < 2 ^ n → size n s < t → (later : List ℕ) × (s ∷ behind ≡ block h (t - size n s) s ++ ((s + 2 ^ h) ∷ later))
      unfolding from keep
      sets-jump f k =
          let d = 2 ^ n - suc (s + 2 ^ h) in
          let later = keep few (from (suc (s + 2 ^ h)) d) in
          let listed : few (s + 2 ^ h) ≡ true = le-leb (size n (s + 2 ^ h)) t (omega (arith, size-up h s q e n l f)) in
          (later, cut_at (suc d) (omega arith) ∙ ap (λ (b : Bool). block h (t - size n s) s ++ cons_if b (s + 2 ^ h) later) listed)

      -- the block is the last
      pub sets-jump-end : 2 ^ n ≤ s + 2 ^ h → s ∷ behind ≡ block h (t - size n s) s
      unfolding from keep
      sets-jump-end f = cut_at 0 (omega (arith, here.0, block-fits h s q e n l here.0)) ∙ append-nil (block h (t - size n s) s)

-- ---- sums over the block

-- people above those who may join
over-shift : (g : ℕ → ℕ → ℕ) (w : ℕ → ℕ) (h s q m r A : ℕ) → s ≡ q * 2 ^ h → m ≤ h → over (λ S left. g (s + S) left) w m r A ≡ over g w m r (s + A)
unfolding over
over-shift g w h s q zero r A e l = refl
over-shift g w h s q (suc m) zero A e l = over-shift g w h s q m zero A e (omega arith)
over-shift g w h s q (suc m) (suc r) A e l =
    ap₂ (λ (x y : ℕ). x + pick (has A m) 0 (w m * y)) (over-shift g w h s q m (suc r) A e (omega arith))
    (over-shift g w h s q m r (A + 2 ^ m) e (omega arith) ∙ ap (over g w m r) (sym (add_assoc s A (2 ^ m))))
    ∙ ap (λ (b : Bool). over g w m (suc r) (s + A) + pick b 0 (w m * over g w m r (s + A + 2 ^ m))) (sym (has-below h s q e A m l))

-- f summed over the block is f summed over the sets
pub sum-jump : (f : ℕ → ℕ) (h r s q : ℕ) → s ≡ q * 2 ^ h → sum f (block h r s) ≡ over (λ S left. f S) (λ u. 1) h r s
sum-jump f h r s q e =
    let room : r - size h 0 ≡ r = omega (arith, size-empty h) in
    sum-map f (λ m. s + m) (sets h r 0)
    ∙ sum_over (λ m. f (s + m)) h r 0 (pow_pos h) (omega (arith, size-empty h))
    ∙ ap (λ (x : ℕ). over (λ S left. f (s + S)) (λ u. 1) h x 0) room
    ∙ over-shift (λ S left. f S) (λ u. 1) h s q h r 0 e (le_refl h)
    ∙ ap (over (λ S left. f S) (λ u. 1) h r) (add-zero s)

-- ---- a search over the block

-- none of the first gets anything
seek-passed : {A B : Type 0} (f : A → Search B) (xs ys : List A) → ((x : A) → x ∈ xs → (f x).got ≡ none)
    → seek f (xs ++ ys) ≡ plus (sum (λ x. (f x).trials) xs) (seek f ys)
unfolding seek or_else
seek-passed f [] ys h = sym (plus-zero (seek f ys))
seek-passed f (x ∷ xs) ys h =
    ap₂ (λ o r. or_else o (f x).trials (λ _. r)) (h x (inl refl)) (seek-passed f xs ys (λ y m. h y (inr m)))
    ∙ plus-plus (f x).trials (sum (λ y. (f y).trials) xs) (seek f ys)

-- none of the block gets anything
pub seek-jump : {B : Type 0} (f : ℕ → Search B) (h r s q : ℕ) (ys : List ℕ) → s ≡ q * 2 ^ h → ((S : ℕ) → S ∈ block h r s → (f S).got ≡ none)
    → seek f (block h r s ++ ys) ≡ plus (over (λ S left. (f S).trials) (λ u. 1) h r s) (seek f ys)
seek-jump f h r s q ys e k = seek-passed f (block h r s) ys k ∙ ap (λ (x : ℕ). plus x (seek f ys)) (sum-jump (λ S. (f S).trials) h r s q e)

-- ---- the block as sets that a sum goes over

map-in : {A B : Type 0} (f : A → B) (y : B) (xs : List A) → y ∈ map f xs → (x : A) × (x ∈ xs) × (y ≡ f x)
map-in f y [] m = absurd m
map-in f y (x ∷ xs) (inl e) = (x, inl refl, e)
map-in f y (x ∷ xs) (inr m) = let k = map-in f y xs m in (k.0, inr k.1, k.2)

-- those below h alone have joined s
pub jump-reached : (n h r s q S : ℕ) → h ≤ n → s ≡ q * 2 ^ h → s < 2 ^ n → S ∈ block h r s → (left : ℕ) × Reached n (only_below h) n r s S left
jump-reached n h r s q S l e f i = (r - size h m, subst (λ (x : ℕ). Reached n (only_below h) n r s x (r - size h m)) (sym same) reached)
  where
    k : (m : ℕ) × (m ∈ sets h r 0) × (S ≡ s + m)
    k = map-in (λ x. s + x) S (sets h r 0) i

    m : ℕ
    m = k.0

    same : S ≡ s + m
    same = k.2

    low : m < 2 ^ h
    low = (sets-in h r 0 m k.1).0

    fits : s + m < 2 ^ n
    fits = omega (arith, low, block-fits h s q e n l f)

    holds : (u : ℕ) → has s u ≡ true → Dec (u < h) → has (s + m) u ≡ true
    holds u p (yes b) = absurd (true≢false (sym p ∙ nobody-below h s q e u b))
    holds u p (no b) = has-from h s q e m u low (omega arith) ∙ p

    joins : (u : ℕ) → has s u ≡ false → has (s + m) u ≡ true → Dec (u < h) → (u < n) × (0 < only_below h u)
    joins u p g (yes b) = (omega arith, subst (λ (c : Bool). 0 < pick c 1 0) (sym (lt-ltb u h b)) (le_refl 1))
    joins u p g (no b) = absurd (true≢false (sym g ∙ has-from h s q e m u low (omega arith) ∙ p))

    reached : Reached n (only_below h) n r s (s + m) (r - size h m)
    reached =
        record {
          fits = fits;
          holds = λ u p. holds u p (dec_lt u h);
          joins = λ u p g. joins u p g (dec_lt u h);
          many = omega (arith, (sets-in h r 0 m k.1).2, size-block h s q e n l m low);
        }

-- ---- a sum that those below h alone join goes over them alone

over-wider : (g : ℕ → ℕ → ℕ) (h d r A : ℕ) → over g (only_below h) (h + d) r A ≡ over g (λ u. 1) h r A
unfolding over
over-wider g h zero r A =
    ap (λ (k : ℕ). over g (only_below h) k r A) (add-zero h) ∙ over-weights g (only_below h) (λ u. 1) h r A (λ u l e. sym (pick-lt u h 1 0 l))
over-wider g h (suc d) zero A = ap (λ (k : ℕ). over g (only_below h) k 0 A) (add-suc h d) ∙ over-wider g h d zero A
over-wider g h (suc d) (suc r) A =
    ap (λ (k : ℕ). over g (only_below h) k (suc r) A) (add-suc h d)
    ∙ ap₂ ◌+◌ (over-wider g h d (suc r) A) (nothing (has A (h + d)) (only_below h (h + d)) (sym (pick-ge (h + d) h 1 0 (omega arith))))
    ∙ add-zero (over g (λ u. 1) h (suc r) A)
  where
    nothing : (b : Bool) (w : ℕ) → w ≡ 0 → pick b 0 (w * over g (only_below h) (h + d) r (A + 2 ^ (h + d))) ≡ 0
    nothing true w e = refl
    nothing false w e = ap (λ (x : ℕ). x * over g (only_below h) (h + d) r (A + 2 ^ (h + d))) e ∙ zero-mul _

pub over_below : (g : ℕ → ℕ → ℕ) (n h r A : ℕ) → h ≤ n → over g (only_below h) n r A ≡ over g (λ u. 1) h r A
over_below g n h r A l = let whole : n ≡ h + (n - h) = omega arith in ap (λ (k : ℕ). over g (only_below h) k r A) whole ∙ over-wider g h (n - h) r A
