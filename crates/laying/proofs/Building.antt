-- A board, block by block and part by part: what stands there then, and what stays.
use mathlib.Core.Path.{◌≡◌, refl, sym, ap, ◌∙◌}
use mathlib.Core.Bool.{Bool, true, false, ◌&&◌}
use mathlib.Core.List.{List}
use Prim.Native.Nat.{ℕ, ◌+◌, ◌-◌, ◌*◌, ◌/◌, ◌%◌, ◌≤◌, ◌<◌}
use native.Mathlib.Decide.{dec_lt}
use native.Mathlib.Omega.{arith}
use borrow.Author.Tests.{lt-ltb, le-ltb, le-leb, lt-leb}
use lib.Dec.{leb, ltb}
use lib.ListN.{length, get_or, length-replicate}
use lib.Seq.{ext_get_or}
use Rattle.sets.specs.Lists.{pick}
use Rattle.sets.proofs.Lists.{and-false-end}
use Rattle.cases.specs.Case.{most_people}
use Rattle.boards.specs.Board.{relations, rows, places}
use Rattle.pieces.specs.Pieces.{laid_from}
use Rattle.pieces.proofs.Writing.{redone-length, redone-at, redone-else, is-redone, from-length, from_in, from-below, from-behind, blank, blank-at}
use Rattle.laying.specs.Putting.{laid_blocks, PutBlocks, Front}

-- ---- block after block

module _ (a n : ℕ) (f : ℕ → ℕ → ℕ) where
  abbrev block : ℕ → ℕ
  block i = (i - a) / most_people

  abbrev in-it : ℕ → ℕ
  in-it i = (i - a) % most_people

  abbrev there : ℕ → ℕ → Bool
  there m i = leb a i && (ltb (block i) m && ltb (in-it i) n)

  there-as : (m i : ℕ) (x y : Bool) → a ≤ i → ltb (block i) m ≡ x → ltb (in-it i) n ≡ y → there m i ≡ x && y
  there-as m i x y h e q = rw (le-leb a i h, e, q)

  there-below : (m i : ℕ) → i < a → there m i ≡ false
  there-below m i h = ap (λ (d : Bool). d && (ltb (block i) m && ltb (in-it i) n)) (lt-leb a i h)

  there-past : (m i : ℕ) → a ≤ i → m ≤ block i → there m i ≡ false
  there-past m i h k = rw (le-leb a i h, le-ltb (block i) m k)

  there-short : (m i : ℕ) → a ≤ i → n ≤ in-it i → there m i ≡ false
  there-short m i h k = rw (le-leb a i h, le-ltb (in-it i) n k) (and-false-end (ltb (block i) m))

  there-in : (m i : ℕ) → a ≤ i → block i < m → in-it i < n → there m i ≡ true
  there-in m i h k l = there-as m i true true h (lt-ltb (block i) m k) (lt-ltb (in-it i) n l)

  abbrev entry : ℕ → ℕ
  entry i = f (block i) (in-it i)

  pub blocks_start : (l : List ℕ) → l ≡ laid_blocks a 0 n f l
  unfolding laid_blocks
  blocks_start l = is-redone (there 0) entry l l refl (λ i h d e. ap (λ (x : Bool). pick x (entry i) (get_or l i 0)) (sym (go i (dec_lt i a)) ∙ e))
    where
      go : (i : ℕ) → Dec (i < a) → there 0 i ≡ false
      go i (yes k) = there-below 0 i k
      go i (no k) = there-past 0 i (omega arith) (omega arith)

  pub blocks_step : (k : ℕ) (l out out' : List ℕ) → n ≤ most_people → out ≡ laid_blocks a k n f l → out' ≡ laid_from (a + k * most_people) n (f k) out
      → out' ≡ laid_blocks a (k + 1) n f l
  unfolding laid_blocks
  blocks_step k l out out' small e q =
      is-redone (there (k + 1)) entry l out' long
      (λ i h d r. go i h (dec_lt i a) (dec_lt (block i) k) (dec_lt k (block i)) (dec_lt (in-it i) n)
      ∙ ap (λ (x : Bool). pick x (entry i) (get_or l i 0)) r)
    where
      base : ℕ
      base = a + k * most_people

      before : length out ≡ length l
      before = ap length e ∙ redone-length (there k) entry l

      long : length out' ≡ length l
      long = ap length q ∙ from-length base (f k) n out ∙ before

      was : (i : ℕ) → i < length l → get_or out i 0 ≡ pick (there k i) (entry i) (get_or l i 0)
      was i h = ap (λ (x : List ℕ). get_or x i 0) e ∙ redone-at (there k) entry l i (there k i) refl h

      low : (i : ℕ) → i < base → get_or out' i 0 ≡ get_or out i 0
      low i h = ap (λ (x : List ℕ). get_or x i 0) q ∙ from-below base (f k) n out i h

      high : (i : ℕ) → base + n ≤ i → get_or out' i 0 ≡ get_or out i 0
      high i h = ap (λ (x : List ℕ). get_or x i 0) q ∙ from-behind base (f k) n out i h

      same : (i : ℕ) → i < length l → there k i ≡ there (k + 1) i → get_or out' i 0 ≡ get_or out i 0
          → get_or out' i 0 ≡ pick (there (k + 1) i) (entry i) (get_or l i 0)
      same i h t o = o ∙ was i h ∙ ap (λ (x : Bool). pick x (entry i) (get_or l i 0)) t

      go : (i : ℕ) → i < length l → Dec (i < a) → Dec (block i < k) → Dec (k < block i) → Dec (in-it i < n)
          → get_or out' i 0 ≡ pick (there (k + 1) i) (entry i) (get_or l i 0)
      go i h (yes y) x z w = same i h (there-below k i y ∙ sym (there-below (k + 1) i y)) (low i (omega arith))
      go i h (no y) (yes x) z (yes w) =
          same i h (there-in k i (omega arith) x w ∙ sym (there-in (k + 1) i (omega arith) (omega arith) w)) (low i (omega arith))
      go i h (no y) (yes x) z (no w) =
          same i h (there-short k i (omega arith) (omega arith) ∙ sym (there-short (k + 1) i (omega arith) (omega arith))) (low i (omega arith))
      go i h (no y) (no x) (yes z) w =
          same i h (there-past k i (omega arith) (omega arith) ∙ sym (there-past (k + 1) i (omega arith) (omega arith))) (high i (omega arith))
      go i h (no y) (no x) (no z) (yes w) =
          let b : block i ≡ k = omega arith in
          let at : i ≡ base + in-it i = omega arith in
          ap (λ (x : List ℕ). get_or x i 0) q ∙ ap (λ (j : ℕ). get_or (laid_from base n (f k) out) j 0) at
          ∙ from_in base (f k) n out (in-it i) w (omega (arith, before, at, h)) ∙ ap (λ (j : ℕ). f j (in-it i)) (sym b)
          ∙ ap (λ (x : Bool). pick x (entry i) (get_or l i 0)) (sym (there-in (k + 1) i (omega arith) (omega arith) w))
      go i h (no y) (no x) (no z) (no w) =
          same i h (there-short k i (omega arith) (omega arith) ∙ sym (there-short (k + 1) i (omega arith) (omega arith))) (high i (omega arith))

  pub blocks-length : (m : ℕ) (l : List ℕ) → length (laid_blocks a m n f l) ≡ length l
  unfolding laid_blocks
  blocks-length m l = redone-length (there m) entry l

  pub blocks-below : (m : ℕ) (l : List ℕ) (i : ℕ) → i < a → get_or (laid_blocks a m n f l) i 0 ≡ get_or l i 0
  unfolding laid_blocks
  blocks-below m l i h = redone-else (there m) entry l i (there-below m i h)

  pub blocks-past : (m : ℕ) (l : List ℕ) (i : ℕ) → a ≤ i → m ≤ block i → get_or (laid_blocks a m n f l) i 0 ≡ get_or l i 0
  unfolding laid_blocks
  blocks-past m l i h k = redone-else (there m) entry l i (there-past m i h k)

  pub blocks_at : (m : ℕ) (l : List ℕ) (i : ℕ) → a ≤ i → i < length l
      → get_or (laid_blocks a m n f l) i 0 ≡ pick (ltb (block i) m && ltb (in-it i) n) (entry i) (get_or l i 0)
  unfolding laid_blocks
  blocks_at m l i h k =
      redone-at (there m) entry l i (ltb (block i) m && ltb (in-it i) n) (there-as m i (ltb (block i) m) (ltb (in-it i) n) h refl refl) k

-- ---- the loops

module _ (a m n : ℕ) (f : ℕ → ℕ → ℕ) (l : List ℕ) where
  pub put-blocks-start : PutBlocks a m n f l 0 l
  put-blocks-start = record { upto = omega arith; so = blocks_start a n f l }

  pub put-blocks-step : {k : ℕ} {out : List ℕ} → PutBlocks a m n f l k out → k < m → n ≤ most_people → (a' : ℕ) (out' : List ℕ) → a' ≡ a + k * most_people
      → out' ≡ laid_from a' n (f k) out → PutBlocks a m n f l (k + 1) out'
  put-blocks-step {k} {out} g h small a' out' e q =
      record { upto = omega arith; so = blocks_step a n f k l out out' small g.so (q ∙ ap (λ (x : ℕ). laid_from x n (f k) out) e) }

  pub put-blocks-end : {k : ℕ} {out : List ℕ} → PutBlocks a m n f l k out → m ≤ k → out ≡ laid_blocks a m n f l
  put-blocks-end {k} {out} g h = let e : k ≡ m = omega (arith, g.upto) in g.so ∙ ap (λ (x : ℕ). laid_blocks a x n f l) e

-- ---- a board, part by part

module _ (b : List ℕ) where
  pub front-start : Front b 0 (blank places)
  front-start =
      record {
        long = length-replicate {A = ℕ} places 0;
        done = λ i h. absurd (omega arith);
        rest = λ i h. blank-at places i;
      }

  pub front-end : {out : List ℕ} → length b ≡ places → Front b places out → out ≡ b
  front-end {out} e g = ext_get_or 0 out b (g.long ∙ sym e) (λ i h. g.done i (omega (arith, g.long)))

  module _ {a : ℕ} {out : List ℕ} (g : Front b a out) where
    -- a part with room for w entries, of which n are put and the others are 0
    pub front-from : (n w : ℕ) (f : ℕ → ℕ) (out' : List ℕ) → n ≤ w → a + w ≤ places
        → ((j : ℕ) → j < w → get_or b (a + j) 0 ≡ pick (ltb j n) (f j) 0) → out' ≡ laid_from a n f out → Front b (a + w) out'
    front-from n w f out' small room part q =
        record {
          long = ap length q ∙ from-length a f n out ∙ g.long;
          done = λ i h. ap (λ (x : List ℕ). get_or x i 0) q ∙ go i h (dec_lt i a) (dec_lt i (a + n));
          rest = λ i h. ap (λ (x : List ℕ). get_or x i 0) q ∙ from-behind a f n out i (omega arith) ∙ g.rest i (omega arith);
        }
      where
        go : (i : ℕ) → i < a + w → Dec (i < a) → Dec (i < a + n) → get_or (laid_from a n f out) i 0 ≡ get_or b i 0
        go i h (yes k) d = from-below a f n out i k ∙ g.done i k
        go i h (no k) (yes m) =
            let at : i ≡ a + (i - a) = omega arith in
            let j : i - a < n = omega arith in
            ap (λ (x : ℕ). get_or (laid_from a n f out) x 0) at ∙ from_in a f n out (i - a) j (omega (arith, g.long))
            ∙ sym (ap (λ (x : ℕ). get_or b x 0) at ∙ part (i - a) (omega arith) ∙ ap (λ (d : Bool). pick d (f (i - a)) 0) (lt-ltb (i - a) n j))
        go i h (no k) (no m) =
            let at : i ≡ a + (i - a) = omega arith in
            from-behind a f n out i (omega arith) ∙ g.rest i (omega arith)
            ∙ sym (ap (λ (x : ℕ). get_or b x 0) at ∙ part (i - a) (omega arith) ∙ ap (λ (d : Bool). pick d (f (i - a)) 0) (le-ltb (i - a) n (omega arith)))

    -- a part with room for a block of every person for each relation
    pub front-blocks : (m n : ℕ) (f : ℕ → ℕ → ℕ) (out' : List ℕ) → m ≤ relations → a + rows ≤ places
        → ((k u : ℕ) → k < relations → u < most_people → get_or b (a + (k * most_people + u)) 0 ≡ pick (ltb k m && ltb u n) (f k u) 0)
        → out' ≡ laid_blocks a m n f out → Front b (a + rows) out'
    front-blocks m n f out' small room part q =
        record {
          long = ap length q ∙ blocks-length a n f m out ∙ g.long;
          done = λ i h. ap (λ (x : List ℕ). get_or x i 0) q ∙ go i h (dec_lt i a);
          rest = λ i h. ap (λ (x : List ℕ). get_or x i 0) q ∙ blocks-past a n f m out i (omega arith) (omega arith) ∙ g.rest i (omega arith);
        }
      where
        go : (i : ℕ) → i < a + rows → Dec (i < a) → get_or (laid_blocks a m n f out) i 0 ≡ get_or b i 0
        go i h (yes k) = blocks-below a n f m out i k ∙ g.done i k
        go i h (no k) =
            let x : ℕ = (i - a) / most_people in
            let y : ℕ = (i - a) % most_people in
            let at : i ≡ a + (x * most_people + y) = omega arith in
            blocks_at a n f m out i (omega arith) (omega (arith, g.long))
            ∙ ap (λ (z : ℕ). pick (ltb x m && ltb y n) (f x y) z) (g.rest i (omega arith))
            ∙ sym (ap (λ (z : ℕ). get_or b z 0) at ∙ part x y (omega arith) (omega arith))
