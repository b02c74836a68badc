-- Collecting a set: the start, one more who passes the test or not, the end.
use mathlib.Core.Path.{◌≡◌, refl, sym, ap, ◌∙◌}
use mathlib.Core.Bool.{Bool, true, false, ◌&&◌, ◌||◌}
use Prim.Native.Nat.{ℕ, ◌+◌, ◌≤◌, ◌<◌}
use native.Mathlib.Decide.{dec_lt}
use native.Mathlib.Omega.{arith}
use borrow.Author.Tests.{eq-eqb, ne_eqb, lt-ltb, le-ltb}
use lib.Dec.{eqb, ltb}
use lib.Pow.{pow_pos}
use Rattle.sets.specs.Lists.{pick}
use Rattle.sets.specs.Sets.{has, set_of, with}
use Rattle.sets.proofs.Lists.{and-true-end, and-false-end, or-false-end}
use Rattle.sets.proofs.Bits.{has-empty}
use Rattle.sets.proofs.Counting.{has-set_of, set_of-ext, is-set_of}
use Rattle.pieces.specs.Pieces.{Collected}

-- what a test comes to, where its parts are known
pub has_in : (s t v : ℕ) (b : Bool) → b ≡ has s v → s ≡ t → b ≡ has t v
has_in s t v b e q = e ∙ ap (λ (x : ℕ). has x v) q

module _ (test : ℕ → Bool) (w : ℕ) where
  pub collect-start : (set : ℕ) → set ≡ 0 → Collected test w 0 set
  collect-start set e =
      record {
        upto = omega arith;
        those = e ∙ is-set_of _ w 0 (pow_pos w)
            (λ u l. has-empty u ∙ sym (ap (λ (b : Bool). test u && b) (le-ltb u 0 (omega arith)) ∙ and-false-end (test u)));
      }

  -- one person more: those before, and this one where the test holds
  one_more : (n u : ℕ) (b : Bool) → test n ≡ b → pick b (test u && ltb u n || eqb u n) (test u && ltb u n) ≡ test u && ltb u (n + 1)
  one_more n u b e = go (dec_lt u n) (dec_lt n u) b e
    where
      go : Dec (u < n) → Dec (n < u) → (b : Bool) → test n ≡ b → pick b (test u && ltb u n || eqb u n) (test u && ltb u n) ≡ test u && ltb u (n + 1)
      go (yes l) r true q = rw (lt-ltb u n l, lt-ltb u (n + 1) (omega arith), ne_eqb u n (λ k. omega arith)) (or-false-end (test u && true))
      go (yes l) r false q = rw (lt-ltb u n l, lt-ltb u (n + 1) (omega arith))
      go (no l) (yes r) true q = rw (le-ltb u n (omega arith), le-ltb u (n + 1) (omega arith), ne_eqb u n (λ k. omega arith))
          (or-false-end (test u && false))
      go (no l) (yes r) false q = rw (le-ltb u n (omega arith), le-ltb u (n + 1) (omega arith))
      go (no l) (no r) true q =
          let same : u ≡ n = omega arith in
          rw (same, q, le-ltb n n (omega arith), lt-ltb n (n + 1) (omega arith), eq-eqb n n refl)
      go (no l) (no r) false q =
          let same : u ≡ n = omega arith in
          rw (same, q)

  pub collect-step : {n set : ℕ} → Collected test w n set → n < w → (b : Bool) (set' : ℕ) → b ≡ test n → set' ≡ pick b (with w set n) set
      → Collected test w (n + 1) set'
  collect-step {n} {set} g h b set' e q = record { upto = omega arith; those = q ∙ go b e }
    where
      those : ℕ → Bool
      those u = test u && ltb u n

      go : (b : Bool) → b ≡ test n → pick b (with w set n) set ≡ set_of (λ u. test u && ltb u (n + 1)) w
      go true e =
          set_of-ext _ _ w (λ u l.
          ap (λ (x : Bool). x || eqb u n) (ap (λ (s : ℕ). has s u) g.those ∙ has-set_of (λ y. test y && ltb y n) w u l)
          ∙ one_more n u true (sym e))
      go false e = g.those ∙ set_of-ext _ _ w (λ u l. one_more n u false (sym e))

  -- nobody from n on passes the test
  pub collect-end : {n set : ℕ} → Collected test w n set → ((u : ℕ) → u < w → n ≤ u → test u ≡ false) → set ≡ set_of test w
  collect-end {n} {set} g h = g.those ∙ set_of-ext _ _ w (λ u l. go u l (dec_lt u n))
    where
      go : (u : ℕ) → u < w → Dec (u < n) → test u && ltb u n ≡ test u
      go u l (yes k) = ap (λ (b : Bool). test u && b) (lt-ltb u n k) ∙ and-true-end (test u)
      go u l (no k) = ap (λ (b : Bool). b && ltb u n) (h u l (omega arith)) ∙ sym (h u l (omega arith))
