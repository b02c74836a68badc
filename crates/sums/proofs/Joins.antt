-- A set that one person joins.
use mathlib.Core.Path.{◌≡◌, refl, sym, ap, ◌∙◌}
use mathlib.Core.Bool.{Bool, true, false, ◌&&◌, ◌||◌}
use Prim.Native.Nat.{ℕ, suc, ◌+◌, ◌^◌, ◌≤◌, ◌<◌}
use native.Mathlib.Nat.{lt_of_lt_of_le}
use native.Mathlib.Omega.{arith}
use borrow.Author.Tests.{eq-eqb, ne_eqb, eqb-true}
use lib.Bits.{bit_and, or_disjoint, or_lt, and_lt}
use lib.Dec.{eqb}
use lib.Pow.{pow-lt, pow_pos, pow_mono}
use Rattle.sets.specs.Sets.{has, bit, size, with}
use Rattle.sets.specs.Stored.{width}
use Rattle.sets.proofs.Lists.{and-false-end, or-false-end, true-or}
use Rattle.sets.proofs.Bits.{has-empty, has-power, has-and, has-or}
use Rattle.sets.proofs.Counting.{count-but-one, set-ext, is-set_of, size-width}

module _ (n v A : ℕ) (listed : v < n) (fits : A < 2 ^ n) (outside : has A v ≡ false) where
  apart : bit_and A (2 ^ v) ≡ 0
  apart =
      set-ext n (bit_and A (2 ^ v)) 0 (and_lt n A (2 ^ v) fits (pow-lt listed)) (pow_pos n)
      (λ u l. has-and A (2 ^ v) u ∙ ap (λ (b : Bool). has A u && b) (has-power v u) ∙ neither u (eqb u v) refl ∙ sym (has-empty u))
    where
      neither : (u : ℕ) (b : Bool) → eqb u v ≡ b → has A u && b ≡ false
      neither u true q = ap (λ (x : ℕ). has A x && true) (eqb-true u v q) ∙ ap (λ (b : Bool). b && true) outside
      neither u false q = and-false-end (has A u)

  -- its members are those before and v
  pub joined-has : (u : ℕ) → has (A + 2 ^ v) u ≡ has A u || eqb u v
  joined-has u = ap (λ (x : ℕ). has x u) (sym (or_disjoint A (2 ^ v) apart)) ∙ has-or A (2 ^ v) u ∙ ap (λ (b : Bool). has A u || b) (has-power v u)

  pub joined-self : has (A + 2 ^ v) v ≡ true
  joined-self = joined-has v ∙ true-or (has A v) (eqb v v) (eq-eqb v v refl)

  pub joined-other : (u : ℕ) → (u ≡ v → ⊥) → has (A + 2 ^ v) u ≡ has A u
  joined-other u d = joined-has u ∙ ap (λ (b : Bool). has A u || b) (ne_eqb u v d) ∙ or-false-end (has A u)

  pub joined-lt : A + 2 ^ v < 2 ^ n
  joined-lt = omega (arith, or_lt n A (2 ^ v) fits (pow-lt listed), or_disjoint A (2 ^ v) apart)

  pub joined-size : size n (A + 2 ^ v) ≡ suc (size n A)
  unfolding size
  joined-size =
      omega (arith, count-but-one (has (A + 2 ^ v)) (has A) n v listed (λ u l d. joined-other u d) outside, ap bit joined-self)

-- with person v, as a number
pub with-joined : (n A v : ℕ) → n ≤ width → v < n → A < 2 ^ n → has A v ≡ false → with width A v ≡ A + 2 ^ v
with-joined n A v h l k e =
    sym (is-set_of (λ w. has A w || eqb w v) width (A + 2 ^ v) (lt_of_lt_of_le (joined-lt n v A l k e) (pow_mono h)) (λ u b. joined-has n v A l k e u))

-- people of the first n, counted among all
pub size-wide : (n A : ℕ) → n ≤ width → A < 2 ^ n → size n A ≡ size width A
size-wide n A h l = size-width n width A l (lt_of_lt_of_le l (pow_mono h))
