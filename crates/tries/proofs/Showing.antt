-- The good people that the dynamic walk has found so far: how many, and the set of them.
use mathlib.Core.Path.{◌≡◌, sym, ap, ap₂, ◌∙◌}
use mathlib.Core.Bool.{Bool, true, false, ◌||◌}
use mathlib.Core.Option.{none}
use Prim.Native.Nat.{ℕ, ◌+◌, ◌^◌, ◌≤◌, ◌<◌}
use native.Mathlib.Omega.{arith}
use borrow.Author.Tests.{eq-eqb, ne_eqb, ltb-true}
use lib.Dec.{ltb, eqb}
use lib.Pow.{pow_pos}
use Rattle.sets.specs.Lists.{pick}
use Rattle.sets.specs.Sets.{has, with, after}
use Rattle.sets.specs.Stored.{width}
use Rattle.sets.proofs.Lists.{and-true}
use Rattle.sets.proofs.Bits.{has-empty}
use Rattle.sets.proofs.Counting.{set_of-lt, has-set_of}
use Rattle.sets.proofs.Masks.{with-new}
use Rattle.tries.proofs.Scans.{stop, go, has-after}
use Rattle.tries.proofs.Lines.{count_good}

-- T are still in line, S are those found
pub record Shown (T S found t : ℕ) : Type 0 where
  pub few : found ≤ t
  pub small : S < 2 ^ width
  pub apart : (u : ℕ) → u < width → has T u ≡ true → has S u ≡ false

pub shown-start : (T t : ℕ) → Shown T 0 0 t
shown-start T t = record { few = omega arith; small = pow_pos width; apart = λ u h e. has-empty u }

-- behind a person
pub shown-same : {T S found t : ℕ} (v : ℕ) → Shown T S found t → Shown (after width T v) S found t
shown-same {T} v s = record { few = s.few; small = s.small; apart = λ u h e. s.apart u h (and-true (has T u) (ltb v u) (sym (has-after T v u h) ∙ e)).0 }

-- one good person more
module _ {T S found t : ℕ} (s : Shown T S found t) (v S' : ℕ) (h : v < width) (m : has T v ≡ true) (e : S' ≡ with width S v) where
  pub shown-sum : S' ≡ S + 2 ^ v
  shown-sum = e ∙ with-new width S v s.small h (s.apart v h m)

  pub shown-more : (found ≡ t → ⊥) → Shown (after width T v) S' (found + 1) t
  shown-more f = record {
    few = omega (arith, s.few);
    small = lt_by e;
    apart = apart-too;
  }
    where
      lt_by : S' ≡ with width S v → S' < 2 ^ width
      lt_by q = rw q (set_of-lt (λ w. has S w || eqb w v) width)

      apart-too : (u : ℕ) → u < width → has (after width T v) u ≡ true → has S' u ≡ false
      apart-too u l k =
          let b = and-true (has T u) (ltb v u) (sym (has-after T v u l) ∙ k) in
          ap (λ x. has x u) e
          ∙ has-set_of (λ w. has S w || eqb w v) width u l
          ∙ ap₂ ◌||◌ (s.apart u l b.0) (ne_eqb u v (λ q. omega (arith, ltb-true v u b.1)))

-- what is done after a good person: enough are found, or one more is shown
pub enough-found : (t u found S : ℕ) → found ≡ t → count_good t u none (found, S) ≡ stop none
enough-found t u found S e = ap (λ (b : Bool). pick b (stop none) (go (found + 1, S + 2 ^ u))) (eq-eqb found t e)

pub one_found : (t u found S S' : ℕ) → (found ≡ t → ⊥) → S' ≡ S + 2 ^ u → count_good t u none (found, S) ≡ go (found + 1, S')
one_found t u found S S' f e = ap (λ (b : Bool). pick b (stop none) (go (found + 1, S + 2 ^ u))) (ne_eqb found t f) ∙ ap (λ x. go (found + 1, x)) (sym e)
