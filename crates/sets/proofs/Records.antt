-- A record stores one set, and two records of one set are equal.
use mathlib.Core.Path.{◌≡◌, refl, sym, ap, ◌∙◌}
use mathlib.Core.Bool.{Bool}
use mathlib.Core.Option.{none, some}
use Prim.Native.Nat.{ℕ, ◌^◌, ◌≤◌, ◌<◌}
use native.Mathlib.Omega.{arith}
use borrow.Author.Tests.{lt-ltb, le-ltb}
use lib.Dec.{ltb}
use Rattle.sets.specs.Lists.{only_if}
use Rattle.sets.specs.declared.People.{People}
use Rattle.sets.specs.Stored.{width, number, stored, no_people, from_words}

pub number-stored : (s : ℕ) → number (stored s) ≡ s
unfolding number
number-stored s = refl

pub stored-number : (p : People) → stored (number p) ≡ p
unfolding number
stored-number p = refl

pub number-injective : (p q : People) → number p ≡ number q → p ≡ q
number-injective p q e = sym (stored-number p) ∙ ap stored e ∙ stored-number q

pub number-none : number no_people ≡ 0
unfolding number
number-none = refl

-- ---- two words that write a set, or more than a record has room for

module _ (low high : ℕ) where
  past : 2 ^ width ≤ from_words low high → none ≡ only_if (ltb (from_words low high) (2 ^ width)) (from_words low high)
  past h = sym (ap (λ (b : Bool). only_if b (from_words low high)) (le-ltb (from_words low high) (2 ^ width) h))

  pub high-past : 0 < high → none ≡ only_if (ltb (from_words low high) (2 ^ width)) (from_words low high)
  high-past h = past (omega arith)

  pub low-past : 2 ^ width ≤ low → none ≡ only_if (ltb (from_words low high) (2 ^ width)) (from_words low high)
  low-past h = past (omega arith)

  pub words-held : low < 2 ^ width → high ≡ 0 → some (number (stored low)) ≡ only_if (ltb (from_words low high) (2 ^ width)) (from_words low high)
  words-held h e =
      let same : low ≡ from_words low high = omega arith in
      ap some (number-stored low ∙ same)
      ∙ sym (ap (λ (b : Bool). only_if b (from_words low high)) (lt-ltb (from_words low high) (2 ^ width) (omega (arith, same))))
