-- Past the end of a part every entry is zero.
use mathlib.Core.Path.{◌≡◌, ap}
use mathlib.Core.List.{List}
use Prim.Native.Nat.{ℕ, ◌+◌, ◌*◌, ◌≤◌}
use native.Mathlib.Omega.{arith}
use lib.ListN.{length, get_or-eq_default}
use Rattle.sets.specs.Stored.{stored, no_people}
use Rattle.cases.specs.Case.{zero_step, zero_rule}
use Rattle.words.specs.Word.{byte, word, long}
use Rattle.layout.specs.Layout.{person_in, step_in, row_in, rule_in}

-- no entry has more than four bytes
pub two_few : 2 ≤ 4
two_few = omega arith

pub four_few : 4 ≤ 4
four_few = omega arith

module _ (part : List ℕ) where
  byte_past : (i : ℕ) → length part ≤ i → byte part i ≡ (let z : ℕ = 0 in z)
  byte_past i h = get_or-eq_default part 0 h

  word-past : (i : ℕ) → length part ≤ i → word part i ≡ (let z : ℕ = 0 in z)
  word-past i h = omega (arith, byte_past i h, byte_past (i + 1) (omega arith))

  pub person_past : (i : ℕ) → length part ≤ 2 * i → person_in part i ≡ (let z : ℕ = 0 in z)
  person_past i h = word-past (2 * i) h

  pub step_past : (i : ℕ) → length part ≤ 4 * i → step_in part i ≡ zero_step
  step_past i h =
      let roles = word-past (4 * i) h in
      let before = byte_past (4 * i + 2) (omega arith) in
      let spare = byte_past (4 * i + 3) (omega arith) in
      λ j. record { roles = roles j; before = before j; spare = spare j }

  pub row_past : (i : ℕ) → length part ≤ 4 * i → row_in part i ≡ no_people
  row_past i h =
      let e : long part (4 * i) ≡ 0 =
      omega (arith, byte_past (4 * i) h, byte_past (4 * i + 1) (omega arith), byte_past (4 * i + 2) (omega arith), byte_past (4 * i + 3) (omega arith)) in
      ap stored e

  pub rule_past : (i : ℕ) → length part ≤ 4 * i → rule_in part i ≡ zero_rule
  rule_past i h =
      let form = byte_past (4 * i) h in
      let relation = byte_past (4 * i + 1) (omega arith) in
      let step = byte_past (4 * i + 2) (omega arith) in
      let group = byte_past (4 * i + 3) (omega arith) in
      λ j. record { form = form j; relation = relation j; step = record { 0 = step j }; group = group j }
