-- Numbers and their bytes: each is got back from the other.
use Prim.Native.Nat.{ℕ, ◌+◌, ◌*◌, ◌/◌, ◌%◌, ◌≤◌, ◌<◌}
use mathlib.Core.Path.{◌≡◌, refl, sym, ◌∙◌, ap}
use mathlib.Core.List.{List, [], ◌∷◌}
use native.Mathlib.Omega.{arith}
use native.Mathlib.Nat.{add-zero, add_assoc, div-add-mod'}
use native.Mathlib.Numerals.{add-one}
use lib.ListN.{length, take, drop, get_or-eq_default}
use lib.Seq.{drop-cons, take-add, drop-drop}
use lib.Pow.{shr-shr}
use Rattle.words.specs.Word.{byte, le2, le4}

-- ---- a number is what its bytes say

pub word-le2 : (v : ℕ) → v % 256 + v / 256 * 256 ≡ v
word-le2 v = omega arith

digits : (v a x b y c z : ℕ) → x * 256 + a ≡ v → y * 256 + b ≡ x → z * 256 + c ≡ y → a + b * 256 + c * 65536 + z * 16777216 ≡ v
digits v a x b y c z p q r = omega arith

pub long-le4 : (v : ℕ) → v % 256 + v / 256 % 256 * 256 + v / 65536 % 256 * 65536 + v / 16777216 * 16777216 ≡ v
long-le4 v =
    let e : v / 65536 ≡ v / 256 / 256 = sym (shr-shr v 8 8) in
    let f : v / 16777216 ≡ v / 256 / 256 / 256 = sym (ap (λ x. x / 256) (shr-shr v 8 8) ∙ shr-shr v 16 8) in
    rw (e, f) (digits _ _ _ _ _ _ _ (div-add-mod' v 256) (div-add-mod' (v / 256) 256) (div-add-mod' (v / 256 / 256) 256))

-- ---- bytes are those of the number that they say

pub le2-word : (a b : ℕ) → a < 256 → b < 256 → le2 (a + b * 256) ≡ a ∷ b ∷ []
le2-word a b h g =
    let p : (a + b * 256) % 256 ≡ a = omega arith in
    let d : (a + b * 256) / 256 ≡ b = omega arith in
    rw (p, d) refl

pub le4-long : (a b c d : ℕ) → a < 256 → b < 256 → c < 256 → d < 256 → le4 (a + b * 256 + c * 65536 + d * 16777216) ≡ a ∷ b ∷ c ∷ d ∷ []
le4-long a b c d h g i j =
    let n = a + b * 256 + c * 65536 + d * 16777216 in
    let p : n % 256 ≡ a = omega arith in
    let q : n / 256 ≡ b + c * 256 + d * 65536 = omega arith in
    let r : n / 65536 ≡ c + d * 256 = omega arith in
    let s : n / 16777216 ≡ d = omega arith in
    let q' : (b + c * 256 + d * 65536) % 256 ≡ b = omega arith in
    let r' : (c + d * 256) % 256 ≡ c = omega arith in
    rw (p, q, q', r, r', s) refl

-- ---- the bytes of a list

pub take-two : (l : List ℕ) (k : ℕ) → k + 2 ≤ length l → take 2 (drop k l) ≡ byte l k ∷ byte l (k + 1) ∷ []
take-two l k h =
    ap (λ r. take 2 r) (drop-cons l k 0 (omega arith))
    ∙ ap (λ r. byte l k ∷ take 1 r) (ap (λ j. drop j l) (sym (add-one k)) ∙ drop-cons l (k + 1) 0 (omega arith))

pub take-four : (l : List ℕ) (k : ℕ) → k + 4 ≤ length l → take 4 (drop k l) ≡ byte l k ∷ byte l (k + 1) ∷ byte l (k + 2) ∷ byte l (k + 3) ∷ []
take-four l k h =
    let two : (k + 2) + 2 ≤ length l = omega arith in
    take-add 2 2 (drop k l)
    ∙ rw (drop-drop 2 k l, take-two l k (omega arith), take-two l (k + 2) two, add_assoc k 2 1) refl

-- byte 0 of an entry
pub at_zero : (l : List ℕ) (k v : ℕ) → byte l (k + 0) ≡ v → byte l k ≡ v
at_zero l k v h = ap (λ x. byte l x) (sym (add-zero k)) ∙ h

-- past the end every byte is 0
pub past-zero : (l : List ℕ) (k j : ℕ) → length l ≤ k → byte l (k + j) ≡ 0
past-zero l k j h = get_or-eq_default l 0 {n = k + j} (omega arith)
