-- A text grows at its end: bytes put one after the other are put at once.
use mathlib.Core.Path.{◌≡◌, refl, sym, ap, ◌∙◌}
use mathlib.Core.List.{List, [], ◌∷◌, ◌++◌}
use Prim.Native.Nat.{ℕ, zero, suc, ◌+◌, ◌-◌, ◌/◌, ◌%◌, ◌≤◌, ◌<◌}
use native.Mathlib.Numerals.{add-one}
use native.Mathlib.Omega.{arith}
use lib.ListN.{length, take, get_or, set}
use lib.Seq.{take-suc, take_all}
use Rattle.sets.proofs.Lists.{pick-lt, pick-ge}
use Rattle.telling.specs.declared.text.Text.{Text}
use Rattle.telling.specs.Lines.{digit, digits}
use Rattle.telling.specs.Held.{room, put_byte, put}

-- ---- one byte

pub byte_full : (t : Text) (b : ℕ) → room ≤ t.len → t ≡ put_byte t b
unfolding put_byte
byte_full t b h = pick-ge t.len room (record { bytes = set t.bytes t.len b; len = t.len + 1 }) t h

pub byte_put : (t : Text) (b : ℕ) → t.len < room → record { bytes = set t.bytes t.len b; len = t.len + 1 } ≡ put_byte t b
unfolding put_byte
byte_put t b h = pick-lt t.len room (record { bytes = set t.bytes t.len b; len = t.len + 1 }) t h

-- ---- more bytes

pub put-put : (t : Text) (a b : List ℕ) → put (put t a) b ≡ put t (a ++ b)
unfolding put
put-put t [] b = refl
put-put t (x ∷ a) b = put-put (put_byte t x) a b

pub put-byte-after : (t : Text) (a : List ℕ) (b : ℕ) → put_byte (put t a) b ≡ put t (a ++ (b ∷ []))
unfolding put
put-byte-after t a b = put-put t a (b ∷ [])

-- a loop that puts a word has put its first i bytes
pub word-start : (t : Text) (w : List ℕ) → t ≡ put t (take 0 w)
unfolding put
word-start t w = refl

pub word-step : (t x y : Text) (w : List ℕ) (i : ℕ) → i < length w → x ≡ put t (take i w) → y ≡ put_byte x (get_or w i 0)
    → y ≡ put t (take (i + 1) w)
word-step t x y w i h e f =
    f
    ∙ ap (λ (z : Text). put_byte z (get_or w i 0)) e
    ∙ put-byte-after t (take i w) (get_or w i 0)
    ∙ ap (put t) (sym (take-suc w i 0 h) ∙ ap (λ (n : ℕ). take n w) (sym (add-one i)))

pub word_end : (t x : Text) (w : List ℕ) (i : ℕ) → length w ≤ i → x ≡ put t (take i w) → x ≡ put t w
word_end t x w i h e = e ∙ ap (put t) (take_all i w h)

-- ---- the digits of a number

pub digits-none : (t : Text) (k n : ℕ) → k ≡ 0 → t ≡ put t (digits k n)
unfolding put digits
digits-none t k n e = ap (λ (m : ℕ). put t (digits m n)) (sym e)

pub digits-one : (t x : Text) (k n : ℕ) → 0 < k → n < 10 → x ≡ put_byte t (digit n) → x ≡ put t (digits k n)
unfolding put digits
digits-one t x zero n p h e = let z : ⊥ = omega arith in absurd z
digits-one t x (suc k) n p h e = e ∙ ap (put t) (pick-lt n 10 (digit n ∷ []) (digits k (n / 10) ++ (digit (n % 10) ∷ [])) h)

pub digits_more : (t x y : Text) (k n : ℕ) → 0 < k → 10 ≤ n → x ≡ put t (digits (k - 1) (n / 10)) → y ≡ put_byte x (digit (n % 10))
    → y ≡ put t (digits k n)
unfolding put digits
digits_more t x y zero n p h e f = let z : ⊥ = omega arith in absurd z
digits_more t x y (suc k) n p h e f =
    let less : suc k - 1 ≡ k = omega arith in
    f
    ∙ ap (λ (z : Text). put_byte z (digit (n % 10))) (e ∙ ap (λ (m : ℕ). put t (digits m (n / 10))) less)
    ∙ put-byte-after t (digits k (n / 10)) (digit (n % 10))
    ∙ ap (put t) (pick-ge n 10 (digit n ∷ []) (digits k (n / 10) ++ (digit (n % 10) ∷ [])) h)

-- the digits of a number, as the check looks for them
pub ruleset digit_rules = (digits-none, digits-one, digits_more)

-- ---- puts one after the other

module _ (t x y : Text) (a : List ℕ) (e : x ≡ put t a) where
  pub then-put : (b : List ℕ) → y ≡ put x b → y ≡ put t (a ++ b)
  then-put b f = f ∙ ap (λ (z : Text). put z b) e ∙ put-put t a b

  pub then-byte : (b : ℕ) → y ≡ put_byte x b → y ≡ put t (a ++ (b ∷ []))
  then-byte b f = f ∙ ap (λ (z : Text). put_byte z b) e ∙ put-byte-after t a b

-- the same bytes
pub put_same : (t x : Text) (a b : List ℕ) → x ≡ put t a → a ≡ b → x ≡ put t b
put_same t x a b e f = e ∙ ap (put t) f
