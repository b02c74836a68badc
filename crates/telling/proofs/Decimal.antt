-- The digits of a number tell it: read from the left, ten times what was read and the next digit, they come to the number.
use mathlib.Core.Path.{◌≡◌, refl, ◌∙◌}
use mathlib.Core.Bool.{Bool, true, false}
use mathlib.Core.List.{List, [], ◌∷◌, ◌++◌}
use Prim.Native.Nat.{ℕ, zero, suc, ◌+◌, ◌-◌, ◌*◌, ◌/◌, ◌%◌, ◌^◌, ◌<◌}
use native.Mathlib.Nat.{pow-suc, div-lt_iff_lt-mul}
use native.Mathlib.Omega.{arith}
use lib.Dec.{ltb}
use Rattle.sets.specs.Lists.{pick}
use Rattle.telling.specs.Lines.{digit, digits, decimal}

-- what digits come to, after n was read
unfoldable pub read_from : ℕ → List ℕ → ℕ
read_from n [] = n
read_from n (b ∷ l) = read_from (n * 10 + (b - 48)) l

read-snoc : (n : ℕ) (l : List ℕ) (b : ℕ) → read_from n (l ++ (b ∷ [])) ≡ read_from n l * 10 + (b - 48)
unfolding read_from
read-snoc n [] b = refl
read-snoc n (x ∷ l) b = read-snoc (n * 10 + (x - 48)) l b

pub digits-read : (k n : ℕ) → n < 10 ^ k → read_from 0 (digits k n) ≡ n
unfolding read_from digits
digits-read zero n h = omega arith
digits-read (suc k) n h = go (ltb n 10) (digits-read k (n / 10) less)
  where
    less : n / 10 < 10 ^ k
    less = (div-lt_iff_lt-mul {k = 10} {x = n} {y = 10 ^ k} (omega arith)).1 (rw pow-suc at h)

    go : (b : Bool) → read_from 0 (digits k (n / 10)) ≡ n / 10 → read_from 0 (pick b (digit n ∷ []) (digits k (n / 10) ++ (digit (n % 10) ∷ []))) ≡ n
    go true e = omega arith
    go false e = read-snoc 0 (digits k (n / 10)) (digit (n % 10)) ∙ omega (arith, e)

-- Every number of the program has at most 64 bits.
pub decimal-read : (n : ℕ) → n < 2 ^ 64 → read_from 0 (decimal n) ≡ n
decimal-read n h = digits-read 20 n (omega arith)
