-- Numbers, words and lines, as lists of bytes.
use Rattle.std.specs.Prelude.{List, [], ◌∷◌, ◌++◌, ℕ, zero, suc, ◌+◌, ◌/◌, ◌%◌, ltb}
use Prim.Native.Char.{code}
use Prim.Native.String.{String, [] as end, ◌∷◌ as ◌then◌}
use Rattle.sets.specs.Lists.{pick}

-- the bytes of a quoted word
abbrev pub bytes : String → List ℕ
bytes end = []
bytes (c then s) = code c ∷ bytes s

-- the byte of a digit
abbrev pub digit : ℕ → ℕ
digit d = 48 + d

-- a number below 10 ^ k in decimal, without leading zeros
unfoldable pub digits : ℕ → ℕ → List ℕ
digits zero n = []
digits (suc k) n = pick (ltb n 10) (digit n ∷ []) (digits k (n / 10) ++ (digit (n % 10) ∷ []))

-- A number has at most 64 bits, so twenty digits are enough.
abbrev pub decimal : ℕ → List ℕ
decimal n = digits 20 n

-- words, with one space before each
unfoldable pub spaced : List (List ℕ) → List ℕ
spaced [] = []
spaced (w ∷ ws) = 32 ∷ (w ++ spaced ws)

-- a line: its first word, its other words with one space before each, and one newline
unfoldable pub line : List ℕ → List (List ℕ) → List ℕ
line w ws = w ++ (spaced ws ++ (10 ∷ []))
