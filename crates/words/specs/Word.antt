-- Little-endian numbers of a list of bytes. Past the end every byte is 0.
use Rattle.std.specs.Prelude.{ℕ, ◌+◌, ◌*◌, ◌/◌, ◌%◌, ◌<◌, List, [], ◌∷◌, get_or}

-- byte i
abbrev pub byte : List ℕ → ℕ → ℕ
byte s i = get_or s i 0

-- each is a byte, as in every lent slice of bytes
abbrev pub AllBytes : List ℕ → Type 0
AllBytes s = (i : ℕ) → byte s i < 256

-- the 16-bit number at place i
abbrev pub word : List ℕ → ℕ → ℕ
word s i = byte s i + byte s (i + 1) * 256

-- the 32-bit number at place i
abbrev pub long : List ℕ → ℕ → ℕ
long s i = byte s i + byte s (i + 1) * 256 + byte s (i + 2) * 65536 + byte s (i + 3) * 16777216

-- the bytes of a 16-bit number, and of a 32-bit number
abbrev pub le2 : ℕ → List ℕ
le2 v = v % 256 ∷ v / 256 ∷ []

abbrev pub le4 : ℕ → List ℕ
le4 v = v % 256 ∷ v / 256 % 256 ∷ v / 65536 % 256 ∷ v / 16777216 ∷ []
