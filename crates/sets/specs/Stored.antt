-- The record that stores a set of people. Only this file and src/ know how.
use Rattle.std.proofs.Math.Option as math
use Rattle.std.specs.Prelude.{List, Option, None, Some, ℕ, ◌+◌, ◌*◌, ◌/◌, ◌%◌, ◌^◌, get_or}
use Rattle.sets.specs.declared.People.{People}

-- how many people a record has room for
abbrev pub width : ℕ
width = 32

-- the set that a record stores
unfoldable pub number : People → ℕ
number s = s.bits

-- the record of a set
abbrev pub stored : ℕ → People
stored s = record { bits = s }

-- the record of nobody
abbrev pub no_people : People
no_people = stored 0

-- the set at place i of words that store one set each, nobody past its end
unfoldable pub set_at : List ℕ → ℕ → ℕ
set_at words i = get_or words i 0

-- what `next` answers
unfoldable pub next_number : Option People → math.Option ℕ
next_number (Some s) = math.some (number s)
next_number None = math.none

-- what `lowest` answers
abbrev pub lowest_number : Option ℕ → math.Option ℕ
lowest_number (Some v) = math.some v
lowest_number None = math.none

-- ---- A set as two words of 64 bits, the low one first

abbrev pub low_word : ℕ → ℕ
low_word s = s % 2 ^ 64

abbrev pub high_word : ℕ → ℕ
high_word s = s / 2 ^ 64

-- the set that two words write
abbrev pub from_words : ℕ → ℕ → ℕ
from_words low high = high * 2 ^ 64 + low

-- what `from_words` answers: nothing where some member is past the width
abbrev pub wide_number : Option People → math.Option ℕ
wide_number (Some s) = math.some (number s)
wide_number None = math.none
