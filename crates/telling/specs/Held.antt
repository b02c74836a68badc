-- The record that holds a text: its bytes in front, zero behind them, and how many there are.
use Rattle.std.specs.Prelude.{List, [], ◌∷◌, ◌++◌, ℕ, ◌+◌, ◌-◌, ltb, length, set, replicate}
use Rattle.sets.specs.Lists.{pick}
use Rattle.telling.specs.declared.text.Text.{Text}

-- How many bytes a text has room for. No text of the program is longer: the longest by form has counts at their limits (18 bytes), t 32 and
-- limit 4294967295 (27), a plan of eight persons with two digits each (51), and four verdicts that each show all 32 people (114, 119, 116,
-- 115), all of them after 4294967295 trials.
abbrev pub room : ℕ
room = 560

-- the record of a text
unfoldable pub held : List ℕ → Text
held l = record { bytes = l ++ replicate (room - length l) 0; len = length l }

-- the record with one byte more, where there is room
unfoldable pub put_byte : Text → ℕ → Text
put_byte t b = pick (ltb t.len room) (record { bytes = set t.bytes t.len b; len = t.len + 1 }) t

-- the record with more bytes
unfoldable pub put : Text → List ℕ → Text
put t [] = t
put t (b ∷ w) = put (put_byte t b) w
