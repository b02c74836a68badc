-- Writing a case as a file: what it is refused for, what it answers, and what the lent buffer holds afterwards.
use Rattle.std.specs.Prelude.{List, [], ◌∷◌, ◌++◌, ℕ, ◌<◌, ltb, length, drop, Result, Ok, Err}
use Rattle.cases.specs.declared.Counts.{Counts}
use Rattle.cases.specs.declared.Case.{Case}
use Rattle.refusals.specs.declared.Refusal.{Refusal}
use Rattle.refusals.specs.Refusals.{Judged, Good, Check, judged_by, only_check}
use Rattle.refusals.specs.Offsets.{total_of}
use Rattle.refusals.specs.CaseChecks.{case_checks}
use Rattle.refusals.specs.Table.{Row, whole, case_table}
use Rattle.words.specs.Part.{splice}
use Rattle.layout.specs.declared.Part.{Part}
use Rattle.layout.specs.declared.Part.TheVariants as parts
use Rattle.layout.specs.Layout.{file_of, start_of, end_of, people_bytes, steps_bytes, tables_bytes, rules_bytes}

-- ---- What a write is judged by

-- 15: the buffer to write into, of n bytes, is too short
unfoldable pub room_check : Counts → ℕ → Check
room_check counts n = only_check 15 (ltb n (total_of counts))

-- The writer can meet 4, 7 to 11 and 15.
unfoldable pub write_checks : Case → ℕ → List Check
write_checks c n = case_checks c ++ (room_check c.counts n ∷ [])

-- how writing a case into a buffer of n bytes is judged
unfoldable pub judged_write : ℕ → Case → Judged
judged_write n c = judged_by (write_checks c n)

-- ---- What it answers, and what it leaves

-- What a write answers: how many bytes of the buffer it wrote, or why it wrote none.
abbrev pub Written : Type 0
Written = Result ℕ Refusal

abbrev pub Bytes : ℕ → Written
Bytes n = Ok n

abbrev pub Refused : Refusal → Written
Refused r = Err r

-- the answer: how many bytes it wrote, or the refusal
abbrev pub answer_of : Case → Judged → Written
answer_of c (Ok nothing) = Bytes (total_of c.counts)
answer_of c (Err r) = Refused r

unfoldable pub write_answer : ℕ → Case → Written
write_answer n c = answer_of c (judged_write n c)

-- what the buffer holds afterwards: the file, and past it what stood there; where the write is refused, what stood there
abbrev pub held_after : List ℕ → Case → Judged → List ℕ
held_after buffer c (Ok nothing) = file_of c ++ drop (total_of c.counts) buffer
held_after buffer c (Err r) = buffer

unfoldable pub written : List ℕ → Case → List ℕ
written buffer c = held_after buffer c (judged_write (length buffer) c)

-- the bytes of each part
abbrev pub part_bytes : Case → Part → List ℕ
part_bytes c parts.People = people_bytes c
part_bytes c parts.Steps = steps_bytes c
part_bytes c parts.Tables = tables_bytes c
part_bytes c parts.Rules = rules_bytes c

-- the buffer with a part's bytes in that part's own stretch
abbrev pub with_part : List ℕ → Case → Part → List ℕ
with_part buffer c part = splice buffer (start_of c.counts part) (end_of c.counts part) (part_bytes c part)

-- ---- The answer in the scope's numbers

-- A number of 0 is no refusal. Every refusal gives number and place, all other fields 0.
pub record Told : Type 0 where
  pub number : ℕ
  pub place : ℕ
  pub bytes : ℕ

unfoldable pub told : Written → Told
told (Ok n) = record { number = 0; place = 0; bytes = n }
told (Err r) = record { number = r.number; place = r.place; bytes = 0 }

-- the judgement that an answer gives
unfoldable pub judged_in : Written → Judged
judged_in (Ok n) = Good
judged_in (Err r) = Err r

-- ---- The scope's table of what the writer can meet: 4, 7 to 11, then 15, for a buffer of n bytes

abbrev pub write_table : Case → ℕ → List Row
write_table c n = case_table c ++ (whole 15 (n < total_of c.counts) ∷ [])
