-- The two round trips and the refused write, by what the calls answer and leave: `write` answers `write_answer` and leaves `written`, `judge` answers
-- `judged_file`, and `read` answers `read_of`.
use Rattle.std.specs.Prelude.{◌≡◌, List, ◌++◌, ℕ, length, take, drop}
use Rattle.cases.specs.declared.Case.{Case}
use Rattle.cases.specs.Case.{zeroed}
use Rattle.refusals.specs.declared.Refusal.{Refusal}
use Rattle.refusals.specs.Refusals.{Good}
use Rattle.refusals.specs.Offsets.{total_of}
use Rattle.files.specs.Checks.{judged_file}
use Rattle.files.specs.Reading.{read_of}
use Rattle.writing.specs.Writing.{write_answer, written, told}

-- the bytes that writing a case into a buffer leaves at its front
abbrev pub front_of : List ℕ → Case → List ℕ
front_of buffer c = take (total_of c.counts) (written buffer c)

-- A case is written, and the bytes are read back: the file is good, the case comes back with zero above its counts, and what stood past the file
-- still stands there.
pub record WrittenThenRead (buffer : List ℕ) (c : Case) : Type 0 where
  pub answer : told (write_answer (length buffer) c) ≡ record { number = 0; place = 0; bytes = total_of c.counts }
  pub file : judged_file (front_of buffer c) ≡ Good
  pub back : read_of (front_of buffer c) ≡ record { judged = Good; held = zeroed c }
  pub past : drop (total_of c.counts) (written buffer c) ≡ drop (total_of c.counts) buffer

-- A file is read, and its case is written: the same bytes stand in the buffer, and past them what stood there.
pub record ReadThenWritten (buffer f : List ℕ) : Type 0 where
  pub answer : told (write_answer (length buffer) (read_of f).held) ≡ record { number = 0; place = 0; bytes = length f }
  pub same : written buffer (read_of f).held ≡ f ++ drop (length f) buffer

-- A refused write alters no byte, and tells nothing but number and place.
pub record LeftAlone (buffer : List ℕ) (c : Case) (r : Refusal) : Type 0 where
  pub same : written buffer c ≡ buffer
  pub only : told (write_answer (length buffer) c) ≡ record { number = r.number; place = r.place; bytes = 0 }
