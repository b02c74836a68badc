-- The parts that a file hands out, as the caller's own bytes.
use Rattle.std.specs.Prelude.{List, [], ℕ, ◌+◌}
use Rattle.std.specs.Borrow.{Bor}
use Rattle.words.specs.Part.{stretch}
use Rattle.layout.specs.declared.Part.{Part}
use Rattle.layout.specs.Layout.{counts_of, start_of, end_of}
use Rattle.files.specs.Checks.{judged_file}
use Rattle.files.specs.Reading.{if_good}

-- What is known of a slice of bytes: where in memory its first byte stands, as a block and a place in the block, and its bytes.
pub record Slice : Type 0 where
  pub block : ℕ
  pub place : ℕ
  pub bytes : List ℕ

abbrev pub seen : Bor (List ℕ) → Slice
seen s = record { block = s.ref_ptr.0; place = s.ref_ptr.1; bytes = s.now }

-- the same bytes of memory, from byte a to byte b of the slice
abbrev pub between : Slice → ℕ → ℕ → Slice
between s a b = record { block = s.block; place = s.place + a; bytes = stretch s.bytes a b }

-- none of them
abbrev pub nothing_of : Slice → Slice
nothing_of s = record { block = s.block; place = s.place; bytes = [] }

-- a part of a good file: the caller's own bytes; of a refused file nothing
unfoldable pub part_of : Slice → Part → Slice
part_of file part =
    if_good (judged_file file.bytes)
    (between file (start_of (counts_of file.bytes) part) (end_of (counts_of file.bytes) part))
    (nothing_of file)
