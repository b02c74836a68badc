-- The two round trips.
use Prim.Native.Nat.{ℕ, ◌*◌, ◌≤◌}
use mathlib.Core.Path.{◌≡◌, refl, sym, ◌∙◌, ap, subst}
use mathlib.Core.List.{List, ◌++◌}
use lib.ListN.{length, take, drop}
use lib.Seq.{take_at, drop_at}
use Rattle.sets.specs.Lists.{from, upto}
use Rattle.cases.specs.declared.Case.{Case}
use Rattle.refusals.specs.Refusals.{Good}
use Rattle.refusals.specs.Offsets.{total_of}
use Rattle.refusals.specs.CaseChecks.{judged_case}
use Rattle.refusals.proofs.Cases.{limited}
use Rattle.words.specs.Word.{AllBytes, word}
use Rattle.words.specs.Part.{table}
use Rattle.layout.specs.Layout.{head_words, counts_of, case_of, case_at, file_of}
use Rattle.layout.proofs.Lengths.{file-long}
use Rattle.headers.proofs.Right.{RightHeader, header-right, header-long}
use Rattle.files.specs.declared.FileRead.{FileRead}
use Rattle.files.specs.Checks.{judged_file}
use Rattle.files.specs.Reading.{read_of}
use Rattle.files.proofs.Headers.{good-header}
use Rattle.files.proofs.Nothing.{read-good}
use Rattle.writing.specs.Writing.{Bytes}
use Rattle.writing.specs.Writing.{write_answer, written, told}
use Rattle.writing.proofs.Judged.{good-write, good-leaves}
use Rattle.trips.specs.Trips.{front_of, WrittenThenRead, ReadThenWritten}
use Rattle.trips.proofs.Back.{case-back}
use Rattle.trips.proofs.Again.{file-again}
use Rattle.files.proofs.Nothing.{held-good}
use Rattle.trips.proofs.Good.{file-good}

-- what a good write into a buffer that is long enough answers and leaves
written-good : (buffer : List ℕ) (c : Case) → judged_case c ≡ Good → total_of c.counts ≤ length buffer
    → (Bytes (total_of c.counts) ≡ write_answer (length buffer) c) × (file_of c ++ drop (total_of c.counts) buffer ≡ written buffer c)
written-good buffer c e room = good-leaves buffer c (good-write (length buffer) c e room)

-- A good case, written into any buffer that is long enough and read back.
pub write-then-read : (buffer : List ℕ) (c : Case) → judged_case c ≡ Good → total_of c.counts ≤ length buffer → WrittenThenRead buffer c
unfolding told
write-then-read buffer c e room =
    let w = written-good buffer c e room in
    let n = total_of c.counts in
    let rest = drop n buffer in
    let front : front_of buffer c ≡ file_of c = ap (take n) (sym w.1) ∙ take_at (file_of c) rest n (file-long c) in
    let good = file-good c e in
    record {
      answer = ap told (sym w.0);
      file = ap judged_file front ∙ good;
      back =
          ap read_of front
          ∙ read-good (file_of c) good
          ∙ ap (λ (held : Case). record { judged = Good; held = held }) (case-back c);
      past = ap (drop n) (sym w.1) ∙ drop_at (file_of c) rest n (file-long c);
    }

-- the twelve numbers of a right header are those that its counts give
header-words : (f : List ℕ) → RightHeader f → head_words (counts_of f) ≡ table (λ i. word f (2 * i)) 12
unfolding upto from
header-words f h =
    let p = h.placed in
    rw (h.edition, h.last, p.people, p.steps, p.tables, p.rules, p.total) refl

-- A good file, read and written into any buffer that is long enough.
pub read-then-write : (buffer f : List ℕ) → AllBytes f → judged_file f ≡ Good → length f ≤ length buffer → ReadThenWritten buffer f
unfolding case_at told
read-then-write buffer f small e room =
    let h = header-right f (good-header f e) in
    let long = header-long f h in
    let held : (read_of f).held ≡ case_of f = ap (λ (r : FileRead). r.held) (read-good f e) in
    let w = written-good buffer (case_of f) (held-good f e) (subst (λ k. k ≤ length buffer) long room) in
    record {
      answer = ap told (ap (write_answer (length buffer)) held ∙ sym w.0 ∙ ap Bytes (sym long));
      same =
          ap (written buffer) held
          ∙ sym w.1
          ∙ ap (λ l. l ++ drop (total_of (counts_of f)) buffer) (file-again f small (limited (counts_of f) h.limits) long (header-words f h))
          ∙ ap (λ k. f ++ drop k buffer) (sym long);
    }
