-- A refused file gives the empty case and empty parts, and nothing else; a good one its case, with zero above its counts, and its own bytes.
use mathlib.Core.Path.{◌≡◌, refl, sym, ap, ◌∙◌}
use mathlib.Core.List.{List}
use Prim.Native.Nat.{ℕ}
use Rattle.cases.specs.Case.{empty_case, zeroed}
use Rattle.refusals.specs.declared.Refusal.{Refusal}
use Rattle.refusals.specs.Refusals.{Judged}
use Rattle.refusals.specs.Refusals.{Good, Refused}
use Rattle.refusals.specs.CaseChecks.{judged_case}
use Rattle.layout.specs.declared.Part.{Part}
use Rattle.layout.specs.Layout.{counts_of, case_of, start_of, end_of}
use Rattle.layout.proofs.Above.{held-zeroed}
use Rattle.files.specs.declared.FileRead.{FileRead}
use Rattle.files.specs.Checks.{judged_file}
use Rattle.files.specs.Reading.{if_good, read_of, refused_read}
use Rattle.files.specs.Parts.{Slice, between, nothing_of, part_of}
use Rattle.files.proofs.Headers.{right-header, good-header}

module _ (f : List ℕ) where
  -- A refused file gives its refusal and the empty case.
  pub read-refused : (r : Refusal) → judged_file f ≡ Refused r → read_of f ≡ refused_read (Refused r)
  unfolding read_of
  read-refused r e = ap (λ (j : Judged). record { judged = j; held = if_good j (case_of f) empty_case }) e

  -- A good file gives the case that it holds,
  pub read-good : judged_file f ≡ Good → read_of f ≡ record { judged = Good; held = case_of f }
  unfolding read_of
  read-good e = ap (λ (j : Judged). record { judged = j; held = if_good j (case_of f) empty_case }) e

  -- which is good,
  pub held-good : judged_file f ≡ Good → judged_case (case_of f) ≡ Good
  held-good e = sym (right-header f (good-header f e)) ∙ e

  pub read-case-good : judged_file f ≡ Good → judged_case (read_of f).held ≡ Good
  read-case-good e = ap (λ (r : FileRead). judged_case r.held) (read-good e) ∙ held-good e

  -- with zero above its counts.
  pub read-zeroed : judged_file f ≡ Good → zeroed (read_of f).held ≡ (read_of f).held
  read-zeroed e =
      let h : (read_of f).held ≡ case_of f = ap (λ (r : FileRead). r.held) (read-good e) in
      ap zeroed h ∙ held-zeroed f (counts_of f) ∙ sym h

module _ (file : Slice) (part : Part) where
  -- A refused file gives an empty part.
  pub part-refused : (r : Refusal) → judged_file file.bytes ≡ Refused r → part_of file part ≡ nothing_of file
  unfolding part_of
  part-refused r e = rw e refl

  -- A good file gives the part's own stretch of the caller's bytes.
  pub part-good : judged_file file.bytes ≡ Good
      → part_of file part ≡ between file (start_of (counts_of file.bytes) part) (end_of (counts_of file.bytes) part)
  unfolding part_of
  part-good e = rw e refl
