-- The ways through `read` and `part_of`, over plain values: what each comes to.
use mathlib.Core.Path.{◌≡◌, sym, ap, ◌∙◌}
use mathlib.Core.List.{List}
use Prim.Native.Nat.{ℕ, ◌≤◌}
use native.Mathlib.Omega.{arith}
use lib.ListN.{length}
use Rattle.cases.specs.declared.Counts.{Counts}
use Rattle.cases.specs.declared.Case.{Case}
use Rattle.refusals.specs.declared.Refusal.{Refusal}
use Rattle.refusals.specs.Refusals.{Judged}
use Rattle.refusals.specs.Refusals.{Good, Refused}
use Rattle.refusals.specs.Refusals.{judged_by}
use Rattle.refusals.specs.Offsets.{total_of}
use Rattle.refusals.specs.CaseChecks.{judged_case}
use Rattle.layout.specs.declared.Part.{Part}
use Rattle.layout.specs.Layout.{counts_of, case_of, case_at, start_of, end_of}
use Rattle.headers.specs.Checks.{head_checks}
use Rattle.headers.proofs.Right.{header-right, header-long}
use Rattle.files.specs.declared.FileRead.{FileRead}
use Rattle.files.specs.Checks.{judged_file}
use Rattle.files.specs.Reading.{read_of, refused_read}
use Rattle.files.specs.Parts.{Slice, between, nothing_of, part_of}
use Rattle.files.proofs.Headers.{wrong-header, right-header, good-header}
use Rattle.files.proofs.Nothing.{read-refused, read-good, part-refused, part-good}

module _ (f : List ℕ) where
  -- a file with a right header has room for its parts
  pub room : {n : Counts} → judged_by (head_checks f) ≡ Good → n ≡ counts_of f → total_of n ≤ length f
  room {n} e p = let q : length f ≡ total_of n = header-long f (header-right f e) ∙ ap total_of (sym p) in omega arith

  refused-read : {j : Judged} {x : FileRead} (r : Refusal) → judged_file f ≡ Refused r → j ≡ Refused r → x ≡ refused_read j → x ≡ read_of f
  refused-read r e q w = w ∙ ap refused_read q ∙ sym (read-refused f r e)

  -- the header is refused
  pub read_head : {j : Judged} {x : FileRead} {r : Refusal} → j ≡ judged_by (head_checks f) → j ≡ Refused r → x ≡ refused_read j → x ≡ read_of f
  read_head {r = r} p q w = refused-read r (wrong-header f r (sym p ∙ q)) q w

  -- the header is right, and the case is judged
  module _ {h j : Judged} {n : Counts} {c : Case}
      (p : h ≡ judged_by (head_checks f)) (q : h ≡ Good) (k : n ≡ counts_of f) (e : c ≡ case_at f n) (g : j ≡ judged_case c) where
    held : c ≡ case_of f
    held = e ∙ ap (case_at f) k

    judged : judged_file f ≡ j
    judged = right-header f (sym p ∙ q) ∙ ap judged_case (sym held) ∙ sym g

    pub read-entries : {x : FileRead} {r : Refusal} → j ≡ Refused r → x ≡ refused_read j → x ≡ read_of f
    read-entries {r = r} z w = refused-read r (judged ∙ z) z w

    pub read_held : j ≡ Good → record { judged = j; held = c } ≡ read_of f
    read_held z = (λ i. record { judged = z i; held = held i }) ∙ sym (read-good f (judged ∙ z))

module _ (file : Slice) (part : Part) {j : Judged} {s : Slice} (p : j ≡ judged_file file.bytes) where
  pub part_none : {r : Refusal} → j ≡ Refused r → s ≡ nothing_of file → s ≡ part_of file part
  part_none {r} q w = w ∙ sym (part-refused file part r (sym p ∙ q))

  pub part-some : {n : Counts} → j ≡ Good → n ≡ counts_of file.bytes → s ≡ between file (start_of n part) (end_of n part) → s ≡ part_of file part
  part-some q k w = w ∙ ap (λ (n : Counts). between file (start_of n part) (end_of n part)) k ∙ sym (part-good file part (sym p ∙ q))

pub part_room : (f : List ℕ) {j : Judged} {n : Counts} → j ≡ judged_file f → j ≡ Good → n ≡ counts_of f → total_of n ≤ length f
part_room f p q k = room f (good-header f (sym p ∙ q)) k
