-- What reading a file gives.
use Rattle.std.specs.Prelude.{List, ℕ, Ok, Err}
use Rattle.cases.specs.Case.{empty_case}
use Rattle.refusals.specs.Refusals.{Judged}
use Rattle.layout.specs.Layout.{case_of}
use Rattle.files.specs.declared.FileRead.{FileRead}
use Rattle.files.specs.Checks.{judged_file}

-- the first where nothing is refused, else the second
abbrev pub if_good : {A : Type 0} → Judged → A → A → A
if_good (Ok nothing) a b = a
if_good (Err r) a b = b

-- The case that a good file holds; a refused file gives its refusal, and the empty case.
unfoldable pub read_of : List ℕ → FileRead
read_of f = record { judged = judged_file f; held = if_good (judged_file f) (case_of f) empty_case }

-- a refusal, with the empty case
abbrev pub refused_read : Judged → FileRead
refused_read judged = record { judged = judged; held = empty_case }
