-- What a file is judged by: 1 to 6 by its header and its length, then 7 to 11 by the case that it holds.
use Rattle.std.specs.Prelude.{List, ◌++◌, ℕ}
use Rattle.refusals.specs.Refusals.{Judged}
use Rattle.refusals.specs.Refusals.{Check, judged_by}
use Rattle.refusals.specs.CaseChecks.{entry_checks}
use Rattle.layout.specs.Layout.{case_of}
use Rattle.headers.specs.Checks.{head_checks}

-- 1 to 6, then 7 to 11
unfoldable pub file_checks : List ℕ → List Check
file_checks f = head_checks f ++ entry_checks (case_of f)

-- how a file is judged
unfoldable pub judged_file : List ℕ → Judged
judged_file f = judged_by (file_checks f)
