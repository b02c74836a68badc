-- The campfire's file holds the campfire of the table of worked examples (cases/proofs/Worked.antt).
use mathlib.Core.Path.{◌≡◌, refl}
use Rattle.sets.specs.Lists.{from, upto, keep, any}
use Rattle.sets.specs.Sets.{has, count, size, members, past}
use Rattle.sets.specs.Stored.{number}
use Rattle.cases.specs.Case.{entry, roles_held, roles_for}
use Rattle.cases.proofs.Worked.{campfire}
use Rattle.refusals.specs.Refusals.{Good}
use Rattle.refusals.specs.Refusals.{judged_by, found_first}
use Rattle.refusals.specs.CaseChecks.{too_many, right_size, bad_rule, step_entry, row_entry, rule_entry, bad_person, bad_roles, bad_order, bad_row, entry_checks}
use Rattle.words.specs.Part.{run}
use Rattle.layout.specs.Layout.{case_at, file_of}
use Rattle.headers.specs.Checks.{misplaced, head_checks}
use Rattle.files.specs.Checks.{file_checks, judged_file}
use Rattle.files.specs.Reading.{read_of}
use Rattle.trips.specs.Campfire.{campfire_file}

-- The case that is read from the 42 bytes is the campfire of the table.
pub campfire-read : read_of campfire_file ≡ record { judged = Good; held = campfire }
unfolding
    campfire_file read_of case_at judged_file file_checks head_checks misplaced judged_by found_first
    too_many entry_checks bad_person bad_roles bad_order bad_row bad_rule right_size step_entry row_entry rule_entry
    from upto keep any has count size members past number entry roles_held roles_for
campfire-read = refl

-- The file of that case is the 42 bytes.
pub campfire-file : file_of campfire ≡ campfire_file
unfolding campfire_file file_of run number
campfire-file = refl
