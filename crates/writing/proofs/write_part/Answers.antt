-- `write_part`: each part's stretch comes back as the bytes of its entries.
use Rattle.std.proofs.Common.{◌∙◌, arith}
use Rattle.sets.specs.Stored.{no_people}
use Rattle.cases.specs.Case.{zero_step, zero_rule}
use Rattle.layout.specs.Layout.{bytes_of_person, bytes_of_step, bytes_of_row, bytes_of_rule}
use Rattle.writing.proofs.Laws.{run-front}
use Rattle.writing.proofs.write_part.Goals as goal

pub returns-in-People : goal.returns-in-People
returns-in-People c =
    rw c.in-People.is (c.write_entries.ensures ∙ run-front bytes_of_person c.args.case.now.people 0 _ (omega arith))

pub returns-in-Steps : goal.returns-in-Steps
returns-in-Steps c =
    rw c.in-Steps.is (c.write_entries-in-Steps.ensures ∙ run-front bytes_of_step c.args.case.now.steps zero_step _ (omega arith))

pub returns-in-Tables : goal.returns-in-Tables
returns-in-Tables c =
    rw (c.in-Tables.is, ← c.rows.ensures.0)
    (c.write_entries-in-Tables.ensures ∙ run-front bytes_of_row c.args.case.now.rows no_people _ (omega arith))

pub returns-in-Rules : goal.returns-in-Rules
returns-in-Rules c =
    rw c.in-Rules.is (c.write_entries-in-Rules.ensures ∙ run-front bytes_of_rule c.args.case.now.rules zero_rule _ (omega arith))
