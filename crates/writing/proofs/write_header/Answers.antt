-- The twelve numbers are the header's.
use Rattle.std.proofs.Common.{◌∙◌}
use Rattle.words.specs.Part.{run}
use Rattle.writing.proofs.write_header.Goals as goal

pub returns : goal.returns
unfolding run
returns c =
    c.write_entries.ensures
    ∙ simp (
      c.total.ensures,
      c.rules_at.ensures.0,
      c.tables_at.ensures.0,
      c.steps_at.ensures.0,
    )
