use Rattle.layout.specs.Layout.{case_at}
use Rattle.entries.proofs.case_at.Goals as goal

pub returns : goal.returns
unfolding case_at
returns c =
    simp (
      c.read_entries-4.ensures,
      c.read_entries-3.ensures,
      c.read_entries-2.ensures,
      c.read_entries.ensures,
      c.empty-case.ensures,
      c.total.ensures,
      c.rules_at-2.ensures.0,
      c.rules_at.ensures.0,
      c.tables_at-2.ensures.0,
      c.tables_at.ensures.0,
      c.steps_at-2.ensures.0,
      c.steps_at.ensures.0,
    )
