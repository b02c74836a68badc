use native.Mathlib.Omega.{arith}
use mathlib.Core.Path.{ap, ◌∙◌}
use Rattle.sets.specs.Stored.{number}
use Rattle.sets.proofs.Records.{number-none}
use Rattle.pieces.proofs.Columns.{loops-same, loops-different, loops-table}
use Rattle.pieces.proofs.loops.Goals as goal

pub returns-in-0 : goal.returns-in-0
returns-in-0 c = loops-same _ _ _ _ c.in-0.is c.everybody.ensures

pub returns-in-1 : goal.returns-in-1
returns-in-1 c = loops-different _ _ _ _ c.in-1.is (ap number c.none.ensures ∙ number-none)

pub returns-in_default : goal.returns-in_default
returns-in_default c = grind (arith, loops-table)
