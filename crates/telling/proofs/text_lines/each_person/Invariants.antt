use mathlib.Core.Path.{◌≡◌}
use lib.ListN.{take}
use Rattle.cases.specs.Positions.{persons}
use Rattle.telling.specs.Held.{put}
use Rattle.telling.proofs.Lists.{numbers}
use Rattle.telling.proofs.text_lines.each_person.Given as goal

abbrev pub invariant-loop-i : goal.invariant-loop-i
invariant-loop-i l = l.text ≡ put l.initial.text (numbers (take l.i (persons l.p)))
