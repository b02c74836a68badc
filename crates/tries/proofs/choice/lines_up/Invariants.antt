-- A line for each step that is ready, one after the other, the same from every position that agrees at the steps looked at.
use Rattle.sets.specs.Sets.{has}
use Rattle.cases.specs.declared.Filled.{Filled}
use Rattle.boards.specs.Looked.{Agree}
use Rattle.lines.proofs.Filling.{Filling}
use Rattle.tries.specs.Choices.{line_on}
use Rattle.tries.proofs.choice.lines_up.Given as goal

abbrev pub invariant-loop-s : goal.invariant-loop-s
invariant-loop-s l = (q : Filled) → Agree l.looked l.p q → Filling (line_on l.board l.people q) (has l.ready) l.s l.lines
