-- Of some people those with whom every rule is kept that is due: one rule after the other, and the steps of those that were asked.
use Rattle.sets.specs.Sets.{size}
use Rattle.sets.specs.Stored.{number}
use Rattle.cases.specs.declared.Filled.{Filled}
use Rattle.boards.specs.Looked.{Agree}
use Rattle.boards.specs.Over.{Narrowed}
use Rattle.boards.proofs.Pairs.{due_test}
use Rattle.boards.proofs.narrowed.Given as goal

abbrev pub invariant-loop-i : goal.invariant-loop-i
invariant-loop-i l =
    (q : Filled) → Agree l.looked l.p q → Narrowed (due_test l.board q l.s.0) (number l.initial.kept) l.due l.left l.kept

abbrev pub decreases-loop-i : goal.decreases-loop-i
decreases-loop-i l = size 32 l.left
