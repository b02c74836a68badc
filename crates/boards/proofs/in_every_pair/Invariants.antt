-- The people with whom every pair is in the relation: one pair after the other.
use Rattle.sets.specs.Sets.{size}
use Rattle.sets.specs.Stored.{number}
use Rattle.boards.specs.Over.{Narrowed}
use Rattle.boards.proofs.Pairs.{pair_test}
use Rattle.boards.proofs.in_every_pair.Given as goal

abbrev pub invariant-loop-x : goal.invariant-loop-x
invariant-loop-x l = Narrowed (pair_test l.board l.p l.s.0 l.rule) (number l.initial.every) l.rule.group l.left l.every

abbrev pub decreases-loop-x : goal.decreases-loop-x
decreases-loop-x l = size 32 l.left
