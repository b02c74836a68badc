-- The people with whom some pair is in the relation: all but those with whom none is, one pair after the other.
use mathlib.Core.Bool.{not}
use Rattle.sets.specs.Sets.{size}
use Rattle.sets.specs.Stored.{number}
use Rattle.boards.specs.Over.{Narrowed}
use Rattle.boards.proofs.Pairs.{pair_test}
use Rattle.boards.proofs.in_some_pair.Given as goal

abbrev pub invariant-loop-x : goal.invariant-loop-x
invariant-loop-x l = Narrowed (λ i u. not (pair_test l.board l.p l.s.0 l.rule i u)) (number l.initial.out) l.rule.group l.left l.out

abbrev pub decreases-loop-x : goal.decreases-loop-x
decreases-loop-x l = size 32 l.left
