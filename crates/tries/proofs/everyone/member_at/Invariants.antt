use mathlib.Core.Path.{◌≡◌}
use Rattle.sets.specs.Stored.{number}
use Rattle.tries.specs.Alike.{member_at}
use Rattle.tries.proofs.everyone.member_at.Given as goal

abbrev pub invariant-loop-v : goal.invariant-loop-v
invariant-loop-v l = member_at (number l.initial.rest) l.k ≡ member_at (number l.rest) l.before

abbrev pub decreases-loop-v : goal.decreases-loop-v
decreases-loop-v l = l.before
