-- The test of a single rule: the one pair, or the case of its form.
use mathlib.Core.Path.{sym}
use native.Mathlib.Omega.{arith}
use Rattle.sets.specs.Stored.{number}
use Rattle.boards.proofs.Over.{one-member}
use Rattle.boards.proofs.Pairs.{kept-one}
use Rattle.boards.proofs.kept_by.Goals as goal

pub returns-in-Some : goal.returns-in-Some
unfolding number
returns-in-Some c =
    kept-one _ _ _ _ _ _ (omega arith) (one-member _ _ _ (sym c.in-Some.ensures) c.without.ensures (omega arith)) c.pair.ensures (omega arith)
