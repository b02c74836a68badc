-- The test of a single rule, one case for each form. No answer names the call: the check finds what it gave.
use native.Mathlib.Omega.{arith}
use Rattle.boards.proofs.Pairs.{kept-some, kept-every}
use Rattle.boards.proofs.keepers.Goals as goal

pub returns-in-1 : goal.returns-in-1
returns-in-1 c = grind (arith, kept-every, c.in-1.is)

pub returns-in-2 : goal.returns-in-2
returns-in-2 c = grind (arith, kept-some, c.in-2.is)

pub returns-in_default : goal.returns-in_default
returns-in_default c = grind (arith, kept-every)
