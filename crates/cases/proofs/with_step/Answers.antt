use Prim.Native.Nat.{◌^◌}
use mathlib.Core.Path.{ap, ◌∙◌}
use native.Mathlib.Omega.{arith}
use lib.Pow.{pow-lt}
use Rattle.sets.specs.Sets.{joined}
use Rattle.sets.proofs.Masks.{shl_one, alone-is, joined_is, with-is, with_none}
use Rattle.cases.proofs.with_step.Goals as goal

pub returns-then-at-lt8 : goal.returns-then-at-lt8
returns-then-at-lt8 c =
    let i = c.args.s.0 in
    rw (shl_one 8 i c.if-at-lt8.true)
    (joined_is 8 _ (2 ^ i) (omega arith) (pow-lt c.if-at-lt8.true) ∙ ap (joined 8 _) (alone-is 8 i c.if-at-lt8.true) ∙ with-is 8 _ i)

pub returns-else-at-lt8 : goal.returns-else-at-lt8
returns-else-at-lt8 c = with_none 8 _ _ (omega arith) c.if-at-lt8.false
