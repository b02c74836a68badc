use Prim.Native.Nat.{◌^◌}
use mathlib.Core.Path.{ap, ◌∙◌}
use native.Mathlib.Omega.{arith}
use lib.Pow.{pow-lt}
use Rattle.sets.specs.Sets.{joined}
use Rattle.sets.proofs.Masks.{shl_one, alone-is, joined_is, with-is, with_none}
use Rattle.sets.proofs.small.with.Goals as goal

pub returns-then-i-lt32 : goal.returns-then-i-lt32
returns-then-i-lt32 c =
    let i = c.args.i in
    rw (shl_one 32 i c.if-i-lt32.true)
    (joined_is 32 _ (2 ^ i) (omega arith) (pow-lt c.if-i-lt32.true) ∙ ap (joined 32 _) (alone-is 32 i c.if-i-lt32.true) ∙ with-is 32 _ i)

pub returns-else-i-lt32 : goal.returns-else-i-lt32
returns-else-i-lt32 c = with_none 32 _ _ (omega arith) c.if-i-lt32.false
