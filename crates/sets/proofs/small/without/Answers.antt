use Prim.Native.Nat.{◌^◌}
use mathlib.Core.Path.{ap, ◌∙◌}
use native.Mathlib.Omega.{arith}
use lib.Pow.{pow-lt}
use Rattle.sets.specs.Sets.{difference}
use Rattle.sets.proofs.Masks.{shl_one, alone-is, difference-is, without_is, without-none}
use Rattle.sets.proofs.small.without.Goals as goal

pub returns-then-i-lt32 : goal.returns-then-i-lt32
returns-then-i-lt32 c =
    let i = c.args.i in
    rw (shl_one 32 i c.if-i-lt32.true)
    (difference-is 32 _ (2 ^ i) (omega arith) (pow-lt c.if-i-lt32.true) ∙ ap (difference 32 _) (alone-is 32 i c.if-i-lt32.true) ∙ without_is 32 _ i)

pub returns-else-i-lt32 : goal.returns-else-i-lt32
returns-else-i-lt32 c = without-none 32 _ _ (omega arith) c.if-i-lt32.false
