use mathlib.Core.Path.{ap, ◌∙◌}
use mathlib.Core.Option.{some}
use Prim.Native.Nat.{◌+◌, ◌^◌}
use native.Mathlib.Omega.{arith}
use lib.Pow.{pow_mono}
use Rattle.sets.specs.Stored.{width, number, next_number}
use Rattle.sets.proofs.Lists.{only_if-le, only_if-gt}
use Rattle.sets.proofs.Masks.{shl_one, joined_is}
use Rattle.sets.proofs.People.counted_up.Goals as goal

pub returns-then-v-ge-WIDTH : goal.returns-then-v-ge-WIDTH
unfolding next_number number
returns-then-v-ge-WIDTH c =
    let a = c.args in
    only_if-gt (number a.self + 2 ^ a.v) (number a.last) _ (omega (arith, pow_mono {i = width} c.if-v-ge-WIDTH.true))

pub returns-then-to-from : goal.returns-then-to-from
unfolding next_number number
returns-then-to-from c =
    let a = c.args in
    only_if-gt (number a.self + 2 ^ a.v) (number a.last) _ (omega arith)

pub returns-then-to-from-2 : goal.returns-then-to-from-2
unfolding next_number number
returns-then-to-from-2 c =
    let a = c.args in
    only_if-gt (number a.self + 2 ^ a.v) (number a.last) _ (omega (arith, shl_one width a.v c.if-v-ge-WIDTH.false))

pub returns : goal.returns
unfolding next_number number
returns c =
    let a = c.args in
    let step = shl_one width a.v (omega arith) in
    rw step (ap some (joined_is width _ _ (omega arith) (omega arith)) ∙ only_if-le (number a.self + 2 ^ a.v) (number a.last) _ (omega arith))
