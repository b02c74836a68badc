use Prim.Native.Nat.{ℕ, ◌-◌}
use native.Mathlib.Omega.{arith}
use lib.Pow.{pow_pos}
use Rattle.sets.proofs.Masks.{shl_one}
use mathlib.Core.Path.{sym, ap, ◌∙◌}
use Rattle.pieces.specs.Pieces.{preceding_in}
use Rattle.pieces.proofs.Preceding.{before-listed}
use Rattle.pieces.proofs.before.Goals as goal

pub overflow_sub-result : goal.overflow_sub-result
overflow_sub-result c = let s = c.args.s in omega (arith, shl_one 8 s (omega arith), pow_pos s)

pub returns-in-Listed : goal.returns-in-Listed
returns-in-Listed c =
    let a = c.args in
    ap (λ (x : ℕ). x - 1) (shl_one 8 a.s (omega arith)) ∙ before-listed a.step a.s (omega arith)
    ∙ ap (λ o. preceding_in a.step o a.s) (sym c.in-Listed.is)
