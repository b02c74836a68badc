use Rattle.std.proofs.Common.{sym, arith}
use native.Mathlib.Nat.{lt_of_lt_of_le}
use lib.Pow.{pow_mono}
use Rattle.leaps.proofs.Bounds.{free-nobody, free-at}
use Rattle.leaps.proofs.free_below.Goals as goal

pub returns-in-None : goal.returns-in-None
returns-in-None c = free-nobody _ _ (lt_of_lt_of_le c.requires.1 (pow_mono c.requires.0)) (sym c.in-None.ensures)

pub returns-in-Some : goal.returns-in-Some
returns-in-Some c = free-at _ _ _ _ c.requires.1 (sym c.in-Some.ensures) (omega (arith, c.saturating_sub.ensures))
