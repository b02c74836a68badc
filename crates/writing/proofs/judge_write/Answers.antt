-- `judge_write` judges the case, then the room.
use native.Mathlib.Omega.{arith}
use Rattle.writing.proofs.Judged.{case-then-room}
use Rattle.writing.proofs.judge_write.Goals as goal

pub returns : goal.returns
returns c =
    grind (arith, case-then-room)
