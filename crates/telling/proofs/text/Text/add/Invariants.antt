use mathlib.Core.Path.{◌≡◌}
use lib.ListN.{take}
use Rattle.telling.specs.Held.{put}
use Rattle.telling.proofs.text.Text.add.Given as goal

abbrev pub invariant-loop-b : goal.invariant-loop-b
invariant-loop-b l = l.self ≡ put l.fn.self (take l.b-index l.word)
