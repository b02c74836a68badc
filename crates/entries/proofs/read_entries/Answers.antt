use Rattle.std.proofs.Common.{◌∙◌, arith}
use Rattle.std.proofs.lemmas.List.{set-get_or}
use Rattle.std.proofs.Math.Nat.{mul-le-mul_left}
use Rattle.words.proofs.Parts.{begin-end}
use Rattle.entries.proofs.read_entries.Goals as goal

pub returns-after-loop-i : goal.returns-after-loop-i
returns-after-loop-i g c = begin-end _ _ _ c.loop-i.invariant (λ j h k. absurd (omega arith))

pub returns-then-part-BYTES : goal.returns-then-part-BYTES
returns-then-part-BYTES g c =
    set-get_or _ _ _
    ∙ begin-end _ _ _ c.loop-i.invariant (λ j h k. g.met.E.Entry.past _ j (omega (arith, mul-le-mul_left g.E.Entry.BYTES h, rw c.BYTES.ensures at c.if-part-BYTES.true)))
