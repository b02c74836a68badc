use Rattle.std.proofs.Common.{length, get_or}
use Rattle.words.specs.Part.{Written}
use Rattle.writing.proofs.write_entries.Given as goal

abbrev pub invariant-loop-i : goal.invariant-loop-i
invariant-loop-i g l =
    Written (λ k. g.E.Entry.bytes_of (get_or l.entries k g.E.Entry.zero)) g.E.Entry.BYTES (length l.entries) l.i l.stretch
