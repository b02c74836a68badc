use Rattle.std.proofs.Common.{length}
use Rattle.words.specs.Part.{Begun}
use Rattle.entries.proofs.read_entries.Given as goal

abbrev pub invariant-loop-i : goal.invariant-loop-i
invariant-loop-i g l = Begun (g.E.Entry.entry_in l.part) g.E.Entry.zero (length l.initial.entries) l.i l.entries
