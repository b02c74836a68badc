use Rattle.std.proofs.Common.{◌≡◌, get_or, refl}
use Rattle.std.proofs.lemmas.List.{get_or_read_under}
use Rattle.words.proofs.Parts.{write-start, write_step}
use Rattle.writing.proofs.write_entries.Goals as goal

pub loop-i-init : goal.loop-i-init
loop-i-init g c = write-start _ _ _ _ c.requires

pub loop-i-preserved : goal.loop-i-preserved
loop-i-preserved g c =
    let read : c.index-entries-i.result ≡ get_or c.args.entries.now c.loop-i.i g.E.Entry.zero = get_or_read_under _ _ _ _ _ c.index-entries-i.is c.loop-i-test.true refl in
    write_step _ _ _ c.loop-i.invariant c.loop-i-test.true (g.met.E.Entry.long _) (rw (c.BYTES.ensures, read) at c.put.ensures)
