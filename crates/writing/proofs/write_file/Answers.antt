-- `write_file`: the header and the parts, each in its own stretch, make the file.
use Rattle.writing.proofs.Laws.{filled}
use Rattle.writing.proofs.write_file.Goals as goal

pub returns : goal.returns
returns c =
    filled _ _ _ _ _ _ _ c.lend_header.ensures c.lend_part.ensures c.lend_part-2.ensures c.lend_part-3.ensures
    c.lend_part-4.ensures
