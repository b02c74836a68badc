use Rattle.files.proofs.Ways.{part_none, part-some, part_room}
use Rattle.files.proofs.part_of.Goals as goal

pub part_at-requires : goal.part_at-requires
part_at-requires c = part_room _ c.judge.ensures c.in-Ok.is c.counts.ensures

pub returns-in-Ok : goal.returns-in-Ok
returns-in-Ok c = part-some _ _ c.judge.ensures c.in-Ok.is c.counts.ensures c.part_at.ensures

pub returns-in-Err : goal.returns-in-Err
returns-in-Err c = part_none _ _ c.judge.ensures c.in-Err.is c.no_part.ensures
