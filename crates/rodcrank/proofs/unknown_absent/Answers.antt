use Rattle.rodcrank.proofs.Replying.{refused-away, answered-away}
use Rattle.rodcrank.proofs.unknown_absent.Goals as goal

pub returns-in-Ok : goal.returns-in-Ok
returns-in-Ok c = answered-away _ _ _ c.in-Ok.ensures

pub returns-in-Err : goal.returns-in-Err
returns-in-Err c = refused-away _ _ _ c.in-Err.ensures
