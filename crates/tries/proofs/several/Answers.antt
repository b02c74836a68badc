-- Is a step ready besides the lowest?
use Rattle.std.proofs.Common.{ap}
use Rattle.sets.specs.Lists.{value_or}
use Rattle.tries.proofs.Agreeing.{several-found, several-none}
use Rattle.tries.proofs.several.Goals as goal

pub returns-in-None : goal.returns-in-None
returns-in-None c = several-none _ _ _ c.ready-ready.ensures c.in-None.ensures

pub returns-in-Some : goal.returns-in-Some
returns-in-Some c = several-found _ _ _ _ c.ready-ready.ensures (ap (value_or 32) c.in-Some.ensures) c.without.ensures
