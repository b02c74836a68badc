use Rattle.tries.proofs.Turns.{nobody-shown}
use Rattle.tries.proofs.Good.{bad-limit, bad-all}
use Rattle.tries.proofs.everyone.all_bad.Goals as goal

pub returns-in-None : goal.returns-in-None
returns-in-None c = bad-limit _ _ _ _ c.in-None.ensures

pub returns-in-Some : goal.returns-in-Some
returns-in-Some c = bad-all _ _ _ _ _ _ (nobody-shown c.none.ensures) c.in-Some.ensures
