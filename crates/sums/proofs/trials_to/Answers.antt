use Rattle.sums.proofs.Counts.{trials-start, trials-step}
use Rattle.sums.proofs.trials_to.Goals as goal

pub loop-u-init : goal.loop-u-init
loop-u-init c = let a = c.args in trials-start a.sets a.people a.missed _ c.how_many-sum.ensures

pub loop-u-preserved : goal.loop-u-preserved
loop-u-preserved c =
    let a = c.args in
    trials-step a.sets a.people a.missed _ _ _ _ c.loop-u.invariant c.trials_of.ensures c.capped-sum.ensures
