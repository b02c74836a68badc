use Rattle.asking.specs.Asking.{number_check}
use Rattle.asking.proofs.judge_number.Goals as goal

pub returns : goal.returns
unfolding number_check
returns c = c.refused_if.ensures
