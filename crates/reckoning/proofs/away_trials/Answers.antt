use native.Mathlib.Omega.{arith}
use Rattle.sets.specs.Stored.{number}
use Rattle.sums.proofs.Joins.{size-wide}
use Rattle.reckoning.proofs.Answers.{once-small, once-fits, away-tells}
use Rattle.reckoning.proofs.away_trials.Goals as goal

pub overflow_sub-t : goal.overflow_sub-t
overflow_sub-t c =
    let pre = c.requires in
    omega (arith, size-wide _ (number c.args.away) (omega arith) pre.0, c.size.ensures, pre.1)

pub reckon-requires : goal.reckon-requires
reckon-requires c =
    let sets = c.once in
    let away = c.args.away in
    (once-fits _ away _ sets.result sets.ensures c.requires.0, once-small away _ _ sets.result sets.ensures (omega arith))

pub returns : goal.returns
returns c =
    let sets = c.once in
    away-tells _ _ _ _ (omega arith) _ _ c.args.away sets.result c.reckon.result c.requires.0 c.requires.1 c.size.ensures sets.ensures
    c.reckon.ensures
