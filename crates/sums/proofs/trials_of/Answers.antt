use mathlib.Core.Path.{sym, ap, ◌∙◌}
use native.Mathlib.Omega.{arith}
use Rattle.sums.specs.declared.Absences.{Absences}
use Rattle.sums.proofs.Counts.{trials-some, trials-none}
use Rattle.sums.proofs.trials_of.Goals as goal

pub how_many-requires : goal.how_many-requires
how_many-requires c = let b = c.requires in let e = ap (λ (s : Absences). s.room) c.staying.ensures in (b.0, omega (arith, e, b.1))

pub returns-then-has : goal.returns-then-has
returns-then-has c =
    let a = c.args in
    trials-some a.sets a.people a.missed a.u _ c.staying.result
    (sym c.has.ensures ∙ c.if-has.true) c.staying.ensures c.how_many.ensures

pub returns-else-has : goal.returns-else-has
returns-else-has c = let a = c.args in trials-none a.sets a.people a.missed a.u (sym c.has.ensures ∙ c.if-has.false)
