use mathlib.Core.Path.{ap, ◌∙◌}
use Rattle.sets.specs.Stored.{width, number}
use Rattle.sets.proofs.Records.{number-none}
use Rattle.pieces.proofs.Rows.{among-start, among-step, among-end}
use native.Mathlib.Omega.{arith}
use Rattle.pieces.proofs.passing.Goals as goal

pub loop-u-init : goal.loop-u-init
loop-u-init g c = λ passes law. among-start _ width _ _ (ap number c.none-set.ensures ∙ number-none)

pub loop-u-preserved : goal.loop-u-preserved
loop-u-preserved g c = λ passes law.
    among-step _ width _ (c.loop-u.invariant passes law) c.loop-u-test.true (omega arith) _ _
    (law _ c.loop-u-test.true _ c.test.ensures) c.with_if-set.ensures

pub returns : goal.returns
returns g c = λ passes law. among-end _ width _ (c.loop-u.invariant passes law) c.loop-u-test.false
