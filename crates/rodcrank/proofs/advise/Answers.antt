use mathlib.Core.Path.{◌∙◌}
use Rattle.sets.specs.Stored.{from_words}
use Rattle.cases.specs.Positions.{persons}
use Rattle.rodcrank.specs.Calls.{advised}
use Rattle.rodcrank.proofs.Replying.{asked-good, set_told, past-told}
use Rattle.rodcrank.proofs.advise.Goals as goal

pub returns-in-Some : goal.returns-in-Some
returns-in-Some c =
    let a = c.args in
    set_told _ _ _ _ _ _ c.in-Some.ensures c.advise_good.ensures
    ∙ asked-good _ (λ case. advised case (persons a.p) a.t (from_words a.low a.high) a.limit) c.in_ok-good.ensures

pub returns-in-None : goal.returns-in-None
returns-in-None c =
    let a = c.args in
    past-told _ _ _ _ _ c.in-None.ensures c.unknown_absent.ensures
    ∙ asked-good _ (λ case. advised case (persons a.p) a.t (from_words a.low a.high) a.limit) c.in_ok-good.ensures
