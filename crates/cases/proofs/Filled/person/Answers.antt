use Rattle.std.proofs.Common.{◌≡◌, ap, ◌∙◌, get_or, arith}
use Rattle.std.proofs.lemmas.Grind.{common_steps}
use Rattle.cases.specs.declared.Person.{Person}
use Rattle.cases.specs.Positions.{zero_person}
use Rattle.cases.proofs.Fillings.{who-at}
use Rattle.cases.proofs.Filled.person.Goals as goal

pub returns : goal.returns
returns c =
    let e : c.unwrap_or.result ≡ get_or c.args.self.who c.args.s.0 zero_person = grind (arith, common_steps) in
    ap (λ (v : Person). v.0) e ∙ who-at _ _
