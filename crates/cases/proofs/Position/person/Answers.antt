use Rattle.std.proofs.Common.{◌≡◌, ap, ◌∙◌, get_or, rules, arith}
use Rattle.cases.specs.declared.Person.{Person}
use Rattle.cases.specs.Positions.{zero_person}
use Rattle.cases.proofs.Positions.{persons-at, persons-past}
use Rattle.cases.proofs.Position.person.Goals as goal

pub returns-then-self-i : goal.returns-then-self-i
returns-then-self-i c = persons-past _ _ c.if-self-i.true

pub returns : goal.returns
returns c =
    let e : c.unwrap_or.result ≡ get_or c.args.self.who c.args.i zero_person = search rules in
    ap (λ (v : Person). v.0) e ∙ persons-at _ _ (omega arith)
