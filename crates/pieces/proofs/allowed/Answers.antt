use lib.ListN.{get_or}
use Rattle.sets.specs.Sets.{meets}
use Rattle.cases.specs.Case.{most_roles}
use Rattle.pieces.specs.Pieces.{allowed_in}
use borrow.Author.Rules.{rules}
use Rattle.pieces.proofs.allowed.Goals as goal

pub returns : goal.returns
unfolding allowed_in
returns c = c.passing.ensures (λ u. meets most_roles (get_or c.args.held.now u 0) c.args.wanted) (λ u h told p. search rules)
