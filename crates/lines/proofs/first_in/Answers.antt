use Rattle.lines.proofs.Finding.{lowest_known}
use Rattle.lines.proofs.first_in.Goals as goal

pub returns-clause-known : goal.returns-clause-known
returns-clause-known c = lowest_known _ _ c.lowest.ensures
