use Rattle.std.proofs.Common.{rules}
use Rattle.std.proofs.lemmas.List.{length-take-le}
use Rattle.sums.proofs.Counts.{weighs}
use Rattle.sums.proofs.once_below.Goals as goal

pub returns : goal.returns
returns c = weighs _ _ _ _ _ c.requires (length-take-le _ _ c.requires) (c.fill.ensures.after (λ y e. search rules))
