use Rattle.std.proofs.Common.{◌≡◌, refl, ap, ◌∙◌, ℕ}
use Rattle.std.specs.Prelude.{Option, Some, None, unwrap_or}
use Rattle.sets.specs.Lists.{value_or}
use Rattle.sets.specs.Stored.{lowest_number}
use Rattle.tries.proofs.Lines.{step-found}
use Rattle.tries.proofs.next_step.Goals as goal

or-none : (o : Option ℕ) → unwrap_or o 32 ≡ value_or 32 (lowest_number o)
or-none None = refl
or-none (Some s) = refl

pub returns : goal.returns
returns c = step-found _ _ _ _ c.ready.ensures (c.unwrap_or.ensures ∙ or-none c.lowest_in.result ∙ ap (value_or 32) c.lowest_in.ensures)
