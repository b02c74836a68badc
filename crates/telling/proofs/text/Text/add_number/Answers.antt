use mathlib.Core.Path.{ap, ◌∙◌}
use Rattle.telling.specs.declared.text.Text.{Text}
use Rattle.telling.specs.Lines.{decimal}
use Rattle.telling.specs.Held.{put}
use Rattle.telling.proofs.text.Text.add_number.Goals as goal

pub returns : goal.returns
unfolding put
returns c = c.add_digits.ensures ∙ ap (λ (t : Text). put t (decimal c.args.n)) c.add_byte.ensures
