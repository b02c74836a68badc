use Rattle.telling.specs.Lines.{line}
use Rattle.telling.specs.Telling.{refused_line}
use Rattle.telling.proofs.Growing.{then-put}
use Rattle.telling.proofs.text_lines.put_refusal.Goals as goal

pub returns : goal.returns
unfolding refused_line line
returns c = then-put _ _ _ _ c.put.ensures _ c.end_refused.ensures
