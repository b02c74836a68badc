use mathlib.Core.Path.{◌≡◌}
use Rattle.sets.specs.Sets.{members}
use Rattle.sets.specs.Stored.{number}
use Rattle.telling.specs.Held.{put}
use Rattle.telling.proofs.Lists.{numbers}
use Rattle.telling.proofs.text_lines.each_member.Given as goal

abbrev pub invariant-loop-v : goal.invariant-loop-v
invariant-loop-v l = l.text ≡ put l.initial.text (numbers (members l.v (number l.set)))
