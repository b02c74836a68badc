use mathlib.Core.Path.{refl, sym}
use lib.ListN.{get_or-eq_default}
use Rattle.sets.specs.Stored.{number, set_at}
use Rattle.sets.proofs.People.at.Goals as goal

pub returns-then-i-words : goal.returns-then-i-words
unfolding number set_at
returns-then-i-words c = refl

pub returns-else-i-words : goal.returns-else-i-words
unfolding number set_at
returns-else-i-words c = sym (get_or-eq_default c.args.words.now 0 c.if-i-words.false)
