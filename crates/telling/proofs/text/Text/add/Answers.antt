use native.Mathlib.Omega.{arith}
use Rattle.telling.proofs.Growing.{word-start, word-step, word_end}
use Rattle.telling.proofs.text.Text.add.Goals as goal

pub loop-b-init : goal.loop-b-init
loop-b-init c = word-start c.args.self.now c.args.word.now

pub loop-b-preserved : goal.loop-b-preserved
loop-b-preserved c = word-step _ _ _ c.args.word.now _ (omega arith) c.loop-b.invariant c.add_byte.ensures

pub returns : goal.returns
returns c = word_end _ _ c.args.word.now _ (omega arith) c.loop-b.invariant
