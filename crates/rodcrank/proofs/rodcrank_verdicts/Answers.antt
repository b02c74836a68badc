use mathlib.Core.Path.{ap, ◌∙◌}
use Rattle.telling.specs.declared.text.Text.{Text}
use Rattle.telling.specs.Held.{held}
use Rattle.telling.proofs.Writing.{held-within, held-shown}
use Rattle.rodcrank.specs.Calls.{filled_with}
use Rattle.rodcrank.proofs.rodcrank_verdicts.Goals as goal

pub put_text-requires : goal.put_text-requires
put_text-requires c = held-within _ _ c.tell-text.ensures

pub returns : goal.returns
unfolding held
returns c =
    record {
      value = ap (λ (t : Text). t.len) c.tell-text.ensures;
      buffer_after = c.put_text.ensures ∙ ap (λ l. filled_with l c.args.buffer.now) (held-shown _ _ c.tell-text.ensures);
    }
