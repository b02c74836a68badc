use Rattle.rodcrank.proofs.Texts.{text-kept, text-put}
use Rattle.rodcrank.proofs.put_text.Goals as goal

pub returns-then-buffer-n : goal.returns-then-buffer-n
returns-then-buffer-n c = text-kept _ _ _ c.requires c.if-buffer-n.true

pub returns : goal.returns
returns c = rw c.copy_from_slice.ensures.after (text-put c.args.text.bytes _ _ c.requires c.if-buffer-n.false)
