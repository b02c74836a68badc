-- The text is within its bytes, so the part that is written is as long as the text says.
use Rattle.std.proofs.Common.{sym}
use Rattle.std.proofs.lemmas.List.{length-take-le}
use Rattle.telling.proofs.Writing.{held-within}
use Rattle.verdicts.proofs.main.Goals as goal

pub slice_bounds-bytes-end : goal.slice_bounds-bytes-end
slice_bounds-bytes-end c = held-within _ _ c.tell-text.ensures

pub slice_bounds-write_all-end : goal.slice_bounds-write_all-end
slice_bounds-write_all-end c = sym (length-take-le _ c.tell-text.result.bytes (held-within _ _ c.tell-text.ensures))
