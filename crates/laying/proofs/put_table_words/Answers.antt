use mathlib.Core.Path.{sym, ap, ◌∙◌}
use Prim.Native.Nat.{ℕ}
use lib.ListN.{get_or}
use Rattle.sets.specs.Stored.{number, no_people}
use Rattle.pieces.specs.Pieces.{laid_from}
use Rattle.pieces.proofs.Writing.{from_start}
use Rattle.laying.proofs.put_table_words.Goals as goal

pub returns-then-n-eq0 : goal.returns-then-n-eq0
returns-then-n-eq0 c =
    from_start 0 (λ i. number (get_or c.args.c.rows i no_people)) _ ∙ ap (λ (n : ℕ). laid_from 0 n (λ i. number (get_or c.args.c.rows i no_people)) c.args.out.now) (sym c.if-n-eq0.true)
