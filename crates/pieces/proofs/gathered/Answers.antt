use mathlib.Core.Path.{◌∙◌}
use Rattle.sets.specs.Sets.{has}
use Rattle.sets.specs.Stored.{set_at}
use Rattle.boards.specs.Board.{row_place}
use Rattle.pieces.specs.Pieces.{gathered_in}
use Rattle.pieces.proofs.Rows.{whole_width}
use borrow.Author.Rules.{rules}
use Rattle.pieces.proofs.gathered.Goals as goal

pub returns : goal.returns
unfolding gathered_in
returns c = c.passing.ensures (λ u. has (set_at c.args.board.now (row_place c.args.k u)) c.args.v) (λ u h told p. search rules) ∙ whole_width _
