use Rattle.laying.proofs.Laying.{laid}
use native.Mathlib.Omega.{arith}
use Rattle.laying.proofs.lay_onto.Goals as goal

pub first_of-requires : goal.first_of-requires
first_of-requires c =
    omega (arith, c.sizes_of-n.ensures.steps, c.requires.0.steps)

pub first_of-requires-2 : goal.first_of-requires-2
first_of-requires-2 c =
    omega (arith, c.sizes_of-n.ensures.rules, c.requires.0.rules)

pub returns : goal.returns
returns c =
    laid c.args.c c.args.order c.requires.0 _ c.sizes_of-n.ensures _ _ _ _ _ _ _ _ _ _ _ _ _ _
    c.named_words-named.ensures c.following_words-following.ensures c.put_table_words.ensures c.requires.1 c.put_rows.ensures
    c.put_columns.ensures c.put_loops.ensures c.put_allowed.ensures c.put_named.ensures c.put_rules.ensures
    c.first_of.ensures c.put_halves.ensures c.first_of-2.ensures c.put_halves-2.ensures
