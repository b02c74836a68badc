-- Advice, where the desk may choose its step: the first good move of the lowest present person who has one.
use Rattle.boards.specs.Arena.{board_arena}
use Rattle.games.specs.Limit.{cut}
use Rattle.games.specs.Walks.{advice, dynamic}
use Rattle.sets.specs.Stored.{number}
use Prim.Native.Nat.{◌-◌}
use mathlib.Core.Path.{refl, sym, ap, ◌∙◌, ◌≡◌}
use native.Mathlib.Omega.{arith}
use Rattle.boards.proofs.Looked.{agree_same}
use Rattle.lines.specs.Moves.{line_at, step_of}
use Rattle.lines.proofs.Scans.{try-limit, try-nobody, try-move, sub-limit, sub_within, sub-done, sub-on, Going, Trying}
use Rattle.tries.specs.Outcomes.{verdict_outcome}
use Rattle.tries.proofs.Turns.{some_left}
use Rattle.tries.proofs.Choosing.{advice-choosing, move-agree, advice_hunt, leaves}
use Rattle.advising.proofs.advice_choice.Goals as goal
use Rattle.advising.proofs.advice_choice.Goals.{At-loop-trials, After-placed, After-dynamic_from-sub}

-- the loop goes on with the walk that began
going : (c : At-loop-trials)
    → Going (advice_hunt c.args.board.now.words c.args.board.now.people c.args.p c.without-lines.result c.args.t (c.args.left - 1)) c.without-lines.result (advice (board_arena c.args.board.now.words c.args.board.now.people) c.args.t c.args.left (number c.args.absent) c.args.p) c.args.limit c.loop-trials.at c.loop-trials.used tt
going c = c.loop-trials.invariant _ (advice-choosing _ _ _ _ _ _ (some_left c.requires) (omega arith) c.lines_up-choices.ensures.few (c.lines_up-choices.ensures.lines _ (agree_same _ _)) _ _ c.without-lines.ensures _)

trying : (c : After-placed)
    → Trying (advice_hunt c.args.board.now.words c.args.board.now.people c.args.p c.without-lines.result c.args.t (c.args.left - 1)) c.without-lines.result (advice (board_arena c.args.board.now.words c.args.board.now.people) c.args.t c.args.left (number c.args.absent) c.args.p) c.args.limit c.loop-trials.at c.in-Move.m c.in-Move.trials tt
trying c = try-move (going (goal.at.overflow_sub-limit c).At-loop-trials) _ _ c.in-Move.ensures

-- what the walk after the move says
said : (c : After-dynamic_from-sub)
    → verdict_outcome (c.args.limit - c.in-Move.trials) c.dynamic_from-sub.result.value ≡ cut (c.args.limit - c.in-Move.trials) (dynamic (board_arena c.args.board.now.words c.args.board.now.people) c.args.t (c.args.left - 1) (leaves c.args.board.now.words c.args.board.now.people c.args.p c.without-lines.result c.in-Move.m))
unfolding line_at
said c = c.dynamic_from-sub.ensures _ (move-agree (agree_same _ _) _ _ c.without-lines.result c.in-Move.m c.placed.ensures refl)

pub without-lines-requires : goal.without-lines-requires
without-lines-requires c = c.lines_up-choices.ensures.few

-- ---- the lines are made, and the absent are taken off
pub loop-trials-init : goal.loop-trials-init
loop-trials-init c = λ w g. g

pub next_move-requires : goal.next_move-requires
next_move-requires c =
    (omega (arith, c.without-lines.ensures.count, c.lines_up-choices.ensures.few), (going (goal.at.next_move-requires c).At-loop-trials).enough)

pub returns-in-Limit : goal.returns-in-Limit
returns-in-Limit c =
    try-limit (going (goal.at.returns-in-Limit c).At-loop-trials) c.in-Limit.ensures

pub returns-in-Nobody : goal.returns-in-Nobody
returns-in-Nobody c =
    try-nobody (going (goal.at.returns-in-Nobody c).At-loop-trials) _ c.in-Nobody.ensures

-- ---- a move is tried: its line is one of eight
pub bounds-lines-m : goal.bounds-lines-m
bounds-lines-m c =
    let there = try-move (going (goal.at.bounds-lines-m c).At-loop-trials) _ _ c.in-Move.ensures in
    omega (arith, there.found.listed, c.without-lines.ensures.count, c.lines_up-choices.ensures.few)

pub overflow_sub-limit : goal.overflow_sub-limit
overflow_sub-limit c =
    let there = trying (goal.at.overflow_sub-limit c).After-placed in
    there.enough

-- ---- what the move leaves was walked
pub returns-in-Limit-value : goal.returns-in-Limit-value
returns-in-Limit-value c =
    let told_2 = sym (ap (verdict_outcome _) c.in-Limit-value.is) ∙ said (goal.at.returns-in-Limit-value c).After-dynamic_from-sub in
    let there = trying (goal.at.returns-in-Limit-value c).After-placed in
    sub-limit there told_2

-- ---- the move is good
pub overflow_add-result : goal.overflow_add-result
overflow_add-result c =
    let told_2 = sym (ap (verdict_outcome _) c.in-Yes.is) ∙ said (goal.at.overflow_add-result c).After-dynamic_from-sub in
    let there = trying (goal.at.overflow_add-result c).After-placed in
    omega (arith, c.ranges.limit.fits, sub_within there _ _ told_2)

pub returns-in-Yes : goal.returns-in-Yes
unfolding line_at step_of
returns-in-Yes c =
    let told_2 = sym (ap (verdict_outcome _) c.in-Yes.is) ∙ said (goal.at.returns-in-Yes c).After-dynamic_from-sub in
    let there = trying (goal.at.returns-in-Yes c).After-placed in
    sub-done there _ _ told_2 _ refl

-- ---- the move is bad
pub overflow_add-used : goal.overflow_add-used
overflow_add-used c =
    let told_2 = sym (ap (verdict_outcome _) c.in-No.is) ∙ said (goal.at.overflow_add-used c).After-dynamic_from-sub in
    let there = trying (goal.at.overflow_add-used c).After-placed in
    omega (arith, c.ranges.limit.fits, sub_within there _ _ told_2)

pub overflow_add-at : goal.overflow_add-at
overflow_add-at c =
    let there = trying (goal.at.overflow_add-at c).After-placed in
    omega (arith, there.found.listed, c.without-lines.ensures.count, c.lines_up-choices.ensures.few)

pub loop-trials-smaller : goal.loop-trials-smaller
loop-trials-smaller c =
    let there = trying (goal.at.loop-trials-smaller c).After-placed in
    there.fewer-own

-- whatever walk it is that tries the move
pub loop-trials-preserved : goal.loop-trials-preserved
loop-trials-preserved c = λ w g.
    let told_2 = sym (ap (verdict_outcome _) c.in-No.is) ∙ said (goal.at.loop-trials-preserved c).After-dynamic_from-sub in
    let there = try-move (c.loop-trials.invariant w g) _ _ c.in-Move.ensures in
    sub-on there _ _ told_2 _ refl
