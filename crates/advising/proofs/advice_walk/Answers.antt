-- Advice, where one step is ready: the first person in line whose placing leaves a good position.
use Rattle.tries.specs.Trying.{step_on}
use Rattle.games.specs.Limit.{cut}
use Rattle.games.specs.Walks.{advice, dynamic}
use Rattle.sets.specs.Stored.{number}
use mathlib.Core.Path.{refl, sym, ap, ◌∙◌, ◌≡◌}
use mathlib.Core.Option.{none}
use Rattle.std.proofs.Common.{ℕ, ◌+◌, ◌-◌}
use native.Mathlib.Omega.{arith}
use Rattle.boards.specs.Arena.{by, put_on, board_arena}
use Rattle.boards.proofs.Looked.{agree_same}
use Rattle.tries.specs.Outcomes.{found, verdict_outcome}
use Rattle.games.proofs.Cuts.{ends}
use Rattle.tries.proofs.Scans.{try-limit, try-nobody, try-person, sub-limit, sub_within, sub-done, sub-on, Going, Trying}
use Rattle.tries.proofs.Turns.{above_zero, advice-full, advice-going, advice_hunt}
use Rattle.tries.proofs.Agreeing.{is-alone, placed-agree, placed_alike}
use Rattle.tries.proofs.Alike.{going-as, alike-by, alike-limit, alike_all}
use Rattle.advising.proofs.advice_walk.Goals as goal
use Rattle.advising.proofs.advice_walk.Goals.{At-loop-trials, After-placed, After-dynamic_from-sub}

-- the loop goes on with the walk that began
going : (c : At-loop-trials)
    → Going (advice_hunt c.args.board.now.words c.args.board.now.people c.args.t (c.args.left - 1) c.args.p) (advice (board_arena c.args.board.now.words c.args.board.now.people) c.args.t c.args.left (number c.args.absent) c.args.p) c.args.limit (number c.loop-trials.line.tried) (number c.loop-trials.line.fit) c.loop-trials.used tt
going c = c.loop-trials.invariant _ (advice-going _ _ _ _ _ _ _ c.if-left-eq0.false (omega arith) (is-alone _ _ c.several.ensures c.if-several.false) _ _ (c.line_up-lined.ensures _ (agree_same _ _)))

trying : (c : After-placed)
    → Trying (advice_hunt c.args.board.now.words c.args.board.now.people c.args.t (c.args.left - 1) c.args.p) (advice (board_arena c.args.board.now.words c.args.board.now.people) c.args.t c.args.left (number c.args.absent) c.args.p) c.args.limit (number c.loop-trials.line.tried) (number c.loop-trials.line.fit) c.in-Move.v.0 c.in-Move.trials tt
trying c = try-person (going (goal.at.overflow_sub-limit c).At-loop-trials) _ _ c.in-Move.ensures

-- what the walk after the placing says
said : (c : After-dynamic_from-sub)
    → verdict_outcome (c.args.limit - c.in-Move.trials) c.dynamic_from-sub.result.value ≡ cut (c.args.limit - c.in-Move.trials) (dynamic (board_arena c.args.board.now.words c.args.board.now.people) c.args.t (c.args.left - 1) (put_on c.args.p c.in-Move.v.0 (step_on c.args.board.now.words c.args.p)))
said c = c.dynamic_from-sub.ensures _ (placed-agree _ (agree_same _ _) _ _ c.in-Move.v c.placed.ensures c.next_step-step.ensures)

pub returns-then-left-eq0 : goal.returns-then-left-eq0
returns-then-left-eq0 c = ends _ _ none 0 (advice-full _ _ _ c.if-left-eq0.true _ _) (omega arith)

pub advice_choice-requires : goal.advice_choice-requires
advice_choice-requires c = above_zero c.if-left-eq0.false

-- ---- people are lined up for the step that is ready
pub loop-trials-init : goal.loop-trials-init
loop-trials-init c = λ w g. g

pub next_try-requires : goal.next_try-requires
next_try-requires c =
    (going (goal.at.next_try-requires c).At-loop-trials).enough

pub returns-in-Limit : goal.returns-in-Limit
returns-in-Limit c =
    try-limit (going (goal.at.returns-in-Limit c).At-loop-trials) c.in-Limit.ensures

pub returns-in-Nobody : goal.returns-in-Nobody
returns-in-Nobody c =
    try-nobody (going (goal.at.returns-in-Nobody c).At-loop-trials) _ c.in-Nobody.ensures

-- ---- a person is tried
pub overflow_sub-limit : goal.overflow_sub-limit
overflow_sub-limit c =
    let there = trying (goal.at.overflow_sub-limit c).After-placed in
    there.enough

-- ---- what the placing leaves was walked
pub returns-in-Limit-value : goal.returns-in-Limit-value
returns-in-Limit-value c =
    let there = trying (goal.at.returns-in-Limit-value c).After-placed in
    sub-limit there (sym (ap (verdict_outcome _) c.in-Limit-value.is) ∙ said (goal.at.returns-in-Limit-value c).After-dynamic_from-sub)

-- ---- the placing is good
pub overflow_add-result : goal.overflow_add-result
overflow_add-result c =
    let there = trying (goal.at.overflow_add-result c).After-placed in
    omega (arith, c.ranges.limit.fits, sub_within there _ _ (sym (ap (verdict_outcome _) c.in-Yes.is) ∙ said (goal.at.overflow_add-result c).After-dynamic_from-sub))

pub returns-in-Yes : goal.returns-in-Yes
returns-in-Yes c =
    let there = trying (goal.at.returns-in-Yes c).After-placed in
    ap (λ (s : ℕ). found (c.in-Move.v.0, by c.in-Move.v.0 s) (c.in-Move.trials + c.in-Yes.more)) c.next_step-step.ensures
    ∙ sub-done there _ _ (sym (ap (verdict_outcome _) c.in-Yes.is) ∙ said (goal.at.returns-in-Yes c).After-dynamic_from-sub) _ refl

-- ---- the placing is bad
pub overflow_add-used : goal.overflow_add-used
overflow_add-used c =
    let there = trying (goal.at.overflow_add-used c).After-placed in
    omega (arith, c.ranges.limit.fits, sub_within there _ _ (sym (ap (verdict_outcome _) c.in-No.is) ∙ said (goal.at.overflow_add-used c).After-dynamic_from-sub))

-- ---- the line goes on behind that person
pub returns-in-None : goal.returns-in-None
returns-in-None c =
    let there = trying (goal.at.returns-in-None c).After-placed in
    alike-limit (alike-by _ _ _ _ (λ u. sym (ap (verdict_outcome _) c.in-No.is) ∙ c.dynamic_from-sub.ensures _ (placed_alike _ (agree_same _ _) _ _ c.in-Move.v c.placed.ensures c.next_step-step.ensures (sym c.holds-asked.ensures ∙ c.if-not-asked.true) u))) (λ u. refl) (going-as (sub-on there _ _ (sym (ap (verdict_outcome _) c.in-No.is) ∙ said (goal.at.returns-in-None c).After-dynamic_from-sub) _ refl) c.behind-line.ensures.0 c.behind-line.ensures.1)
    c.in-None.ensures

pub returns-in-Some : goal.returns-in-Some
returns-in-Some c =
    let there = trying (goal.at.returns-in-Some c).After-placed in
    alike_all (alike-by _ _ _ _ (λ u. sym (ap (verdict_outcome _) c.in-No.is) ∙ c.dynamic_from-sub.ensures _ (placed_alike _ (agree_same _ _) _ _ c.in-Move.v c.placed.ensures c.next_step-step.ensures (sym c.holds-asked.ensures ∙ c.if-not-asked.true) u))) (λ u. refl) (going-as (sub-on there _ _ (sym (ap (verdict_outcome _) c.in-No.is) ∙ said (goal.at.returns-in-Some c).After-dynamic_from-sub) _ refl) c.behind-line.ensures.0 c.behind-line.ensures.1) _
    c.in-Some.ensures

pub loop-trials-smaller : goal.loop-trials-smaller
loop-trials-smaller c =
    let there = trying (goal.at.loop-trials-smaller c).After-placed in
    rw c.behind-line.ensures.1 there.fewer

-- whatever walk it is that tries the person
pub loop-trials-preserved : goal.loop-trials-preserved
loop-trials-preserved c = λ w g.
    let there = try-person (c.loop-trials.invariant w g) _ _ c.in-Move.ensures in
    going-as (sub-on there _ _ (sym (ap (verdict_outcome _) c.in-No.is) ∙ said (goal.at.loop-trials-preserved c).After-dynamic_from-sub) _ refl) c.behind-line.ensures.0 c.behind-line.ensures.1
