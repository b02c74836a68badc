-- The dynamic walk, where one step is ready and where the desk may choose its step: each calls for the walks of the positions with one step more filled.
use mathlib.Core.Path.{◌≡◌, refl, sym, ap, ◌∙◌}
use mathlib.Core.Option.{none}
use native.Mathlib.Omega.{arith}
use Prim.Native.Nat.{ℕ, ◌-◌}
use Rattle.sets.specs.Stored.{number}
use Rattle.games.specs.Walks.{dynamic}
use Rattle.games.specs.Limit.{cut}
use Rattle.cases.specs.declared.Filled.{Filled}
use Rattle.boards.specs.Arena.{put_on, board_arena}
use Rattle.boards.specs.Looked.{Agree}
use Rattle.boards.proofs.Looked.{agree_same, agree_left, agree_right}
use Rattle.lines.specs.Moves.{line_at}
use Rattle.lines.proofs.Scans as many
use Rattle.lines.proofs.Showing as many-shown
use Rattle.tries.specs.Outcomes.{verdict_outcome}
use Rattle.tries.specs.Trying.{step_on}
use Rattle.games.proofs.Cuts.{ends}
use Rattle.tries.proofs.Scans.{Trying, try-limit, try-nobody, try-person, sub-limit, sub_within, sub-done, sub-on}
use Rattle.tries.proofs.Turns.{nobody-shown, above_zero, some_left, dynamic_hunt, dynamic-full, dynamic-going}
use Rattle.tries.proofs.Showing.{shown-start, shown-same, shown-sum, shown-more, enough-found, one_found}
use Rattle.tries.proofs.Agreeing.{is-alone, alone-agree, placed-agree, placed_alike}
use Rattle.tries.proofs.Alike.{going-as, alike-by}
use Rattle.tries.proofs.Good.{dynamic-bad, dynamic-good, last-alike}
use Rattle.tries.proofs.Choosing as choosing
use Rattle.rounds.proofs.+dynamic_choice_dynamic_from.Goals as goal
use Rattle.rounds.proofs.+dynamic_choice_dynamic_from.Goals.{dynamic_choice-After-joined_steps-looked, dynamic_from-After-joined_steps-looked}

-- a move was tried, and the walk after it has ended
dynamic_choice-trying : {m : ℕ} (c : dynamic_choice-After-joined_steps-looked m) (q : Filled) → Agree c.joined_steps-looked.result c.args.p q
    → many.Trying (choosing.dynamic_hunt c.args.board.now.words c.args.board.now.people q c.lines_up-choices.result.value c.args.t (c.args.left - 1)) c.lines_up-choices.result.value (dynamic (board_arena c.args.board.now.words c.args.board.now.people) c.args.t c.args.left q) c.args.limit c.loop-trials.at c.in-Move.m c.in-Move.trials (c.loop-trials.found, number c.loop-trials.shown)
dynamic_choice-trying c q a = many.try-move (c.loop-trials.invariant.0 q (agree_left _ _ c.joined_steps-looked.ensures a)) _ _ c.in-Move.ensures

dynamic_choice-said : {m : ℕ} (c : dynamic_choice-After-joined_steps-looked m) (q : Filled) → Agree c.joined_steps-looked.result c.args.p q
    → verdict_outcome (c.args.limit - c.in-Move.trials) c.dynamic_from-sub.result.value ≡ cut (c.args.limit - c.in-Move.trials) (dynamic (board_arena c.args.board.now.words c.args.board.now.people) c.args.t (c.args.left - 1) (choosing.leaves c.args.board.now.words c.args.board.now.people q c.lines_up-choices.result.value c.in-Move.m))
unfolding line_at
dynamic_choice-said c q a = c.dynamic_from-sub.ensures _ (choosing.move-agree (agree_right _ _ c.joined_steps-looked.ensures a) _ _ c.lines_up-choices.result.value c.in-Move.m c.placed.ensures refl)

-- a person was tried, and the walk after the placing has ended
dynamic_from-trying : {m : ℕ} (c : dynamic_from-After-joined_steps-looked m) (q : Filled) → Agree c.joined_steps-looked.result c.args.p q
    → Trying (dynamic_hunt c.args.board.now.words c.args.board.now.people c.args.t (c.args.left - 1) q) (dynamic (board_arena c.args.board.now.words c.args.board.now.people) c.args.t c.args.left q) c.args.limit (number c.loop-trials.line.tried) (number c.loop-trials.line.fit) c.in-Move.v.0 c.in-Move.trials (c.loop-trials.found, number c.loop-trials.shown)
dynamic_from-trying c q a = try-person (c.loop-trials.invariant.0 q (agree_left _ _ c.joined_steps-looked.ensures a)).1 _ _ c.in-Move.ensures

dynamic_from-said : {m : ℕ} (c : dynamic_from-After-joined_steps-looked m) (q : Filled) → Agree c.joined_steps-looked.result c.args.p q
    → verdict_outcome (c.args.limit - c.in-Move.trials) c.dynamic_from-sub.result.value ≡ cut (c.args.limit - c.in-Move.trials) (dynamic (board_arena c.args.board.now.words c.args.board.now.people) c.args.t (c.args.left - 1) (put_on q c.in-Move.v.0 (step_on c.args.board.now.words q)))
dynamic_from-said c q a = c.dynamic_from-sub.ensures _ (placed-agree _ (agree_right _ _ c.joined_steps-looked.ensures a) _ _ c.in-Move.v c.placed.ensures c.next_step-step.ensures)

-- ---- several steps are ready: dynamic_choice
pub dynamic_choice-loop-trials-init : goal.dynamic_choice-loop-trials-init
dynamic_choice-loop-trials-init m c = (
  λ q a. rw (nobody-shown c.none-shown.ensures) (choosing.dynamic-choosing _ _ _ q _ _ (some_left c.requires) (omega arith) c.lines_up-choices.ensures.few (c.lines_up-choices.ensures.lines q a) _),
  rw (nobody-shown c.none-shown.ensures) (many-shown.shown-start _),
)

pub dynamic_choice-next_move-requires : goal.dynamic_choice-next_move-requires
dynamic_choice-next_move-requires m c = (c.lines_up-choices.ensures.few, (c.loop-trials.invariant.0 _ (agree_same _ _)).enough)

pub dynamic_choice-returns-in-Limit : goal.dynamic_choice-returns-in-Limit
dynamic_choice-returns-in-Limit m c = λ q a. many.try-limit (c.loop-trials.invariant.0 q a) c.in-Limit.ensures

pub dynamic_choice-returns-in-Nobody : goal.dynamic_choice-returns-in-Nobody
dynamic_choice-returns-in-Nobody m c = λ q a. many.try-nobody (c.loop-trials.invariant.0 q a) _ c.in-Nobody.ensures

-- ---- a move is tried: its line is one of eight
pub dynamic_choice-bounds-lines-m : goal.dynamic_choice-bounds-lines-m
dynamic_choice-bounds-lines-m m c =
    let there = many.try-move (c.loop-trials.invariant.0 _ (agree_same _ _)) _ _ c.in-Move.ensures in
    omega (arith, there.found.listed, c.lines_up-choices.ensures.few)

pub dynamic_choice-overflow_sub-limit : goal.dynamic_choice-overflow_sub-limit
dynamic_choice-overflow_sub-limit m c = (many.try-move (c.loop-trials.invariant.0 _ (agree_same _ _)) _ _ c.in-Move.ensures).enough

pub dynamic_choice-dynamic_from-sub-requires : goal.dynamic_choice-dynamic_from-sub-requires
dynamic_choice-dynamic_from-sub-requires m c = omega arith

-- ---- what the move leaves was walked
pub dynamic_choice-returns-in-Limit-value : goal.dynamic_choice-returns-in-Limit-value
dynamic_choice-returns-in-Limit-value m c = λ q a.
    let j = (goal.at.dynamic_choice-returns-in-Limit-value m c).After-joined_steps-looked in
    many.sub-limit (dynamic_choice-trying j q a) (sym (ap (verdict_outcome _) c.in-Limit-value.is) ∙ dynamic_choice-said j q a)

-- ---- the move is bad
pub dynamic_choice-overflow_add-used : goal.dynamic_choice-overflow_add-used
dynamic_choice-overflow_add-used m c =
    let j = (goal.at.dynamic_choice-overflow_add-used m c).After-joined_steps-looked in
    let there = dynamic_choice-trying j _ (agree_same _ _) in
    omega (arith, c.ranges.limit.fits, many.sub_within there _ _ (sym (ap (verdict_outcome _) c.in-No.is) ∙ dynamic_choice-said j _ (agree_same _ _)))

pub dynamic_choice-overflow_add-at : goal.dynamic_choice-overflow_add-at
dynamic_choice-overflow_add-at m c =
    let j = (goal.at.dynamic_choice-overflow_add-at m c).After-joined_steps-looked in
    let there = dynamic_choice-trying j _ (agree_same _ _) in
    omega (arith, there.found.listed, c.lines_up-choices.ensures.few)

pub dynamic_choice-loop-trials-smaller-in-No : goal.dynamic_choice-loop-trials-smaller-in-No
dynamic_choice-loop-trials-smaller-in-No m c =
    let j = (goal.at.dynamic_choice-loop-trials-smaller-in-No m c).After-joined_steps-looked in
    let there = dynamic_choice-trying j _ (agree_same _ _) in
    omega (arith, there.fewer-own)

pub dynamic_choice-loop-trials-preserved-in-No : goal.dynamic_choice-loop-trials-preserved-in-No
dynamic_choice-loop-trials-preserved-in-No m c =
    let j = (goal.at.dynamic_choice-loop-trials-preserved-in-No m c).After-joined_steps-looked in (
      λ q a. many.sub-on (dynamic_choice-trying j q a) _ _ (sym (ap (verdict_outcome _) c.in-No.is) ∙ dynamic_choice-said j q a) _ refl,
      (let there = dynamic_choice-trying j _ (agree_same _ _) in many-shown.shown-same _ (many.not_back there.found) c.loop-trials.invariant.1),
    )

-- ---- the move is good
pub dynamic_choice-overflow_add-result : goal.dynamic_choice-overflow_add-result
dynamic_choice-overflow_add-result m c =
    let j = (goal.at.dynamic_choice-overflow_add-result m c).After-joined_steps-looked in
    let there = dynamic_choice-trying j _ (agree_same _ _) in
    omega (arith, c.ranges.limit.fits, many.sub_within there _ _ (sym (ap (verdict_outcome _) c.in-Yes.is) ∙ dynamic_choice-said j _ (agree_same _ _)))

pub dynamic_choice-returns-then-found-t : goal.dynamic_choice-returns-then-found-t
dynamic_choice-returns-then-found-t m c = λ q a.
    let j = (goal.at.dynamic_choice-returns-then-found-t m c).After-joined_steps-looked in
    many.sub-done (dynamic_choice-trying j q a) _ _ (sym (ap (verdict_outcome _) c.in-Yes.is) ∙ dynamic_choice-said j q a) _ (many-shown.enough-found _ c.in-Move.m _ _ c.if-found-t.true)

pub dynamic_choice-overflow_add-found : goal.dynamic_choice-overflow_add-found
dynamic_choice-overflow_add-found m c = omega (arith, c.ranges.t.fits, c.loop-trials.invariant.1.few)

-- their person is shown
pub dynamic_choice-overflow_add-used-in-Yes : goal.dynamic_choice-overflow_add-used-in-Yes
dynamic_choice-overflow_add-used-in-Yes m c =
    let j = (goal.at.dynamic_choice-overflow_add-used-in-Yes m c).After-joined_steps-looked in
    let there = dynamic_choice-trying j _ (agree_same _ _) in
    omega (arith, c.ranges.limit.fits, many.sub_within there _ _ (sym (ap (verdict_outcome _) c.in-Yes.is) ∙ dynamic_choice-said j _ (agree_same _ _)))

pub dynamic_choice-overflow_add-at-in-Yes : goal.dynamic_choice-overflow_add-at-in-Yes
dynamic_choice-overflow_add-at-in-Yes m c =
    let j = (goal.at.dynamic_choice-overflow_add-at-in-Yes m c).After-joined_steps-looked in
    let there = dynamic_choice-trying j _ (agree_same _ _) in
    omega (arith, there.found.known)

pub dynamic_choice-loop-trials-smaller : goal.dynamic_choice-loop-trials-smaller
dynamic_choice-loop-trials-smaller m c =
    let j = (goal.at.dynamic_choice-loop-trials-smaller m c).After-joined_steps-looked in
    (dynamic_choice-trying j _ (agree_same _ _)).fewer

pub dynamic_choice-loop-trials-preserved : goal.dynamic_choice-loop-trials-preserved
dynamic_choice-loop-trials-preserved m c =
    let j = (goal.at.dynamic_choice-loop-trials-preserved m c).After-joined_steps-looked in
    let there = dynamic_choice-trying j _ (agree_same _ _) in
    let y = there.found in
    let s = c.loop-trials.invariant.1 in (
      λ q a. many.sub-pass (dynamic_choice-trying j q a) _ _ (sym (ap (verdict_outcome _) c.in-Yes.is) ∙ dynamic_choice-said j q a) _
          (many-shown.one_found _ c.in-Move.m _ _ _ c.if-found-t.false (many-shown.shown-sum s _ _ y.known (many.not_back y) c.with-shown.ensures)),
      many-shown.shown-more s _ _ y.known (many.not_back y) c.with-shown.ensures c.if-found-t.false,
    )

-- ---- one step is ready: dynamic_from
pub dynamic_from-returns-then-left-eq0 : goal.dynamic_from-returns-then-left-eq0
dynamic_from-returns-then-left-eq0 m c = λ q a. ends _ _ none 0 (dynamic-full _ _ q c.if-left-eq0.true _) (omega arith)

pub dynamic_from-dynamic_choice-requires : goal.dynamic_from-dynamic_choice-requires
dynamic_from-dynamic_choice-requires m c = (omega arith, above_zero c.if-left-eq0.false)

-- ---- people are lined up for the step that is ready
pub dynamic_from-returns-then-left-eq1 : goal.dynamic_from-returns-then-left-eq1
dynamic_from-returns-then-left-eq1 m c = λ q a.
    let line = rw (nobody-shown c.none.ensures) at (c.line_up-lined.ensures q a) in
    c.all_good.ensures
    ∙ ap (cut _) (dynamic-good _ _ _ q _ _ c.if-left-eq0.false (omega arith) (alone-agree _ a (is-alone _ _ c.several.ensures c.if-several.false)) _ line _ (last-alike _ _ _ q _ c.if-left-eq1.true))

pub dynamic_from-loop-trials-init : goal.dynamic_from-loop-trials-init
dynamic_from-loop-trials-init m c = (
  λ q a.
      let line = rw (nobody-shown c.none.ensures) at (c.line_up-lined.ensures q a) in
      (line, rw (nobody-shown c.none-shown.ensures) (dynamic-going _ _ _ q _ _ _ c.if-left-eq0.false (omega arith) (alone-agree _ a (is-alone _ _ c.several.ensures c.if-several.false)) _ line)),
  rw (nobody-shown c.none-shown.ensures) (shown-start _ _),
)

pub dynamic_from-next_try-requires : goal.dynamic_from-next_try-requires
dynamic_from-next_try-requires m c = (c.loop-trials.invariant.0 _ (agree_same _ _)).1.enough

pub dynamic_from-returns-in-Limit : goal.dynamic_from-returns-in-Limit
dynamic_from-returns-in-Limit m c = λ q a. try-limit (c.loop-trials.invariant.0 q a).1 c.in-Limit.ensures

pub dynamic_from-returns-in-Nobody : goal.dynamic_from-returns-in-Nobody
dynamic_from-returns-in-Nobody m c = λ q a. try-nobody (c.loop-trials.invariant.0 q a).1 _ c.in-Nobody.ensures

-- ---- a person is tried
pub dynamic_from-overflow_sub-limit : goal.dynamic_from-overflow_sub-limit
dynamic_from-overflow_sub-limit m c = (try-person (c.loop-trials.invariant.0 _ (agree_same _ _)).1 _ _ c.in-Move.ensures).enough

pub dynamic_from-dynamic_from-sub-requires : goal.dynamic_from-dynamic_from-sub-requires
dynamic_from-dynamic_from-sub-requires m c = omega (arith, c.decreases, c.if-left-eq0.false)

-- ---- what the placing leaves was walked
pub dynamic_from-returns-in-Limit-value : goal.dynamic_from-returns-in-Limit-value
dynamic_from-returns-in-Limit-value m c = λ q a.
    let j = (goal.at.dynamic_from-returns-in-Limit-value m c).After-joined_steps-looked in
    sub-limit (dynamic_from-trying j q a) (sym (ap (verdict_outcome _) c.in-Limit-value.is) ∙ dynamic_from-said j q a)

-- ---- the placing is bad
pub dynamic_from-overflow_add-used : goal.dynamic_from-overflow_add-used
dynamic_from-overflow_add-used m c =
    let j = (goal.at.dynamic_from-overflow_add-used m c).After-joined_steps-looked in
    let there = dynamic_from-trying j _ (agree_same _ _) in
    omega (arith, c.ranges.limit.fits, sub_within there _ _ (sym (ap (verdict_outcome _) c.in-No.is) ∙ dynamic_from-said j _ (agree_same _ _)))

pub dynamic_from-loop-trials-smaller-then-asked : goal.dynamic_from-loop-trials-smaller-then-asked
dynamic_from-loop-trials-smaller-then-asked m c =
    let j = (goal.at.dynamic_from-loop-trials-smaller-then-asked m c).After-joined_steps-looked in
    let there = dynamic_from-trying j _ (agree_same _ _) in
    rw c.behind-line.ensures.1 there.fewer

pub dynamic_from-loop-trials-preserved-then-asked : goal.dynamic_from-loop-trials-preserved-then-asked
dynamic_from-loop-trials-preserved-then-asked m c =
    let j = (goal.at.dynamic_from-loop-trials-preserved-then-asked m c).After-joined_steps-looked in (
      λ q a. (
        (c.loop-trials.invariant.0 q (agree_left _ _ c.joined_steps-looked.ensures a)).0,
        going-as (sub-on (dynamic_from-trying j q a) _ _ (sym (ap (verdict_outcome _) c.in-No.is) ∙ dynamic_from-said j q a) _ refl) c.behind-line.ensures.0 c.behind-line.ensures.1,
      ),
      rw c.behind-line.ensures.0 (shown-same _ c.loop-trials.invariant.1),
    )

pub dynamic_from-returns-else-asked : goal.dynamic_from-returns-else-asked
dynamic_from-returns-else-asked m c = λ q a.
    c.all_bad.ensures
    ∙ ap (cut _) (dynamic-bad _ _ _ q _ _ c.if-left-eq0.false (omega arith) (alone-agree _ a (is-alone _ _ c.several.ensures c.if-several.false)) _ (c.loop-trials.invariant.0 q (agree_left _ _ c.joined_steps-looked.ensures a)).0 _ _
    (alike-by _ _ _ _ (λ u. sym (ap (verdict_outcome _) c.in-No.is) ∙ c.dynamic_from-sub.ensures _ (placed_alike _ (agree_right _ _ c.joined_steps-looked.ensures a) _ _ c.in-Move.v c.placed.ensures c.next_step-step.ensures (sym c.holds-asked.ensures ∙ c.if-asked.false) u))))

-- ---- the placing is good
pub dynamic_from-overflow_add-result : goal.dynamic_from-overflow_add-result
dynamic_from-overflow_add-result m c =
    let j = (goal.at.dynamic_from-overflow_add-result m c).After-joined_steps-looked in
    let there = dynamic_from-trying j _ (agree_same _ _) in
    omega (arith, c.ranges.limit.fits, sub_within there _ _ (sym (ap (verdict_outcome _) c.in-Yes.is) ∙ dynamic_from-said j _ (agree_same _ _)))

pub dynamic_from-returns-then-found-t : goal.dynamic_from-returns-then-found-t
dynamic_from-returns-then-found-t m c = λ q a.
    let j = (goal.at.dynamic_from-returns-then-found-t m c).After-joined_steps-looked in
    sub-done (dynamic_from-trying j q a) _ _ (sym (ap (verdict_outcome _) c.in-Yes.is) ∙ dynamic_from-said j q a) _ (enough-found _ _ _ _ c.if-found-t.true)

pub dynamic_from-overflow_add-found : goal.dynamic_from-overflow_add-found
dynamic_from-overflow_add-found m c = omega (arith, c.ranges.t.fits, c.loop-trials.invariant.1.few)

pub dynamic_from-overflow_add-used-then-asked-2 : goal.dynamic_from-overflow_add-used-then-asked-2
dynamic_from-overflow_add-used-then-asked-2 m c =
    let j = (goal.at.dynamic_from-overflow_add-used-then-asked-2 m c).After-joined_steps-looked in
    let there = dynamic_from-trying j _ (agree_same _ _) in
    omega (arith, c.ranges.limit.fits, sub_within there _ _ (sym (ap (verdict_outcome _) c.in-Yes.is) ∙ dynamic_from-said j _ (agree_same _ _)))

pub dynamic_from-loop-trials-smaller : goal.dynamic_from-loop-trials-smaller
dynamic_from-loop-trials-smaller m c =
    let j = (goal.at.dynamic_from-loop-trials-smaller m c).After-joined_steps-looked in
    let there = dynamic_from-trying j _ (agree_same _ _) in
    rw c.behind-line-then-asked-2.ensures.1 there.fewer

pub dynamic_from-loop-trials-preserved : goal.dynamic_from-loop-trials-preserved
dynamic_from-loop-trials-preserved m c =
    let j = (goal.at.dynamic_from-loop-trials-preserved m c).After-joined_steps-looked in
    let s = c.loop-trials.invariant.1 in
    let z = dynamic_from-trying j _ (agree_same _ _) in (
      λ q a. (
        (c.loop-trials.invariant.0 q (agree_left _ _ c.joined_steps-looked.ensures a)).0,
        going-as (sub-on (dynamic_from-trying j q a) _ _ (sym (ap (verdict_outcome _) c.in-Yes.is) ∙ dynamic_from-said j q a) _
            (one_found _ _ _ _ _ c.if-found-t.false (shown-sum s _ _ z.known z.listed c.with-shown.ensures))) c.behind-line-then-asked-2.ensures.0 c.behind-line-then-asked-2.ensures.1,
      ),
      rw c.behind-line-then-asked-2.ensures.0 (shown-more s _ _ z.known z.listed c.with-shown.ensures c.if-found-t.false),
    )

pub dynamic_from-returns-else-asked-2 : goal.dynamic_from-returns-else-asked-2
dynamic_from-returns-else-asked-2 m c = λ q a.
    c.all_good-else-asked-2.ensures
    ∙ ap (cut _) (dynamic-good _ _ _ q _ _ c.if-left-eq0.false (omega arith) (alone-agree _ a (is-alone _ _ c.several.ensures c.if-several.false)) _ (c.loop-trials.invariant.0 q (agree_left _ _ c.joined_steps-looked.ensures a)).0 _
    (alike-by _ _ _ _ (λ u. sym (ap (verdict_outcome _) c.in-Yes.is) ∙ c.dynamic_from-sub.ensures _ (placed_alike _ (agree_right _ _ c.joined_steps-looked.ensures a) _ _ c.in-Move.v c.placed.ensures c.next_step-step.ensures (sym c.holds-asked.ensures ∙ c.if-asked-2.false) u))))
