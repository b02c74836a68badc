-- The turns of the one-shot game before the strike call for each other until no step is left: the away side's, and the desk's, which goes along one line where
use mathlib.Core.Path.{◌≡◌, refl, sym, ap, ◌∙◌}
use mathlib.Core.Option.{none, some}
use native.Mathlib.Omega.{arith}
use Prim.Native.Nat.{ℕ, ◌-◌}
use Rattle.sets.specs.Stored.{number}
use Rattle.games.specs.Walks.{one_shot}
use Rattle.games.specs.Limit.{cut}
use Rattle.cases.specs.declared.Filled.{Filled}
use Rattle.boards.specs.Arena.{put_on, board_arena}
use Rattle.boards.specs.Looked.{Agree}
use Rattle.boards.proofs.Looked.{agree_same, agree_left, agree_right}
use Rattle.lines.specs.Moves.{line_at}
use Rattle.lines.proofs.Scans as many
use Rattle.tries.specs.Outcomes.{verdict_outcome, turn_outcome, pass_on}
use Rattle.tries.specs.Trying.{step_on}
use Rattle.games.proofs.Cuts.{finished, ends, first-limit, first-got, first-none}
use Rattle.tries.proofs.Scans.{Trying, try-limit, try-nobody, try-person, sub-limit, sub_within, sub-done, sub-on}
use Rattle.tries.proofs.Turns.{above_zero, some_left, nobody-shown, pass_hunt, pass-going, one_shot-full, one_shot-turn}
use Rattle.tries.proofs.Alike.{going-as, alike-by, alike-limit, alike_all}
use Rattle.tries.proofs.Agreeing.{is-alone, alone-agree, placed-agree, placed_alike}
use Rattle.tries.proofs.Choosing as choosing
use Rattle.strikes.proofs.+one_shot_from_pass_choice_pass_turn.Goals as goal
use Rattle.strikes.proofs.+one_shot_from_pass_choice_pass_turn.Goals.{pass_turn-After-joined_steps-looked, pass_choice-After-joined_steps-looked}

-- ---- pass_turn: a person was tried, and the walk after the placing has ended

pass_turn-trying : {t : ℕ} (c : pass_turn-After-joined_steps-looked t) (q : Filled) → Agree c.joined_steps-looked.result c.args.p q
    → Trying (pass_hunt c.args.board.now.words c.args.board.now.people c.args.t (c.args.left - 1) q) (pass_on c.args.board.now.words c.args.board.now.people c.args.t (c.args.left - 1) q) c.args.limit (number c.loop-trials.line.tried) (number c.loop-trials.line.fit) c.in-Move.v.0 c.in-Move.trials tt
pass_turn-trying c q a = try-person (c.loop-trials.invariant q (agree_left _ _ c.joined_steps-looked.ensures a)) _ _ c.in-Move.ensures

pass_turn-said : {t : ℕ} (c : pass_turn-After-joined_steps-looked t) (q : Filled) → Agree c.joined_steps-looked.result c.args.p q
    → verdict_outcome (c.args.limit - c.in-Move.trials) c.one_shot_from-sub.result.value ≡ cut (c.args.limit - c.in-Move.trials) (one_shot (board_arena c.args.board.now.words c.args.board.now.people) c.args.t (c.args.left - 1) (put_on q c.in-Move.v.0 (step_on c.args.board.now.words q)))
pass_turn-said c q a = c.one_shot_from-sub.ensures _ (placed-agree _ (agree_right _ _ c.joined_steps-looked.ensures a) _ _ _ c.placed.ensures c.next_step-step.ensures)

-- ---- pass_choice: a move was tried, and the walk after it has ended

pass_choice-trying : {t : ℕ} (c : pass_choice-After-joined_steps-looked t) (q : Filled) → Agree c.joined_steps-looked.result c.args.p q
    → many.Trying (choosing.pass_hunt c.args.board.now.words c.args.board.now.people q c.lines_up-choices.result.value c.args.t (c.args.left - 1)) c.lines_up-choices.result.value (pass_on c.args.board.now.words c.args.board.now.people c.args.t (c.args.left - 1) q) c.args.limit c.loop-trials.at c.in-Move.m c.in-Move.trials tt
pass_choice-trying c q a = many.try-move (c.loop-trials.invariant q (agree_left _ _ c.joined_steps-looked.ensures a)) _ _ c.in-Move.ensures

pass_choice-said : {t : ℕ} (c : pass_choice-After-joined_steps-looked t) (q : Filled) → Agree c.joined_steps-looked.result c.args.p q
    → verdict_outcome (c.args.limit - c.in-Move.trials) c.one_shot_from-sub.result.value ≡ cut (c.args.limit - c.in-Move.trials) (one_shot (board_arena c.args.board.now.words c.args.board.now.people) c.args.t (c.args.left - 1) (choosing.leaves c.args.board.now.words c.args.board.now.people q c.lines_up-choices.result.value c.in-Move.m))
unfolding line_at
pass_choice-said c q a = c.one_shot_from-sub.ensures _ (choosing.move-agree (agree_right _ _ c.joined_steps-looked.ensures a) _ _ _ c.in-Move.m c.placed.ensures refl)

pub one_shot_from-returns-then-left-eq0 : goal.one_shot_from-returns-then-left-eq0
one_shot_from-returns-then-left-eq0 t c = λ q a. ends _ _ none 0 (one_shot-full _ _ q c.if-left-eq0.true _) (omega arith)

pub one_shot_from-pass_turn-passed-requires : goal.one_shot_from-pass_turn-passed-requires
one_shot_from-pass_turn-passed-requires t c = (omega arith, above_zero c.if-left-eq0.false)

pub one_shot_from-then_strikes-struck-requires : goal.one_shot_from-then_strikes-struck-requires
one_shot_from-then_strikes-struck-requires t c =
    (finished _ _ _ _ (sym (ap (turn_outcome _ _) c.in-Holds.is) ∙ (c.pass_turn-passed.ensures _ (agree_same _ _)))).within

pub one_shot_from-returns-in-Limit : goal.one_shot_from-returns-in-Limit
one_shot_from-returns-in-Limit t c = λ q a.
    let told = sym (ap (turn_outcome _ _) c.in-Limit.is) ∙ (c.pass_turn-passed.ensures q a) in
    first-limit _ _ _ told ∙ ap (cut _) (one_shot-turn _ _ _ _ q c.if-left-eq0.false)

pub one_shot_from-returns-in-Beaten : goal.one_shot_from-returns-in-Beaten
one_shot_from-returns-in-Beaten t c = λ q a.
    let told = sym (ap (turn_outcome _ _) c.in-Beaten.is) ∙ (c.pass_turn-passed.ensures q a) in
    rw (nobody-shown c.none.ensures)
    (first-got _ _ _ _ _ told ∙ ap (cut _) (one_shot-turn _ _ _ _ q c.if-left-eq0.false))

pub one_shot_from-returns-in-Holds : goal.one_shot_from-returns-in-Holds
one_shot_from-returns-in-Holds t c = λ q a.
    let holds = sym (ap (turn_outcome _ _) c.in-Holds.is) ∙ (c.pass_turn-passed.ensures q (agree_left _ _ c.joined_steps.ensures a)) in
    c.then_strikes-struck.ensures q (agree_right _ _ c.joined_steps.ensures a)
    ∙ ap (cut _) (sym (first-none _ _ _ _ holds) ∙ one_shot-turn _ _ _ _ q c.if-left-eq0.false)

pub pass_turn-pass_choice-requires : goal.pass_turn-pass_choice-requires
pass_turn-pass_choice-requires t c = (omega arith, c.requires)

pub pass_turn-loop-trials-init : goal.pass_turn-loop-trials-init
pass_turn-loop-trials-init t c = λ q a.
    pass-going _ _ _ _ _ _ _ (omega arith)
    (alone-agree _ a (is-alone _ _ c.several.ensures c.if-several.false)) _ (rw (nobody-shown c.none.ensures) at (c.line_up-lined.ensures q a))

pub pass_turn-next_try-requires : goal.pass_turn-next_try-requires
pass_turn-next_try-requires t c = (c.loop-trials.invariant _ (agree_same _ _)).enough

pub pass_turn-returns-in-Limit : goal.pass_turn-returns-in-Limit
pass_turn-returns-in-Limit t c = λ q a. try-limit (c.loop-trials.invariant q a) c.in-Limit.ensures

pub pass_turn-returns-in-Nobody : goal.pass_turn-returns-in-Nobody
pass_turn-returns-in-Nobody t c = λ q a.
    try-nobody (c.loop-trials.invariant q a) _ c.in-Nobody.ensures

pub pass_turn-overflow_sub-limit : goal.pass_turn-overflow_sub-limit
pass_turn-overflow_sub-limit t c =
    omega (arith, (try-person (c.loop-trials.invariant _ (agree_same _ _)) _ _ c.in-Move.ensures).enough)

pub pass_turn-one_shot_from-sub-requires : goal.pass_turn-one_shot_from-sub-requires
pass_turn-one_shot_from-sub-requires t c = omega (arith, c.requires)

pub pass_turn-returns-in-Limit-value : goal.pass_turn-returns-in-Limit-value
pass_turn-returns-in-Limit-value t c = λ q a.
    let j = (goal.at.pass_turn-returns-in-Limit-value t c).After-joined_steps-looked in
    sub-limit (pass_turn-trying j q a) (sym (ap (verdict_outcome _) c.in-Limit-value.is) ∙ pass_turn-said j q a)

pub pass_turn-overflow_add-result : goal.pass_turn-overflow_add-result
pass_turn-overflow_add-result t c =
    let j = (goal.at.pass_turn-overflow_add-result t c).After-joined_steps-looked in
    let e = sym (ap (verdict_outcome _) c.in-Yes.is) ∙ pass_turn-said j _ (agree_same _ _) in
    omega (arith, c.ranges.limit.fits, sub_within (pass_turn-trying j _ (agree_same _ _)) _ _ e)

pub pass_turn-returns-in-Yes : goal.pass_turn-returns-in-Yes
pass_turn-returns-in-Yes t c = λ q a.
    let j = (goal.at.pass_turn-returns-in-Yes t c).After-joined_steps-looked in
    sub-done (pass_turn-trying j q a) _ _ (sym (ap (verdict_outcome _) c.in-Yes.is) ∙ pass_turn-said j q a) _ refl

pub pass_turn-overflow_add-used : goal.pass_turn-overflow_add-used
pass_turn-overflow_add-used t c =
    let j = (goal.at.pass_turn-overflow_add-used t c).After-joined_steps-looked in
    let e = sym (ap (verdict_outcome _) c.in-No.is) ∙ pass_turn-said j _ (agree_same _ _) in
    omega (arith, c.ranges.limit.fits, sub_within (pass_turn-trying j _ (agree_same _ _)) _ _ e)

pub pass_turn-returns-in-None : goal.pass_turn-returns-in-None
pass_turn-returns-in-None t c = λ q a.
    let j = (goal.at.pass_turn-returns-in-None t c).After-joined_steps-looked in
    let same = agree_right _ _ c.joined_steps-looked.ensures a in
    let beaten = sym (ap (verdict_outcome _) c.in-No.is) ∙ pass_turn-said j q a in
    let on = sub-on (pass_turn-trying j q a) _ _ beaten _ refl in
    let behind = going-as on c.behind-line.ensures.0 c.behind-line.ensures.1 in
    let unasked = sym c.holds-asked.ensures ∙ c.if-not-asked.true in
    let alike = alike-by _ _ (some _) _ (λ u. sym (ap (verdict_outcome _) c.in-No.is) ∙ (c.one_shot_from-sub.ensures _ (placed_alike _ same _ _ _ c.placed.ensures c.next_step-step.ensures unasked u))) in
    alike-limit alike (λ u. refl) behind c.in-None.ensures

pub pass_turn-returns-in-Some : goal.pass_turn-returns-in-Some
pass_turn-returns-in-Some t c = λ q a.
    let j = (goal.at.pass_turn-returns-in-Some t c).After-joined_steps-looked in
    let same = agree_right _ _ c.joined_steps-looked.ensures a in
    let beaten = sym (ap (verdict_outcome _) c.in-No.is) ∙ pass_turn-said j q a in
    let on = sub-on (pass_turn-trying j q a) _ _ beaten _ refl in
    let behind = going-as on c.behind-line.ensures.0 c.behind-line.ensures.1 in
    let unasked = sym c.holds-asked.ensures ∙ c.if-not-asked.true in
    let alike = alike-by _ _ (some _) _ (λ u. sym (ap (verdict_outcome _) c.in-No.is) ∙ (c.one_shot_from-sub.ensures _ (placed_alike _ same _ _ _ c.placed.ensures c.next_step-step.ensures unasked u))) in
    alike_all alike (λ u. refl) behind _ c.in-Some.ensures

pub pass_turn-loop-trials-smaller : goal.pass_turn-loop-trials-smaller
pass_turn-loop-trials-smaller t c =
    let j = (goal.at.pass_turn-loop-trials-smaller t c).After-joined_steps-looked in
    rw c.behind-line.ensures.1 (pass_turn-trying j _ (agree_same _ _)).fewer

pub pass_turn-loop-trials-preserved : goal.pass_turn-loop-trials-preserved
pass_turn-loop-trials-preserved t c = λ q a.
    let j = (goal.at.pass_turn-loop-trials-preserved t c).After-joined_steps-looked in
    let told_2 = sym (ap (verdict_outcome _) c.in-No.is) ∙ pass_turn-said j q a in
    going-as (sub-on (pass_turn-trying j q a) _ _ told_2 _ refl) c.behind-line.ensures.0 c.behind-line.ensures.1

pub pass_choice-loop-trials-init : goal.pass_choice-loop-trials-init
pass_choice-loop-trials-init t c = λ q a.
    choosing.pass-choosing _ _ _ _ _ _ (some_left c.requires) (omega arith) c.lines_up-choices.ensures.few (c.lines_up-choices.ensures.lines q a) _

pub pass_choice-next_move-requires : goal.pass_choice-next_move-requires
pass_choice-next_move-requires t c = (omega (arith, c.lines_up-choices.ensures.few), (c.loop-trials.invariant _ (agree_same _ _)).enough)

pub pass_choice-returns-in-Limit : goal.pass_choice-returns-in-Limit
pass_choice-returns-in-Limit t c = λ q a. many.try-limit (c.loop-trials.invariant q a) c.in-Limit.ensures

pub pass_choice-returns-in-Nobody : goal.pass_choice-returns-in-Nobody
pass_choice-returns-in-Nobody t c = λ q a.
    many.try-nobody (c.loop-trials.invariant q a) _ c.in-Nobody.ensures

pub pass_choice-bounds-lines-m : goal.pass_choice-bounds-lines-m
pass_choice-bounds-lines-m t c =
    let there = many.try-move (c.loop-trials.invariant _ (agree_same _ _)) _ _ c.in-Move.ensures in
    omega (arith, there.found.listed, c.lines_up-choices.ensures.few)

pub pass_choice-overflow_sub-limit : goal.pass_choice-overflow_sub-limit
pass_choice-overflow_sub-limit t c =
    omega (arith, (many.try-move (c.loop-trials.invariant _ (agree_same _ _)) _ _ c.in-Move.ensures).enough)

pub pass_choice-one_shot_from-sub-requires : goal.pass_choice-one_shot_from-sub-requires
pass_choice-one_shot_from-sub-requires t c =
    omega (arith, c.requires)

pub pass_choice-returns-in-Limit-value : goal.pass_choice-returns-in-Limit-value
pass_choice-returns-in-Limit-value t c = λ q a.
    let j = (goal.at.pass_choice-returns-in-Limit-value t c).After-joined_steps-looked in
    many.sub-limit (pass_choice-trying j q a) (sym (ap (verdict_outcome _) c.in-Limit-value.is) ∙ pass_choice-said j q a)

pub pass_choice-overflow_add-result : goal.pass_choice-overflow_add-result
pass_choice-overflow_add-result t c =
    let j = (goal.at.pass_choice-overflow_add-result t c).After-joined_steps-looked in
    let e = sym (ap (verdict_outcome _) c.in-Yes.is) ∙ pass_choice-said j _ (agree_same _ _) in
    omega (arith, c.ranges.limit.fits, many.sub_within (pass_choice-trying j _ (agree_same _ _)) _ _ e)

pub pass_choice-returns-in-Yes : goal.pass_choice-returns-in-Yes
pass_choice-returns-in-Yes t c = λ q a.
    let j = (goal.at.pass_choice-returns-in-Yes t c).After-joined_steps-looked in
    many.sub-done (pass_choice-trying j q a) _ _ (sym (ap (verdict_outcome _) c.in-Yes.is) ∙ pass_choice-said j q a) _ refl

pub pass_choice-overflow_add-used : goal.pass_choice-overflow_add-used
pass_choice-overflow_add-used t c =
    let j = (goal.at.pass_choice-overflow_add-used t c).After-joined_steps-looked in
    let e = sym (ap (verdict_outcome _) c.in-No.is) ∙ pass_choice-said j _ (agree_same _ _) in
    omega (arith, c.ranges.limit.fits, many.sub_within (pass_choice-trying j _ (agree_same _ _)) _ _ e)

pub pass_choice-overflow_add-at : goal.pass_choice-overflow_add-at
pass_choice-overflow_add-at t c =
    let there = many.try-move (c.loop-trials.invariant _ (agree_same _ _)) _ _ c.in-Move.ensures in
    omega (arith, there.found.listed, c.lines_up-choices.ensures.few)

pub pass_choice-loop-trials-smaller : goal.pass_choice-loop-trials-smaller
pass_choice-loop-trials-smaller t c =
    let j = (goal.at.pass_choice-loop-trials-smaller t c).After-joined_steps-looked in
    (pass_choice-trying j _ (agree_same _ _)).fewer-own

pub pass_choice-loop-trials-preserved : goal.pass_choice-loop-trials-preserved
pass_choice-loop-trials-preserved t c = λ q a.
    let j = (goal.at.pass_choice-loop-trials-preserved t c).After-joined_steps-looked in
    many.sub-on (pass_choice-trying j q a) _ _ (sym (ap (verdict_outcome _) c.in-No.is) ∙ pass_choice-said j q a) _ refl
