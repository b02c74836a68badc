-- The two turns of the decremental game call for each other until no step is left: where one step is ready along one line, else among lines of moves.
use mathlib.Core.Path.{◌≡◌, refl, sym, ap, ◌∙◌}
use mathlib.Core.Option.{none}
use native.Mathlib.Omega.{arith}
use Prim.Native.Nat.{ℕ, ◌-◌}
use Rattle.sets.specs.Stored.{number}
use Rattle.games.specs.Walks.{decremental}
use Rattle.games.specs.Limit.{cut}
use Rattle.cases.specs.declared.Filled.{Filled}
use Rattle.boards.specs.Arena.{put_on, board_arena}
use Rattle.boards.specs.Looked.{Agree}
use Rattle.boards.proofs.Looked.{agree_same, agree_left, agree_right}
use Rattle.lines.specs.Moves.{line_at}
use Rattle.lines.proofs.Scans as many
use Rattle.tries.specs.Outcomes.{verdict_outcome, turn_outcome, beats_on}
use Rattle.tries.specs.Trying.{step_on}
use Rattle.games.proofs.Cuts.{ends}
use Rattle.tries.proofs.Lines.{line-without}
use Rattle.tries.proofs.Scans.{Trying, try-limit, try-nobody, try-person, sub-limit, sub_within, sub-done, sub-on}
use Rattle.tries.proofs.Sweeps.{Sweep, sweep-known, sweep-few, sweep-limit, sweep-beats, sweep-beaten, sweep-within, sweep-end, sweep-on, sweep-higher}
use Rattle.tries.proofs.Turns.{above_zero, some_left, nobody-shown, gone-walk, desk_hunt, desk-going, decremental-full, away-going, next-some, next-none}
use Rattle.tries.proofs.Alike.{going-as, alike-by, alike-limit, alike_all}
use Rattle.tries.proofs.Agreeing.{is-alone, alone-agree, placed-agree, placed_alike}
use Rattle.tries.proofs.Choosing as choosing
use Rattle.reckoning.proofs.Answers.{told-for-all}
use Rattle.losses.proofs.+away_choice_away_from_desk_choice_desk_turn.Goals as goal
use Rattle.losses.proofs.+away_choice_away_from_desk_choice_desk_turn.Goals.{away_from-After-joined_steps-looked, away_choice-After-joined_steps-looked, desk_turn-After-joined_steps-looked, desk_choice-After-joined_steps-looked}

-- ---- away_from: the desk has had its turn

away_from-going : {t : ℕ} (c : away_from-After-joined_steps-looked t) (q : Filled) → Agree c.joined_steps-looked.result c.args.p q
    → Sweep (beats_on c.args.board.now.words c.args.board.now.people c.args.t (c.args.left - 1) q) (decremental (board_arena c.args.board.now.words c.args.board.now.people) c.args.t c.args.left (number c.args.away) q) c.args.board.now.people c.args.t (number c.args.away) c.args.limit (number c.loop-trials.gone) c.loop-trials.used
away_from-going c q a = c.loop-trials.invariant q (agree_left _ _ c.joined_steps-looked.ensures a)

away_from-said : {t : ℕ} (c : away_from-After-joined_steps-looked t) (q : Filled) → Agree c.joined_steps-looked.result c.args.p q
    → turn_outcome (c.args.limit - c.loop-trials.used) (number c.loop-trials.gone) c.desk_turn-turned.result.value ≡ cut (c.args.limit - c.loop-trials.used) (beats_on c.args.board.now.words c.args.board.now.people c.args.t (c.args.left - 1) q (number c.loop-trials.gone))
away_from-said c q a = c.desk_turn-turned.ensures q (agree_right _ _ c.joined_steps-looked.ensures a)

-- ---- away_choice: the same

away_choice-going : {t : ℕ} (c : away_choice-After-joined_steps-looked t) (q : Filled) → Agree c.joined_steps-looked.result c.args.p q
    → Sweep (beats_on c.args.board.now.words c.args.board.now.people c.args.t (c.args.left - 1) q) (decremental (board_arena c.args.board.now.words c.args.board.now.people) c.args.t c.args.left (number c.args.away) q) c.args.board.now.people c.args.t (number c.args.away) c.args.limit (number c.loop-trials.gone) c.loop-trials.used
away_choice-going c q a = c.loop-trials.invariant q (agree_left _ _ c.joined_steps-looked.ensures a)

away_choice-said : {t : ℕ} (c : away_choice-After-joined_steps-looked t) (q : Filled) → Agree c.joined_steps-looked.result c.args.p q
    → turn_outcome (c.args.limit - c.loop-trials.used) (number c.loop-trials.gone) c.desk_choice-turned.result.value ≡ cut (c.args.limit - c.loop-trials.used) (beats_on c.args.board.now.words c.args.board.now.people c.args.t (c.args.left - 1) q (number c.loop-trials.gone))
away_choice-said c q a = c.desk_choice-turned.ensures q (agree_right _ _ c.joined_steps-looked.ensures a)

-- ---- desk_turn: a person was tried, and the walk after the placing has ended

desk_turn-trying : {t : ℕ} (c : desk_turn-After-joined_steps-looked t) (q : Filled) → Agree c.joined_steps-looked.result c.args.p q
    → Trying (desk_hunt c.args.board.now.words c.args.board.now.people c.args.t (number c.args.away) (c.args.left - 1) q) (beats_on c.args.board.now.words c.args.board.now.people c.args.t (c.args.left - 1) q (number c.args.away)) c.args.limit (number c.loop-trials.line.tried) (number c.loop-trials.line.fit) c.in-Move.v.0 c.in-Move.trials tt
desk_turn-trying c q a = try-person (c.loop-trials.invariant q (agree_left _ _ c.joined_steps-looked.ensures a)) _ _ c.in-Move.ensures

desk_turn-said : {t : ℕ} (c : desk_turn-After-joined_steps-looked t) (q : Filled) → Agree c.joined_steps-looked.result c.args.p q
    → verdict_outcome (c.args.limit - c.in-Move.trials) c.away_from-sub.result.value ≡ cut (c.args.limit - c.in-Move.trials) (decremental (board_arena c.args.board.now.words c.args.board.now.people) c.args.t (c.args.left - 1) (number c.args.away) (put_on q c.in-Move.v.0 (step_on c.args.board.now.words q)))
desk_turn-said c q a = c.away_from-sub.ensures _ (placed-agree _ (agree_right _ _ c.joined_steps-looked.ensures a) _ _ _ c.placed.ensures c.requires.3)

-- ---- desk_choice: a move was tried, and the walk after it has ended

desk_choice-trying : {t : ℕ} (c : desk_choice-After-joined_steps-looked t) (q : Filled) → Agree c.joined_steps-looked.result c.args.p q
    → many.Trying (choosing.desk_hunt c.args.board.now.words c.args.board.now.people q c.without-lines.result c.args.t (number c.args.away) (c.args.left - 1)) c.without-lines.result (beats_on c.args.board.now.words c.args.board.now.people c.args.t (c.args.left - 1) q (number c.args.away)) c.args.limit c.loop-trials.at c.in-Move.m c.in-Move.trials tt
desk_choice-trying c q a = many.try-move (c.loop-trials.invariant q (agree_left _ _ c.joined_steps-looked.ensures a)) _ _ c.in-Move.ensures

desk_choice-said : {t : ℕ} (c : desk_choice-After-joined_steps-looked t) (q : Filled) → Agree c.joined_steps-looked.result c.args.p q
    → verdict_outcome (c.args.limit - c.in-Move.trials) c.away_from-sub.result.value ≡ cut (c.args.limit - c.in-Move.trials) (decremental (board_arena c.args.board.now.words c.args.board.now.people) c.args.t (c.args.left - 1) (number c.args.away) (choosing.leaves c.args.board.now.words c.args.board.now.people q c.without-lines.result c.in-Move.m))
unfolding line_at
desk_choice-said c q a = c.away_from-sub.ensures _ (choosing.move-agree (agree_right _ _ c.joined_steps-looked.ensures a) _ _ _ c.in-Move.m c.placed.ensures refl)

pub away_from-returns-then-left-eq0 : goal.away_from-returns-then-left-eq0
away_from-returns-then-left-eq0 t c = λ q a. ends _ _ none 0 (decremental-full _ _ q c.if-left-eq0.true _ _) (omega arith)

pub away_from-returns-then-size-t : goal.away_from-returns-then-size-t
away_from-returns-then-size-t t c = λ q a.
    c.all_gone.ensures q a ∙ ap (cut _) (gone-walk _ _ _ _ _ _ q (omega arith) c.requires.0 c.size.ensures c.if-size-t.true)

pub away_from-away_choice-requires : goal.away_from-away_choice-requires
away_from-away_choice-requires t c =
    (omega arith, (above_zero c.if-left-eq0.false, c.requires.0, c.requires.1))

pub away_from-loop-trials-init : goal.away_from-loop-trials-init
away_from-loop-trials-init t c = λ q a.
    away-going _ _ _ _ _ _ q c.if-left-eq0.false c.requires.0 c.requires.1

pub away_from-overflow_sub-limit : goal.away_from-overflow_sub-limit
away_from-overflow_sub-limit t c = omega (arith, (c.loop-trials.invariant _ (agree_same _ _)).enough)

pub away_from-desk_turn-turned-requires : goal.away_from-desk_turn-turned-requires
away_from-desk_turn-turned-requires t c =
    let s = c.loop-trials.invariant _ (agree_same _ _) in (
      omega arith,
      (
        above_zero c.if-left-eq0.false,
        omega (arith, sweep-known s),
        omega (arith, sweep-few s),
        c.next_step-step.ensures,
        is-alone _ _ c.several.ensures c.if-several.false,
        rw (nobody-shown c.none.ensures) at c.line_up-lined.ensures,
      ),
    )

pub away_from-returns-in-Limit : goal.away_from-returns-in-Limit
away_from-returns-in-Limit t c = λ q a.
    let j = (goal.at.away_from-returns-in-Limit t c).After-joined_steps-looked in
    sweep-limit (away_from-going j q a) (sym (ap (turn_outcome _ _) c.in-Limit.is) ∙ away_from-said j q a)

pub away_from-overflow_add-result : goal.away_from-overflow_add-result
away_from-overflow_add-result t c =
    let j = (goal.at.away_from-overflow_add-result t c).After-joined_steps-looked in
    omega (arith, c.ranges.limit.fits, sweep-beats (away_from-going j _ (agree_same _ _)) _ _ (sym (ap (turn_outcome _ _) c.in-Beaten.is) ∙ away_from-said j _ (agree_same _ _)))

pub away_from-returns-in-Beaten : goal.away_from-returns-in-Beaten
away_from-returns-in-Beaten t c = λ q a.
    let j = (goal.at.away_from-returns-in-Beaten t c).After-joined_steps-looked in
    sweep-beaten (away_from-going j q a) _ _ (sym (ap (turn_outcome _ _) c.in-Beaten.is) ∙ away_from-said j q a)

pub away_from-overflow_add-used : goal.away_from-overflow_add-used
away_from-overflow_add-used t c =
    let j = (goal.at.away_from-overflow_add-used t c).After-joined_steps-looked in
    omega (arith, c.ranges.limit.fits, sweep-within (away_from-going j _ (agree_same _ _)) _ (sym (ap (turn_outcome _ _) c.in-Holds.is) ∙ away_from-said j _ (agree_same _ _)))

pub away_from-returns-in-None : goal.away_from-returns-in-None
away_from-returns-in-None t c = λ q a.
    let j = (goal.at.away_from-returns-in-None t c).After-joined_steps-looked in
    let told = sym (ap (turn_outcome _ _) c.in-Holds.is) ∙ away_from-said j q a in
    sweep-end (away_from-going j q a) _ told (next-none _ _ _ _ (omega arith) c.in-None.is c.next.ensures)

pub away_from-loop-trials-smaller-then-used-reckon_from : goal.away_from-loop-trials-smaller-then-used-reckon_from
away_from-loop-trials-smaller-then-used-reckon_from t c =
    let j = (goal.at.away_from-loop-trials-smaller-then-used-reckon_from t c).After-joined_steps-looked in
    let larger = next-some _ _ _ _ (omega arith) c.in-Some.is c.next.ensures in
    let s = (away_from-going j _ (agree_same _ _)) in
    omega (arith, sweep-known s, sweep-higher s _ larger)

pub away_from-loop-trials-preserved-then-used-reckon_from : goal.away_from-loop-trials-preserved-then-used-reckon_from
away_from-loop-trials-preserved-then-used-reckon_from t c = λ q a.
    let j = (goal.at.away_from-loop-trials-preserved-then-used-reckon_from t c).After-joined_steps-looked in
    let larger = next-some _ _ _ _ (omega arith) c.in-Some.is c.next.ensures in
    sweep-on (away_from-going j q a) _ (sym (ap (turn_outcome _ _) c.in-Holds.is) ∙ away_from-said j q a) _ larger

pub away_from-returns-in-Some-away_trials : goal.away_from-returns-in-Some-away_trials
away_from-returns-in-Some-away_trials t c =
    told-for-all (λ q. decremental (board_arena c.args.board.now.words c.args.board.now.people) c.args.t c.args.left (number c.args.away) q) _ _ _ c.away_trials.ensures
    c.in-Some-away_trials.is c.tell.ensures

pub away_from-loop-trials-smaller : goal.away_from-loop-trials-smaller
away_from-loop-trials-smaller t c =
    let j = (goal.at.away_from-loop-trials-smaller t c).After-joined_steps-looked in
    let larger = next-some _ _ _ _ (omega arith) c.in-Some.is c.next.ensures in
    let s = (away_from-going j _ (agree_same _ _)) in
    omega (arith, sweep-known s, sweep-higher s _ larger)

pub away_from-loop-trials-preserved : goal.away_from-loop-trials-preserved
away_from-loop-trials-preserved t c = λ q a.
    let j = (goal.at.away_from-loop-trials-preserved t c).After-joined_steps-looked in
    let larger = next-some _ _ _ _ (omega arith) c.in-Some.is c.next.ensures in
    sweep-on (away_from-going j q a) _ (sym (ap (turn_outcome _ _) c.in-Holds.is) ∙ away_from-said j q a) _ larger

pub desk_turn-loop-trials-init : goal.desk_turn-loop-trials-init
desk_turn-loop-trials-init t c = λ q a.
    desk-going _ _ _ q _ _ _ (omega arith) (alone-agree _ a c.requires.4) _ _ (line-without _ _ _ (c.requires.5 q a) c.without-line.ensures.0 c.without-line.ensures.1)

pub desk_turn-next_try-requires : goal.desk_turn-next_try-requires
desk_turn-next_try-requires t c = (c.loop-trials.invariant _ (agree_same _ _)).enough

pub desk_turn-returns-in-Limit : goal.desk_turn-returns-in-Limit
desk_turn-returns-in-Limit t c = λ q a. try-limit (c.loop-trials.invariant q a) c.in-Limit.ensures

pub desk_turn-returns-in-Nobody : goal.desk_turn-returns-in-Nobody
desk_turn-returns-in-Nobody t c = λ q a.
    try-nobody (c.loop-trials.invariant q a) _ c.in-Nobody.ensures

pub desk_turn-overflow_sub-limit : goal.desk_turn-overflow_sub-limit
desk_turn-overflow_sub-limit t c =
    omega (arith, (try-person (c.loop-trials.invariant _ (agree_same _ _)) _ _ c.in-Move.ensures).enough)

pub desk_turn-away_from-sub-requires : goal.desk_turn-away_from-sub-requires
desk_turn-away_from-sub-requires t c =
    (omega (arith, c.requires.0), (c.requires.1, c.requires.2))

pub desk_turn-returns-in-Limit-value : goal.desk_turn-returns-in-Limit-value
desk_turn-returns-in-Limit-value t c = λ q a.
    let j = (goal.at.desk_turn-returns-in-Limit-value t c).After-joined_steps-looked in
    sub-limit (desk_turn-trying j q a) (sym (ap (verdict_outcome _) c.in-Limit-value.is) ∙ desk_turn-said j q a)

pub desk_turn-overflow_add-result : goal.desk_turn-overflow_add-result
desk_turn-overflow_add-result t c =
    let j = (goal.at.desk_turn-overflow_add-result t c).After-joined_steps-looked in
    let told_2 = sym (ap (verdict_outcome _) c.in-Yes.is) ∙ desk_turn-said j _ (agree_same _ _) in
    omega (arith, c.ranges.limit.fits, sub_within (desk_turn-trying j _ (agree_same _ _)) _ _ told_2)

pub desk_turn-returns-in-Yes : goal.desk_turn-returns-in-Yes
desk_turn-returns-in-Yes t c = λ q a.
    let j = (goal.at.desk_turn-returns-in-Yes t c).After-joined_steps-looked in
    sub-done (desk_turn-trying j q a) _ _ (sym (ap (verdict_outcome _) c.in-Yes.is) ∙ desk_turn-said j q a) _ refl

pub desk_turn-overflow_add-used : goal.desk_turn-overflow_add-used
desk_turn-overflow_add-used t c =
    let j = (goal.at.desk_turn-overflow_add-used t c).After-joined_steps-looked in
    let told_2 = sym (ap (verdict_outcome _) c.in-No.is) ∙ desk_turn-said j _ (agree_same _ _) in
    omega (arith, c.ranges.limit.fits, sub_within (desk_turn-trying j _ (agree_same _ _)) _ _ told_2)

pub desk_turn-returns-in-None : goal.desk_turn-returns-in-None
desk_turn-returns-in-None t c = λ q a.
    let j = (goal.at.desk_turn-returns-in-None t c).After-joined_steps-looked in
    let same = agree_right _ _ c.joined_steps-looked.ensures a in
    let beaten = sym (ap (verdict_outcome _) c.in-No.is) ∙ desk_turn-said j q a in
    let on = sub-on (desk_turn-trying j q a) _ _ beaten _ refl in
    let behind = going-as on c.behind-line.ensures.0 c.behind-line.ensures.1 in
    let unasked = sym c.holds-asked.ensures ∙ c.if-not-asked.true in
    let alike = alike-by _ _ _ _ (λ u. sym (ap (verdict_outcome _) c.in-No.is) ∙ (c.away_from-sub.ensures _ (placed_alike _ same _ _ _ c.placed.ensures c.requires.3 unasked u))) in
    alike-limit alike (λ u. refl) behind c.in-None.ensures

pub desk_turn-returns-in-Some : goal.desk_turn-returns-in-Some
desk_turn-returns-in-Some t c = λ q a.
    let j = (goal.at.desk_turn-returns-in-Some t c).After-joined_steps-looked in
    let same = agree_right _ _ c.joined_steps-looked.ensures a in
    let beaten = sym (ap (verdict_outcome _) c.in-No.is) ∙ desk_turn-said j q a in
    let on = sub-on (desk_turn-trying j q a) _ _ beaten _ refl in
    let behind = going-as on c.behind-line.ensures.0 c.behind-line.ensures.1 in
    let unasked = sym c.holds-asked.ensures ∙ c.if-not-asked.true in
    let alike = alike-by _ _ _ _ (λ u. sym (ap (verdict_outcome _) c.in-No.is) ∙ (c.away_from-sub.ensures _ (placed_alike _ same _ _ _ c.placed.ensures c.requires.3 unasked u))) in
    alike_all alike (λ u. refl) behind _ c.in-Some.ensures

pub desk_turn-loop-trials-smaller : goal.desk_turn-loop-trials-smaller
desk_turn-loop-trials-smaller t c =
    let j = (goal.at.desk_turn-loop-trials-smaller t c).After-joined_steps-looked in
    rw c.behind-line.ensures.1 (desk_turn-trying j _ (agree_same _ _)).fewer

pub desk_turn-loop-trials-preserved : goal.desk_turn-loop-trials-preserved
desk_turn-loop-trials-preserved t c = λ q a.
    let j = (goal.at.desk_turn-loop-trials-preserved t c).After-joined_steps-looked in
    let told_2 = sym (ap (verdict_outcome _) c.in-No.is) ∙ desk_turn-said j q a in
    going-as (sub-on (desk_turn-trying j q a) _ _ told_2 _ refl) c.behind-line.ensures.0 c.behind-line.ensures.1

pub away_choice-loop-trials-init : goal.away_choice-loop-trials-init
away_choice-loop-trials-init t c = λ q a. away-going _ _ _ _ _ _ q (some_left c.requires.0) c.requires.1 c.requires.2

pub away_choice-overflow_sub-limit : goal.away_choice-overflow_sub-limit
away_choice-overflow_sub-limit t c = omega (arith, (c.loop-trials.invariant _ (agree_same _ _)).enough)

pub away_choice-desk_choice-turned-requires : goal.away_choice-desk_choice-turned-requires
away_choice-desk_choice-turned-requires t c =
    let s = c.loop-trials.invariant _ (agree_same _ _) in
    (omega arith, (c.requires.0, omega (arith, sweep-known s), omega (arith, sweep-few s), c.lines_up-choices.ensures))

pub away_choice-returns-in-Limit : goal.away_choice-returns-in-Limit
away_choice-returns-in-Limit t c = λ q a.
    let j = (goal.at.away_choice-returns-in-Limit t c).After-joined_steps-looked in
    sweep-limit (away_choice-going j q a) (sym (ap (turn_outcome _ _) c.in-Limit.is) ∙ away_choice-said j q a)

pub away_choice-overflow_add-result : goal.away_choice-overflow_add-result
away_choice-overflow_add-result t c =
    let j = (goal.at.away_choice-overflow_add-result t c).After-joined_steps-looked in
    omega (arith, c.ranges.limit.fits, sweep-beats (away_choice-going j _ (agree_same _ _)) _ _ (sym (ap (turn_outcome _ _) c.in-Beaten.is) ∙ away_choice-said j _ (agree_same _ _)))

pub away_choice-returns-in-Beaten : goal.away_choice-returns-in-Beaten
away_choice-returns-in-Beaten t c = λ q a.
    let j = (goal.at.away_choice-returns-in-Beaten t c).After-joined_steps-looked in
    sweep-beaten (away_choice-going j q a) _ _ (sym (ap (turn_outcome _ _) c.in-Beaten.is) ∙ away_choice-said j q a)

pub away_choice-overflow_add-used : goal.away_choice-overflow_add-used
away_choice-overflow_add-used t c =
    let j = (goal.at.away_choice-overflow_add-used t c).After-joined_steps-looked in
    omega (arith, c.ranges.limit.fits, sweep-within (away_choice-going j _ (agree_same _ _)) _ (sym (ap (turn_outcome _ _) c.in-Holds.is) ∙ away_choice-said j _ (agree_same _ _)))

pub away_choice-loop-trials-smaller : goal.away_choice-loop-trials-smaller
away_choice-loop-trials-smaller t c =
    let s = (c.loop-trials.invariant _ (agree_left _ _ c.joined_steps-looked.ensures (agree_same _ _))) in
    omega (arith, sweep-known s, sweep-higher s _ (next-some _ _ _ _ (omega arith) c.in-Some.is c.next.ensures))

pub away_choice-loop-trials-preserved : goal.away_choice-loop-trials-preserved
away_choice-loop-trials-preserved t c = λ q a.
    let j = (goal.at.away_choice-loop-trials-preserved t c).After-joined_steps-looked in
    let larger = next-some _ _ _ _ (omega arith) c.in-Some.is c.next.ensures in
    sweep-on (away_choice-going j q a) _ (sym (ap (turn_outcome _ _) c.in-Holds.is) ∙ away_choice-said j q a) _ larger

pub away_choice-returns-in-None : goal.away_choice-returns-in-None
away_choice-returns-in-None t c = λ q a.
    let j = (goal.at.away_choice-returns-in-None t c).After-joined_steps-looked in
    let told = sym (ap (turn_outcome _ _) c.in-Holds.is) ∙ away_choice-said j q a in
    sweep-end (away_choice-going j q a) _ told (next-none _ _ _ _ (omega arith) c.in-None.is c.next.ensures)

pub desk_choice-loop-trials-init : goal.desk_choice-loop-trials-init
desk_choice-loop-trials-init t c = λ q a.
    choosing.desk-choosing _ _ _ _ _ _ (some_left c.requires.0) (omega arith) c.requires.3.few (c.requires.3.lines q a) _ _ c.without-lines.ensures _

pub desk_choice-next_move-requires : goal.desk_choice-next_move-requires
desk_choice-next_move-requires t c = (omega (arith, c.requires.3.few, c.without-lines.ensures.count), (c.loop-trials.invariant _ (agree_same _ _)).enough)

pub desk_choice-returns-in-Limit : goal.desk_choice-returns-in-Limit
desk_choice-returns-in-Limit t c = λ q a. many.try-limit (c.loop-trials.invariant q a) c.in-Limit.ensures

pub desk_choice-returns-in-Nobody : goal.desk_choice-returns-in-Nobody
desk_choice-returns-in-Nobody t c = λ q a.
    many.try-nobody (c.loop-trials.invariant q a) _ c.in-Nobody.ensures

pub desk_choice-bounds-lines-m : goal.desk_choice-bounds-lines-m
desk_choice-bounds-lines-m t c =
    let there = many.try-move (c.loop-trials.invariant _ (agree_same _ _)) _ _ c.in-Move.ensures in
    omega (arith, there.found.listed, c.without-lines.ensures.count, c.requires.3.few)

pub desk_choice-overflow_sub-limit : goal.desk_choice-overflow_sub-limit
desk_choice-overflow_sub-limit t c =
    omega (arith, (many.try-move (c.loop-trials.invariant _ (agree_same _ _)) _ _ c.in-Move.ensures).enough)

pub desk_choice-away_from-sub-requires : goal.desk_choice-away_from-sub-requires
desk_choice-away_from-sub-requires t c =
    (omega (arith, c.requires.0), (c.requires.1, c.requires.2))

pub desk_choice-returns-in-Limit-value : goal.desk_choice-returns-in-Limit-value
desk_choice-returns-in-Limit-value t c = λ q a.
    let j = (goal.at.desk_choice-returns-in-Limit-value t c).After-joined_steps-looked in
    many.sub-limit (desk_choice-trying j q a) (sym (ap (verdict_outcome _) c.in-Limit-value.is) ∙ desk_choice-said j q a)

pub desk_choice-overflow_add-result : goal.desk_choice-overflow_add-result
desk_choice-overflow_add-result t c =
    let j = (goal.at.desk_choice-overflow_add-result t c).After-joined_steps-looked in
    let told_2 = sym (ap (verdict_outcome _) c.in-Yes.is) ∙ desk_choice-said j _ (agree_same _ _) in
    omega (arith, c.ranges.limit.fits, many.sub_within (desk_choice-trying j _ (agree_same _ _)) _ _ told_2)

pub desk_choice-returns-in-Yes : goal.desk_choice-returns-in-Yes
desk_choice-returns-in-Yes t c = λ q a.
    let j = (goal.at.desk_choice-returns-in-Yes t c).After-joined_steps-looked in
    many.sub-done (desk_choice-trying j q a) _ _ (sym (ap (verdict_outcome _) c.in-Yes.is) ∙ desk_choice-said j q a) _ refl

pub desk_choice-overflow_add-used : goal.desk_choice-overflow_add-used
desk_choice-overflow_add-used t c =
    let j = (goal.at.desk_choice-overflow_add-used t c).After-joined_steps-looked in
    let told_2 = sym (ap (verdict_outcome _) c.in-No.is) ∙ desk_choice-said j _ (agree_same _ _) in
    omega (arith, c.ranges.limit.fits, many.sub_within (desk_choice-trying j _ (agree_same _ _)) _ _ told_2)

pub desk_choice-overflow_add-at : goal.desk_choice-overflow_add-at
desk_choice-overflow_add-at t c =
    let there = many.try-move (c.loop-trials.invariant _ (agree_same _ _)) _ _ c.in-Move.ensures in
    omega (arith, there.found.listed, c.without-lines.ensures.count, c.requires.3.few)

pub desk_choice-loop-trials-smaller : goal.desk_choice-loop-trials-smaller
desk_choice-loop-trials-smaller t c =
    let j = (goal.at.desk_choice-loop-trials-smaller t c).After-joined_steps-looked in
    (desk_choice-trying j _ (agree_same _ _)).fewer-own

pub desk_choice-loop-trials-preserved : goal.desk_choice-loop-trials-preserved
desk_choice-loop-trials-preserved t c = λ q a.
    let j = (goal.at.desk_choice-loop-trials-preserved t c).After-joined_steps-looked in
    many.sub-on (desk_choice-trying j q a) _ _ (sym (ap (verdict_outcome _) c.in-No.is) ∙ desk_choice-said j q a) _ refl
