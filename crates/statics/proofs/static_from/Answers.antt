-- The sets of at most t people, in ascending number, a plan walk each.
use mathlib.Core.Path.{◌≡◌, refl, sym, ap, ◌∙◌}
use mathlib.Core.Option.{none}
use Rattle.sets.specs.Stored.{number}
use Prim.Native.Nat.{ℕ, ◌-◌, ◌^◌, ◌<◌}
use native.Mathlib.Omega.{arith}
use native.Mathlib.Nat.{lt_of_lt_of_le}
use lib.Pow.{pow_pos, pow_mono}
use Rattle.sets.proofs.Counting.{size-empty}
use Rattle.games.specs.Walks.{if_none, plan, static}
use Rattle.games.specs.Limit.{cut}
use Rattle.cases.specs.declared.Filled.{Filled}
use Rattle.boards.specs.Arena.{board_arena}
use Rattle.boards.specs.Looked.{Agree}
use Rattle.boards.proofs.Looked.{agree_same, agree_left, agree_right}
use Rattle.tries.specs.Outcomes.{plan_ended}
use Rattle.games.proofs.Cuts.{ends}
use Rattle.tries.proofs.Sweeps.{Sweep, sweep-start, sweep-known, sweep-limit, sweep-beats, sweep-beaten, sweep-within, sweep-end, sweep-on, sweep-higher}
use Rattle.tries.proofs.Away.{same_self}
use Rattle.tries.proofs.Turns.{nobody-shown, static-full, lacks-limit, lacks-none, lacks-some, next-some, next-none}
use Rattle.tries.proofs.Agreeing.{agree-everywhere}
use Rattle.sums.proofs.Joins.{joined-lt, with-joined}
use Rattle.statics.proofs.Leaping.{leap-limit, leap-on, leap-end}
use Rattle.statics.proofs.static_from.Goals as goal
use Rattle.statics.proofs.static_from.Goals.{After-joined_steps-looked}

-- the walk without a set has been made
going : (c : After-joined_steps-looked) (q : Filled) → Agree c.joined_steps-looked.result c.args.p q
    → Sweep (λ A. if_none A (plan (board_arena c.args.board.now.words c.args.board.now.people) A c.args.left q)) (static (board_arena c.args.board.now.words c.args.board.now.people) c.args.t c.args.left q) c.args.board.now.people c.args.t 0 c.args.limit (number c.loop-trials.set) c.loop-trials.used
going c q a = c.loop-trials.invariant q (agree_left _ _ c.joined_steps-looked.ensures a)

said : (c : After-joined_steps-looked) (q : Filled) → Agree c.joined_steps-looked.result c.args.p q
    → (e : Filled) × (plan_ended (c.args.limit - c.loop-trials.used) e c.plan_walk-walked.result.end ≡ cut (c.args.limit - c.loop-trials.used) (plan (board_arena c.args.board.now.words c.args.board.now.people) (number c.loop-trials.set) c.args.left q))
said c q a = c.plan_walk-walked.ensures.others q (agree_right _ _ c.joined_steps-looked.ensures a) _ (same_self _ _ (lt_of_lt_of_le (sweep-known (going c _ (agree_same _ _))) (pow_mono {j = 32} (omega arith))))

pub returns-then-left-eq0 : goal.returns-then-left-eq0
returns-then-left-eq0 c = λ q a. ends _ _ none 0 (static-full _ _ q c.if-left-eq0.true _) (omega arith)

pub loop-trials-init : goal.loop-trials-init
unfolding static
loop-trials-init c = λ q a. rw (nobody-shown c.none-set.ensures) (sweep-start _ _ _ _ 0 _ (pow_pos _) (rw size-empty (omega arith)) refl)

pub overflow_sub-limit : goal.overflow_sub-limit
overflow_sub-limit c = omega (arith, (c.loop-trials.invariant _ (agree_same _ _)).enough)

pub returns-in-Limit : goal.returns-in-Limit
returns-in-Limit c = λ q a.
    let j = (goal.at.returns-in-Limit c).After-joined_steps-looked in
    let was = going j q a in
    let ended = said j q a in
    sweep-limit was (lacks-limit _ _ _ (sym (ap (plan_ended _ _) c.in-Limit.is) ∙ ended.1))

pub overflow_add-result : goal.overflow_add-result
overflow_add-result c =
    let j = (goal.at.overflow_add-result c).After-joined_steps-looked in
    let was = going j _ (agree_same _ _) in
    let ended = said j _ (agree_same _ _) in
    let told = sym (ap (plan_ended _ _) c.in-No.is) ∙ ended.1 in
    omega (arith, c.ranges.limit.fits, sweep-beats was _ _ (lacks-none _ _ _ _ told))

pub returns-in-No : goal.returns-in-No
returns-in-No c = λ q a.
    let j = (goal.at.returns-in-No c).After-joined_steps-looked in
    let was = going j q a in
    let ended = said j q a in
    sweep-beaten was _ _ (lacks-none _ _ _ _ (sym (ap (plan_ended _ _) c.in-No.is) ∙ ended.1))

pub overflow_sub-limit-in-Yes : goal.overflow_sub-limit-in-Yes
overflow_sub-limit-in-Yes c =
    let j = (goal.at.overflow_sub-limit-in-Yes c).After-joined_steps-looked in
    omega (arith, (going j _ (agree_same _ _)).enough)

pub leap_from-requires : goal.leap_from-requires
leap_from-requires c =
    let j = (goal.at.leap_from-requires c).After-joined_steps-looked in
    let was = going j _ (agree_same _ _) in
    (sweep-known was, c.plan_walk-walked.ensures)

pub returns-then-limit-all : goal.returns-then-limit-all
returns-then-limit-all c = λ q a.
    let j = (goal.at.returns-then-limit-all c).After-joined_steps-looked in
    let was = going j _ (agree_same _ _) in
    let leapt = c.in-Ok.ensures in
    leap-limit was c.in-Ok.leap.below _ c.in-Ok.leap.trials leapt.within leapt.multiple.1 leapt.summed leapt.room c.if-limit-all.true
    ∙ ap (λ (z : Filled). cut c.args.limit (static (board_arena c.args.board.now.words c.args.board.now.people) c.args.t c.args.left z)) (sym (agree-everywhere _ q a))

pub returns-then-leap-board : goal.returns-then-leap-board
returns-then-leap-board c = λ q a.
    let j = (goal.at.returns-then-leap-board c).After-joined_steps-looked in
    let was = going j _ (agree_same _ _) in
    let leapt = c.in-Ok.ensures in
    let last = ap (λ (k : ℕ). 2 ^ k) c.if-leap-board.true in
    leap-end was c.in-Ok.leap.below _ c.in-Ok.leap.trials leapt.within leapt.multiple.1 leapt.summed c.ranges.limit.fits (omega (arith, c.if-limit-all.false)) (omega (arith, last))
    ∙ ap (λ (z : Filled). cut c.args.limit (static (board_arena c.args.board.now.words c.args.board.now.people) c.args.t c.args.left z)) (sym (agree-everywhere _ q a))

pub loop-trials-smaller-in-Ok : goal.loop-trials-smaller-in-Ok
loop-trials-smaller-in-Ok c =
    let j = (goal.at.loop-trials-smaller-in-Ok c).After-joined_steps-looked in
    let was = going j _ (agree_same _ _) in
    let leapt = c.in-Ok.ensures in
    let below : c.in-Ok.leap.below < c.args.board.now.people = omega (arith, leapt.within, c.if-leap-board.false) in
    let joined = c.with-set.ensures ∙ with-joined _ _ _ (omega arith) below (sweep-known was) (leapt.free below) in
    let fits = joined-lt _ _ _ below (sweep-known was) (leapt.free below) in
    omega (arith, joined, fits, pow_pos c.in-Ok.leap.below)

pub loop-trials-preserved-in-Ok : goal.loop-trials-preserved-in-Ok
loop-trials-preserved-in-Ok c = λ q a.
    let j = (goal.at.loop-trials-preserved-in-Ok c).After-joined_steps-looked in
    let was = going j _ (agree_same _ _) in
    let leapt = c.in-Ok.ensures in
    let below : c.in-Ok.leap.below < c.args.board.now.people = omega (arith, leapt.within, c.if-leap-board.false) in
    let joined = c.with-set.ensures ∙ with-joined _ _ _ (omega arith) below (sweep-known was) (leapt.free below) in
    let fits = joined-lt _ _ _ below (sweep-known was) (leapt.free below) in
    rw (joined, agree-everywhere _ q a)
    (leap-on was c.in-Ok.leap.below _ c.in-Ok.leap.trials leapt.within leapt.multiple.1 leapt.summed c.ranges.limit.fits (omega (arith, c.if-limit-all.false)) fits leapt.room)

pub overflow_add-used : goal.overflow_add-used
overflow_add-used c =
    let j = (goal.at.overflow_add-used c).After-joined_steps-looked in
    let was = going j _ (agree_same _ _) in
    let ended = said j _ (agree_same _ _) in
    let told = sym (ap (plan_ended _ _) c.in-Yes.is) ∙ ended.1 in
    omega (arith, c.ranges.limit.fits, sweep-within was _ (lacks-some _ _ _ _ _ told))

pub loop-trials-smaller : goal.loop-trials-smaller
loop-trials-smaller c =
    let j = (goal.at.loop-trials-smaller c).After-joined_steps-looked in
    let s = (going j _ (agree_same _ _)) in
    omega (arith, sweep-known s, sweep-higher s _ (next-some _ _ _ _ (omega arith) c.in-Some.is (rw (nobody-shown c.none.ensures) at c.next.ensures)))

pub loop-trials-preserved : goal.loop-trials-preserved
loop-trials-preserved c = λ q a.
    let j = (goal.at.loop-trials-preserved c).After-joined_steps-looked in
    let was = going j q a in
    let larger = next-some _ _ _ _ (omega arith) c.in-Some.is (rw (nobody-shown c.none.ensures) at c.next.ensures) in
    let ended = said j q a in
    sweep-on was _ (lacks-some _ _ _ _ _ (sym (ap (plan_ended _ _) c.in-Yes.is) ∙ ended.1)) _ larger

pub returns-in-None : goal.returns-in-None
returns-in-None c = λ q a.
    let j = (goal.at.returns-in-None c).After-joined_steps-looked in
    let was = going j q a in
    let ended = said j q a in
    let told = sym (ap (plan_ended _ _) c.in-Yes.is) ∙ ended.1 in
    sweep-end was _ (lacks-some _ _ _ _ _ told) (next-none _ _ _ _ (omega arith) c.in-None.is (rw (nobody-shown c.none.ensures) at c.next.ensures))
