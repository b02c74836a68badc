-- The plan walk: where one step is ready it goes along one line, else the desk chooses among lines of moves; each calls for the next position.
use mathlib.Core.Path.{◌≡◌, refl, sym, ap, ap₂, ◌∙◌, subst}
use mathlib.Core.Bool.{false, ◌||◌}
use mathlib.Core.Option.{none, some}
use mathlib.Core.List.{List}
use native.Mathlib.Omega.{arith}
use Prim.Native.Nat.{ℕ, ◌+◌, ◌-◌, ◌^◌, ◌<◌}
use borrow.Author.Tests.{lt-ltb}
use lib.Dec.{ltb}
use Rattle.sets.specs.declared.People.{People}
use Rattle.sets.specs.Sets as sets
use Rattle.sets.specs.Sets.{has, size, difference, joined, after}
use Rattle.sets.proofs.Lists.{true-or}
use Rattle.sets.proofs.Counting.{has-set_of}
use Rattle.sets.specs.Stored.{width, number}
use Rattle.games.specs.Walks.{plan}
use Rattle.games.specs.Limit.{cut}
use Rattle.cases.specs.Case.{most_steps}
use Rattle.cases.specs.Filled.{placed_at}
use Rattle.cases.specs.declared.Filled.{Filled}
use Rattle.cases.specs.declared.Person.{Person}
use Rattle.cases.specs.declared.Step.{Step}
use Rattle.boards.specs.Arena.{put_on, board_arena}
use Rattle.boards.specs.Looked.{Agree}
use Rattle.boards.proofs.Looked.{agree_same, agree_left, agree_right}
use Rattle.lines.specs.declared.Cursor.{Cursor}
use Rattle.lines.specs.declared.Line.{Line}
use Rattle.lines.specs.declared.Lines.{Lines}
use Rattle.std.specs.Prelude as code
use Rattle.lines.specs.declared.Try.{Try}
use Rattle.lines.specs.declared.Try.TheVariants as try
use Rattle.lines.specs.Moves as moves
use Rattle.lines.specs.Moves.{line_at}
use Rattle.lines.proofs.Scans as many
use Rattle.tries.specs.declared.PlanEnd.TheVariants as plan_end
use Rattle.tries.specs.declared.Planned.{Planned}
use Rattle.tries.specs.Outcomes.{plan_ended, plan_outcome, SameAway, PlanTold}
use Rattle.tries.specs.Trying.{step_on, InLine, tried, try_outcome}
use Rattle.tries.specs.Alike.{spent_outcome, all_spent}
use Rattle.games.proofs.Cuts.{ends}
use Rattle.tries.proofs.Scans.{Inside, after-inside, Going, Trying, try-limit, try-nobody, try-person, sub-limit, sub_within, sub-done, sub-on}
use Rattle.tries.proofs.Turns.{above_zero, some_left, placed-is, nobody-shown, plan_hunt, plan-full, plan-going}
use Rattle.tries.proofs.Away.{same_self, same_left, same-right, same-all, same_line, after-off, try-same}
use Rattle.tries.proofs.Lines.{line-without, fit-inside}
use Rattle.tries.proofs.Alike.{Alike, going-as, alike-by, alike-limit, alike_all}
use Rattle.tries.proofs.Agreeing.{is-alone, alone-agree, placed-agree, placed_alike}
use Rattle.tries.proofs.Choosing as choosing
use Rattle.plans.proofs.+plan_choice_plan_walk.Goals as goal

people_fit : (s : People) → s.bits < 4294967296 → number s < 2 ^ width
unfolding number
people_fit s h = omega arith

-- where no plan is shown: the same answer from all positions that agree, whoever else is away
nothing-shown : {b : List ℕ} {n A k l : ℕ} {p : Filled} (r : Planned)
    → ((q : Filled) (B : ℕ) → Agree r.looked p q → SameAway (number r.met) A B → plan_outcome l r ≡ cut l (plan (board_arena b n) B k q)) → PlanTold b n A k l p r
nothing-shown r e = record { own = λ B s. e _ B (agree_same _ _) s; others = λ q a B s. (r.plan, e q B a s) }

-- where everybody was met
module _ {b : List ℕ} {n A k l : ℕ} {p : Filled} (r : Planned) (m : (B : ℕ) → SameAway (number r.met) A B → A ≡ B) where
  chosen : plan_outcome l r ≡ cut l (plan (board_arena b n) A k p) → ((q : Filled) → Agree r.looked p q → (e : Filled) × (plan_ended l e r.end ≡ cut l (plan (board_arena b n) A k q)))
      → PlanTold b n A k l p r
  chosen o h =
      record {
        own = λ B s. o ∙ ap (λ (X : ℕ). cut l (plan (board_arena b n) X k p)) (m B s);
        others = λ q a B s. ((h q a).0, (h q a).1 ∙ ap (λ (X : ℕ). cut l (plan (board_arena b n) X k q)) (m B s));
      }

  nothing-chosen : ((q : Filled) → Agree r.looked p q → plan_outcome l r ≡ cut l (plan (board_arena b n) A k q)) → PlanTold b n A k l p r
  nothing-chosen e = chosen (e _ (agree_same _ _)) (λ q a. (r.plan, e q a))

-- ---- one line: T are in line, F those of them who fit, A are away, `met` were met

-- a turn of the loop, from the positions that agree and whoever else is away
abbrev Along : List ℕ → ℕ → ℕ → ℕ → ℕ → Filled → ℕ → ℕ → ℕ → ℕ → ℕ → Type 0
Along b n A k l p looked met T F used =
    (q : Filled) (B : ℕ) → Agree looked p q → SameAway met A B
    → Going (plan_hunt b n B (k - 1) q) (plan (board_arena b n) B k q) l (difference width T B) (difference width F B) used tt

module _ (b : List ℕ) (n k T F : ℕ) {A l : ℕ} {p : Filled} {looked met used : ℕ} (i : Inside F T) (g : Along b n A k l p looked met T F used) where
  -- somebody is to be tried: v, and that is trial number c
  trying : {x y : ℕ} {r : Try Person} {v : Person} {c : ℕ} → (x ≡ difference width T A) × (y ≡ difference width F A) → try_outcome r ≡ tried x y used l → r ≡ try.Move v c
      → (q : Filled) (B : ℕ) → Agree looked p q → SameAway met A B → SameAway (difference width T (after width T v.0)) A B
      → Trying (plan_hunt b n B (k - 1) q) (plan (board_arena b n) B k q) l (difference width T B) (difference width F B) v.0 c tt
  trying {v = v} {c} w t is q B a s m =
      try-person (g q B a s) v.0 c
      (try-same T F v.0 i m used l c (sym (ap try_outcome is) ∙ t ∙ ap₂ (λ (x y : ℕ). tried x y used l) w.0 w.1))

  -- with the same people away
  trying-own : {x y : ℕ} {r : Try Person} {v : Person} {c : ℕ} → (x ≡ difference width T A) × (y ≡ difference width F A) → try_outcome r ≡ tried x y used l → r ≡ try.Move v c → A < 2 ^ width
      → Trying (plan_hunt b n A (k - 1) p) (plan (board_arena b n) A k p) l (difference width T A) (difference width F A) v.0 c tt
  trying-own w t is h = trying w t is _ _ (agree_same _ _) (same_self _ _ h) (same_self _ _ h)

  -- the same are tried, whoever else is away
  whole-line : {x y M B : ℕ} (r : Try Person) → (x ≡ difference width T A) × (y ≡ difference width F A) → try_outcome r ≡ tried x y used l → SameAway M A B → Inside T M
      → try_outcome r ≡ tried (difference width T B) (difference width F B) used l
  whole-line r w t s j =
      t ∙ ap₂ (λ (x y : ℕ). tried x y used l) (w.0 ∙ same_line s _ j) (w.1 ∙ same_line s _ (λ u h e. j u h (i u h e)))

-- those of a set that others were joined to
joined-inside : (L M : ℕ) {K : ℕ} → K ≡ joined width L M → Inside M K
joined-inside L M e u l h = ap (λ (z : ℕ). has z u) e ∙ has-set_of (λ w. has L w || has M w) width u l ∙ true-or (has L u) (has M u) h

-- what a walk answers says of the walk from another position
abbrev Says : List ℕ → ℕ → ℕ → ℕ → Planned → Filled → ℕ → Filled → Type 0
Says b n k l r e B q = plan_ended l e r.end ≡ cut l (plan (board_arena b n) B (k - 1) q)

-- v was tried at the step, after c trials, and the walk from that placing has ended: sub. What was looked at, and who was met, with what that walk did
record Judged (b : List ℕ) (n A k l : ℕ) (p : Filled) (T F v c step : ℕ) (sub : Planned) (looked met : ℕ) : Type 0 where
  -- the loop's turn
  pub judging : (q : Filled) (B : ℕ) → Agree looked p q → SameAway met A B
      → Trying (plan_hunt b n B (k - 1) q) (plan (board_arena b n) B k q) l (difference width T B) (difference width F B) v c tt
  -- from the same placing
  pub said : (q : Filled) (B : ℕ) → Agree looked p q → SameAway met A B → (e : Filled) × Says b n k (l - c) sub e B (put_on q v (step_on b q))
  -- from any other, where the step was not looked at
  pub said-alike : has sub.looked step ≡ false → (q : Filled) (B : ℕ) → Agree looked p q → SameAway met A B → (u : ℕ) → (e : Filled) × Says b n k (l - c) sub e B (put_on q u (step_on b q))
  -- from p itself, with the plan that was found
  pub said-own : (B : ℕ) → SameAway met A B → Says b n k (l - c) sub sub.plan B (put_on p v (step_on b p))
  pub inside : Inside F T

module _ (b : List ℕ) (n A k l : ℕ) (p : Filled) where
  judged : {looked met T F used : ℕ} {x y : ℕ} {r : Try Person} {v : Person} {c : ℕ} {placed : Filled} {step : Step} {sub : Planned} {looks upto both all : ℕ}
      → Inside F T → Along b n A k l p looked met T F used
      → (x ≡ difference width T A) × (y ≡ difference width F A) → try_outcome r ≡ tried x y used l → r ≡ try.Move v c
      → placed ≡ placed_at p step.0 v → step.0 ≡ step_on b p → PlanTold b n A (k - 1) (l - c) placed sub
      → looks ≡ joined most_steps looked sub.looked → upto ≡ difference width T (after width T v.0) → both ≡ joined width upto (number sub.met) → all ≡ joined width met both
      → Judged b n A k l p T F v.0 c step.0 sub looks all
  judged {looked} {met} {T} {F} {v = v} {c} {sub = sub} {all = all} i g w t is d s e a u m o =
      record {
        judging = λ q B h z. trying b n k T F i g w t is q B (agree_left _ _ a h) (same_left _ _ o z) (in-line z);
        said = λ q B h z. e.others _ (placed-agree _ (agree_right _ _ a h) _ _ _ d s) B (by-sub z);
        said-alike = λ not q B h z x. e.others _ (placed_alike _ (agree_right _ _ a h) _ _ _ d s not x) B (by-sub z);
        said-own = λ B z. e.own B (by-sub z) ∙ ap (λ (z : Filled). cut (l - c) (plan (board_arena b n) B (k - 1) z)) (placed-is _ _ _ _ _ d s);
        inside = i;
      }
    where
      -- those met by the sub-walk, and those of the line up to the person
      by-sub : {B : ℕ} → SameAway all A B → SameAway (number sub.met) A B
      by-sub z = same-right _ _ m (same-right _ _ o z)

      in-line : {B : ℕ} → SameAway all A B → SameAway (difference width T (after width T v.0)) A B
      in-line {B} z = subst (λ (y : ℕ). SameAway y A B) u (same_left _ _ m (same-right _ _ o z))

-- ---- there is no plan from that placing: on behind the person, after `more` trials

module _ {b : List ℕ} {n A k l : ℕ} {p : Filled} {T F v c step : ℕ} {sub : Planned} {looked met : ℕ} (j : Judged b n A k l p T F v c step sub looked met) where
  module _ {more : ℕ} (is : sub.end ≡ plan_end.No more) where
    -- nobody else would find one, where the step was not looked at
    all_alike : has sub.looked step ≡ false → (q : Filled) (B : ℕ) → Agree looked p q → SameAway met A B → Alike (plan_hunt b n B (k - 1) q) none more
    all_alike o q B a s = alike-by _ (l - c) none more (λ u. sym (ap (plan_ended _ _) is) ∙ (j.said-alike o q B a s u).1)

    module _ {T' F' : ℕ} (behind : (T' ≡ after width T v) × (F' ≡ after width F v)) where
      -- the line behind that person, without those away
      off-fit : (B : ℕ) → difference width F' B ≡ after width (difference width F B) v
      off-fit B = ap (λ (z : ℕ). difference width z B) behind.1 ∙ sym (after-off F B v)

      -- the loop behind that person
      on : (q : Filled) (B : ℕ) → Agree looked p q → SameAway met A B
          → Going (plan_hunt b n B (k - 1) q) (plan (board_arena b n) B k q) l (difference width T' B) (difference width F' B) (c + more) tt
      on q B a s =
          going-as (sub-on (j.judging q B a s) _ _ (sym (ap (plan_ended _ _) is) ∙ (j.said q B a s).1) _ refl)
          (ap (λ (z : ℕ). difference width z B) behind.0 ∙ sym (after-off T B v)) (off-fit B)

      inside_on : Inside F' T'
      inside_on = rw (behind.0, behind.1) (λ u h e. after-inside T F v u h (j.inside u h) e)

      -- the same are left, whoever else is away, where all in line were met
      whole-rest : {x y M B : ℕ} (r : code.Option ℕ) → (x ≡ difference width T' A) × (y ≡ difference width F' A) → spent_outcome r ≡ all_spent x y (c + more) more l → SameAway M A B → Inside T' M
          → spent_outcome r ≡ all_spent (difference width T' B) (difference width F' B) (c + more) more l
      whole-rest r w t s i =
          t ∙ ap₂ (λ (x y : ℕ). all_spent x y (c + more) more l) (w.0 ∙ same_line s _ i) (w.1 ∙ same_line s _ (λ u h e. i u h (inside_on u h e)))

-- ---- several lines

-- everybody was met
all_met : {A M : ℕ} → A < 2 ^ width → M ≡ sets.everybody width 32 → (B : ℕ) → SameAway M A B → A ≡ B
all_met h e B s = same-all s h (λ u l. ap (λ (z : ℕ). has z u) e ∙ has-set_of (λ w. ltb w width) width u l ∙ lt-ltb u width l)

-- a turn of the loop, from the positions that agree
abbrev Among : List ℕ → ℕ → ℕ → ℕ → ℕ → Filled → Lines → ℕ → Cursor → ℕ → Type 0
Among b n A k l p lines looked at used =
    (q : Filled) → Agree looked p q → many.Going (choosing.plan_hunt b n q lines A (k - 1)) lines (plan (board_arena b n) A k q) l at used tt

-- a move is to be tried
moving : (b : List ℕ) (n A k : ℕ) {l : ℕ} {p : Filled} {lines : Lines} {looked : ℕ} {at : Cursor} {used : ℕ} {r : Try Cursor} {m : Cursor} {c : ℕ}
    → Among b n A k l p lines looked at used → moves.try_outcome r ≡ moves.next_move lines at used l → r ≡ try.Move m c
    → (q : Filled) → Agree looked p q → many.Trying (choosing.plan_hunt b n q lines A (k - 1)) lines (plan (board_arena b n) A k q) l at m c tt
moving b n A k g t is q a = many.try-move (g q a) _ _ (sym (ap moves.try_outcome is) ∙ t)

-- move m was tried, after c trials, and the walk from the position that it leaves has ended: sub. What was looked at, with what that walk did
record Moved (b : List ℕ) (n A k l : ℕ) (p : Filled) (lines : Lines) (at m : Cursor) (c : ℕ) (sub : Planned) (looked : ℕ) : Type 0 where
  pub judging : (q : Filled) → Agree looked p q → many.Trying (choosing.plan_hunt b n q lines A (k - 1)) lines (plan (board_arena b n) A k q) l at m c tt
  pub said : (q : Filled) → Agree looked p q → (e : Filled) × Says b n k (l - c) sub e A (choosing.leaves b n q lines m)
  pub said-own : Says b n k (l - c) sub sub.plan A (choosing.leaves b n p lines m)

module _ (b : List ℕ) (n A k l : ℕ) (p : Filled) (lines : Lines) where
  moved : {looked : ℕ} {at : Cursor} {used : ℕ} {r : Try Cursor} {m : Cursor} {c : ℕ} {placed : Filled} {sub : Planned} {looks : ℕ}
      → A < 2 ^ width → Among b n A k l p lines looked at used → moves.try_outcome r ≡ moves.next_move lines at used l → r ≡ try.Move m c
      → (x : Line) → placed ≡ placed_at p x.step.0 (record { 0 = m.person }) → x ≡ line_at lines m.line → PlanTold b n A (k - 1) (l - c) placed sub
      → looks ≡ joined most_steps looked sub.looked
      → Moved b n A k l p lines at m c sub looks
  moved {m = m} {c} h g t is x d f e a =
      record {
        judging = λ q s. moving b n A k g t is q (agree_left _ _ a s);
        said = λ q s. e.others _ (choosing.move-agree (agree_right _ _ a s) _ _ _ m d f) _ (same_self _ _ h);
        said-own = e.own _ (same_self _ _ h) ∙ ap (λ (z : Filled). cut (l - c) (plan (board_arena b n) A (k - 1) z)) (choosing.move-leaves _ _ _ lines m d f);
      }

-- ---- plan_choice

pub plan_choice-loop-trials-init : goal.plan_choice-loop-trials-init
plan_choice-loop-trials-init t c = λ q a.
    choosing.plan-choosing _ _ _ _ _ _ (some_left c.requires) (omega arith) c.lines_up-choices.ensures.few (c.lines_up-choices.ensures.lines q a) _ _ c.without-lines.ensures

pub plan_choice-next_move-requires : goal.plan_choice-next_move-requires
plan_choice-next_move-requires t c = (omega (arith, c.lines_up-choices.ensures.few, c.without-lines.ensures.count), (c.loop-trials.invariant _ (agree_same _ _)).enough)

pub plan_choice-returns-in-Limit : goal.plan_choice-returns-in-Limit
plan_choice-returns-in-Limit t c =
    nothing-chosen _ (all_met (people_fit c.args.absent (omega arith)) c.everybody-everybody.ensures)
    (λ q a. many.try-limit (c.loop-trials.invariant q a) (sym (ap moves.try_outcome c.in-Limit.is) ∙ c.next_move.ensures))

pub plan_choice-returns-in-Nobody : goal.plan_choice-returns-in-Nobody
plan_choice-returns-in-Nobody t c =
    nothing-chosen _ (all_met (people_fit c.args.absent (omega arith)) c.everybody-everybody.ensures)
    (λ q a. many.try-nobody (c.loop-trials.invariant q a) _ (sym (ap moves.try_outcome c.in-Nobody.is) ∙ c.next_move.ensures))

pub plan_choice-bounds-lines-m : goal.plan_choice-bounds-lines-m
plan_choice-bounds-lines-m t c =
    omega (arith, (moving c.args.board.now.words c.args.board.now.people (number c.args.absent) c.args.left c.loop-trials.invariant c.next_move.ensures c.in-Move.is _ (agree_same _ _)).found.listed, c.without-lines.ensures.count, c.lines_up-choices.ensures.few)

pub plan_choice-overflow_sub-limit : goal.plan_choice-overflow_sub-limit
plan_choice-overflow_sub-limit t c = (moving c.args.board.now.words c.args.board.now.people (number c.args.absent) c.args.left c.loop-trials.invariant c.next_move.ensures c.in-Move.is _ (agree_same _ _)).enough

pub plan_choice-plan_walk-sub-requires : goal.plan_choice-plan_walk-sub-requires
plan_choice-plan_walk-sub-requires t c = omega (arith, c.decreases, c.requires)

pub plan_choice-returns-in-Limit-end : goal.plan_choice-returns-in-Limit-end
unfolding line_at
plan_choice-returns-in-Limit-end t c =
    let j = moved c.args.board.now.words c.args.board.now.people (number c.args.absent) c.args.left c.args.limit c.args.p c.without-lines.result (people_fit c.args.absent (omega arith)) c.loop-trials.invariant c.next_move.ensures
    c.in-Move.is _ c.placed.ensures refl c.plan_walk-sub.ensures c.joined_steps-looked.ensures in
    nothing-chosen _ (all_met (people_fit c.args.absent (omega arith)) c.everybody-everybody.ensures) (λ q a. many.sub-limit (j.judging q a) (sym (ap (plan_ended _ _) c.in-Limit-end.is) ∙ (j.said q a).1))

pub plan_choice-overflow_add-result : goal.plan_choice-overflow_add-result
unfolding line_at
plan_choice-overflow_add-result t c =
    let j = moved c.args.board.now.words c.args.board.now.people (number c.args.absent) c.args.left c.args.limit c.args.p c.without-lines.result (people_fit c.args.absent (omega arith)) c.loop-trials.invariant c.next_move.ensures
    c.in-Move.is _ c.placed.ensures refl c.plan_walk-sub.ensures c.joined_steps-looked.ensures in
    omega (arith, c.ranges.limit.fits, many.sub_within (j.judging _ (agree_same _ _)) _ _ (sym (ap (plan_ended _ _) c.in-Yes.is) ∙ j.said-own))

pub plan_choice-returns-in-Yes : goal.plan_choice-returns-in-Yes
unfolding line_at
plan_choice-returns-in-Yes t c =
    let j = moved c.args.board.now.words c.args.board.now.people (number c.args.absent) c.args.left c.args.limit c.args.p c.without-lines.result (people_fit c.args.absent (omega arith)) c.loop-trials.invariant c.next_move.ensures
    c.in-Move.is _ c.placed.ensures refl c.plan_walk-sub.ensures c.joined_steps-looked.ensures in
    chosen _ (all_met (people_fit c.args.absent (omega arith)) c.everybody-everybody.ensures)
    (many.sub-done (j.judging _ (agree_same _ _)) _ _ (sym (ap (plan_ended _ _) c.in-Yes.is) ∙ j.said-own) _ refl)
    (λ q a. ((j.said q a).0, many.sub-done (j.judging q a) _ _ (sym (ap (plan_ended _ _) c.in-Yes.is) ∙ (j.said q a).1) _ refl))

pub plan_choice-overflow_add-used : goal.plan_choice-overflow_add-used
unfolding line_at
plan_choice-overflow_add-used t c =
    let j = moved c.args.board.now.words c.args.board.now.people (number c.args.absent) c.args.left c.args.limit c.args.p c.without-lines.result (people_fit c.args.absent (omega arith)) c.loop-trials.invariant c.next_move.ensures
    c.in-Move.is _ c.placed.ensures refl c.plan_walk-sub.ensures c.joined_steps-looked.ensures in
    omega (arith, c.ranges.limit.fits, many.sub_within (j.judging _ (agree_same _ _)) _ _ (sym (ap (plan_ended _ _) c.in-No.is) ∙ j.said-own))

pub plan_choice-overflow_add-at : goal.plan_choice-overflow_add-at
plan_choice-overflow_add-at t c =
    omega (arith, (moving c.args.board.now.words c.args.board.now.people (number c.args.absent) c.args.left c.loop-trials.invariant c.next_move.ensures c.in-Move.is _ (agree_same _ _)).found.listed, c.without-lines.ensures.count, c.lines_up-choices.ensures.few)

pub plan_choice-loop-trials-smaller : goal.plan_choice-loop-trials-smaller
plan_choice-loop-trials-smaller t c = (moving c.args.board.now.words c.args.board.now.people (number c.args.absent) c.args.left c.loop-trials.invariant c.next_move.ensures c.in-Move.is _ (agree_same _ _)).fewer-own

pub plan_choice-loop-trials-preserved : goal.plan_choice-loop-trials-preserved
unfolding line_at
plan_choice-loop-trials-preserved t c =
    let j = moved c.args.board.now.words c.args.board.now.people (number c.args.absent) c.args.left c.args.limit c.args.p c.without-lines.result (people_fit c.args.absent (omega arith)) c.loop-trials.invariant c.next_move.ensures
    c.in-Move.is _ c.placed.ensures refl c.plan_walk-sub.ensures c.joined_steps-looked.ensures in
    λ q a. many.sub-on (j.judging q a) _ _ (sym (ap (plan_ended _ _) c.in-No.is) ∙ (j.said q a).1) _ refl

-- ---- plan_walk

pub plan_walk-returns-then-left-eq0 : goal.plan_walk-returns-then-left-eq0
plan_walk-returns-then-left-eq0 t c =
    let full = c.if-left-eq0.true in
    record {
      own = λ B s. ends _ _ (some _) 0 (plan-full _ _ _ full _) (omega arith);
      others = λ q a B s. (q, ends _ _ (some q) 0 (plan-full _ _ q full _) (omega arith));
    }

pub plan_walk-plan_choice-requires : goal.plan_walk-plan_choice-requires
plan_walk-plan_choice-requires t c = (omega (arith, c.decreases), above_zero c.if-left-eq0.false)

-- before the loop: everybody is in line
pub plan_walk-loop-trials-init : goal.plan_walk-loop-trials-init
plan_walk-loop-trials-init t c =
    let lined = λ (q : Filled) (a : Agree c.line_up-lined.result.looked c.args.p q). (subst (λ (z : ℕ). InLine c.args.board.now.words c.args.board.now.people z q (number c.line_up-lined.result.value.tried) (number c.line_up-lined.result.value.fit))
    (nobody-shown c.none-2.ensures) (c.line_up-lined.ensures q a)) in
    let alone = λ (q : Filled) (a : Agree c.line_up-lined.result.looked c.args.p q). alone-agree c.args.board.now.words a (is-alone _ _ c.several.ensures c.if-several.false) in (
      fit-inside _ _ _ _ _ _ (alone _ (agree_same _ _)) (lined _ (agree_same _ _)) (omega arith),
      λ q B a s. plan-going _ _ _ _ _ _ _ c.if-left-eq0.false (omega arith) (alone q a) B (line-without B _ _ (lined q a) refl refl),
    )

pub plan_walk-next_try-requires : goal.plan_walk-next_try-requires
plan_walk-next_try-requires t c = (c.loop-trials.invariant.1 _ _ (agree_same _ _) (same_self _ _ (people_fit c.args.absent (omega arith)))).enough

pub plan_walk-returns-in-Limit : goal.plan_walk-returns-in-Limit
plan_walk-returns-in-Limit t c =
    nothing-shown _ (λ q B a s. try-limit (c.loop-trials.invariant.1 q B a (same_left _ _ c.joined.ensures s))
    (sym (ap try_outcome c.in-Limit.is) ∙ whole-line c.args.board.now.words c.args.board.now.people c.args.left _ _ c.loop-trials.invariant.0 c.loop-trials.invariant.1 _ c.without.ensures c.next_try.ensures s (joined-inside _ _ c.joined.ensures)))

pub plan_walk-returns-in-Nobody : goal.plan_walk-returns-in-Nobody
plan_walk-returns-in-Nobody t c =
    nothing-shown _ (λ q B a s. try-nobody (c.loop-trials.invariant.1 q B a (same_left _ _ c.joined-in-Nobody.ensures s)) _
    (sym (ap try_outcome c.in-Nobody.is) ∙ whole-line c.args.board.now.words c.args.board.now.people c.args.left _ _ c.loop-trials.invariant.0 c.loop-trials.invariant.1 _ c.without.ensures c.next_try.ensures s (joined-inside _ _ c.joined-in-Nobody.ensures)))

pub plan_walk-overflow_sub-limit : goal.plan_walk-overflow_sub-limit
plan_walk-overflow_sub-limit t c =
    (trying-own c.args.board.now.words c.args.board.now.people c.args.left _ _ c.loop-trials.invariant.0 c.loop-trials.invariant.1 c.without.ensures c.next_try.ensures c.in-Move.is (people_fit c.args.absent (omega arith))).enough

pub plan_walk-plan_walk-sub-requires : goal.plan_walk-plan_walk-sub-requires
plan_walk-plan_walk-sub-requires t c = omega (arith, c.decreases, c.if-left-eq0.false)

pub plan_walk-returns-in-Limit-end : goal.plan_walk-returns-in-Limit-end
plan_walk-returns-in-Limit-end t c =
    let j = judged c.args.board.now.words c.args.board.now.people (number c.args.absent) c.args.left c.args.limit c.args.p c.loop-trials.invariant.0 c.loop-trials.invariant.1 c.without.ensures c.next_try.ensures
    c.in-Move.is c.placed.ensures c.next_step-step.ensures c.plan_walk-sub.ensures c.joined_steps-looked.ensures c.up_to.ensures c.joined-in-Move.ensures c.joined-met.ensures in
    nothing-shown _ (λ q B a s. sub-limit (j.judging q B a s) (sym (ap (plan_ended _ _) c.in-Limit-end.is) ∙ (j.said q B a s).1))

pub plan_walk-overflow_add-result : goal.plan_walk-overflow_add-result
plan_walk-overflow_add-result t c =
    let j = judged c.args.board.now.words c.args.board.now.people (number c.args.absent) c.args.left c.args.limit c.args.p c.loop-trials.invariant.0 c.loop-trials.invariant.1 c.without.ensures c.next_try.ensures
    c.in-Move.is c.placed.ensures c.next_step-step.ensures c.plan_walk-sub.ensures c.joined_steps-looked.ensures c.up_to.ensures c.joined-in-Move.ensures c.joined-met.ensures in
    let s : SameAway (number c.joined-met.result) (number c.args.absent) (number c.args.absent) = same_self _ _ (people_fit c.args.absent (omega arith)) in
    omega (arith, c.ranges.limit.fits, sub_within (j.judging _ _ (agree_same _ _) s) _ _ (sym (ap (plan_ended _ _) c.in-Yes.is) ∙ j.said-own _ s))

pub plan_walk-returns-in-Yes : goal.plan_walk-returns-in-Yes
plan_walk-returns-in-Yes t c =
    let j = judged c.args.board.now.words c.args.board.now.people (number c.args.absent) c.args.left c.args.limit c.args.p c.loop-trials.invariant.0 c.loop-trials.invariant.1 c.without.ensures c.next_try.ensures
    c.in-Move.is c.placed.ensures c.next_step-step.ensures c.plan_walk-sub.ensures c.joined_steps-looked.ensures c.up_to.ensures c.joined-in-Move.ensures c.joined-met.ensures in
    record {
      own = λ B s. sub-done (j.judging _ B (agree_same _ _) s) _ _ (sym (ap (plan_ended _ _) c.in-Yes.is) ∙ j.said-own B s) _ refl;
      others = λ q a B s.
          let z = j.said q B a s in
          (z.0, sub-done (j.judging q B a s) _ _ (sym (ap (plan_ended _ _) c.in-Yes.is) ∙ z.1) _ refl);
    }

pub plan_walk-overflow_add-used : goal.plan_walk-overflow_add-used
plan_walk-overflow_add-used t c =
    let j = judged c.args.board.now.words c.args.board.now.people (number c.args.absent) c.args.left c.args.limit c.args.p c.loop-trials.invariant.0 c.loop-trials.invariant.1 c.without.ensures c.next_try.ensures
    c.in-Move.is c.placed.ensures c.next_step-step.ensures c.plan_walk-sub.ensures c.joined_steps-looked.ensures c.up_to.ensures c.joined-in-Move.ensures c.joined-met.ensures in
    let s : SameAway (number c.joined-met.result) (number c.args.absent) (number c.args.absent) = same_self _ _ (people_fit c.args.absent (omega arith)) in
    omega (arith, c.ranges.limit.fits, sub_within (j.judging _ _ (agree_same _ _) s) _ _ (sym (ap (plan_ended _ _) c.in-No.is) ∙ j.said-own _ s))

pub plan_walk-returns-in-None : goal.plan_walk-returns-in-None
plan_walk-returns-in-None t c =
    let j = judged c.args.board.now.words c.args.board.now.people (number c.args.absent) c.args.left c.args.limit c.args.p c.loop-trials.invariant.0 c.loop-trials.invariant.1 c.without.ensures c.next_try.ensures
    c.in-Move.is c.placed.ensures c.next_step-step.ensures c.plan_walk-sub.ensures c.joined_steps-looked.ensures c.up_to.ensures c.joined-in-Move.ensures c.joined-met.ensures in
    let o = sym c.holds-asked.ensures ∙ c.if-not-asked.true in
    nothing-shown _ (λ q B a s.
    let z = same_left _ _ c.joined-all_met.ensures s in
    alike-limit (all_alike j c.in-No.is o q B a z) (λ u. refl) (on j c.in-No.is c.behind-line.ensures q B a z)
    (sym (ap spent_outcome c.in-None.is) ∙ whole-rest j c.in-No.is c.behind-line.ensures _ c.without-then-not-asked.ensures c.rest_alike.ensures s (joined-inside _ _ c.joined-all_met.ensures)))

pub plan_walk-returns-in-Some : goal.plan_walk-returns-in-Some
plan_walk-returns-in-Some t c =
    let j = judged c.args.board.now.words c.args.board.now.people (number c.args.absent) c.args.left c.args.limit c.args.p c.loop-trials.invariant.0 c.loop-trials.invariant.1 c.without.ensures c.next_try.ensures
    c.in-Move.is c.placed.ensures c.next_step-step.ensures c.plan_walk-sub.ensures c.joined_steps-looked.ensures c.up_to.ensures c.joined-in-Move.ensures c.joined-met.ensures in
    let o = sym c.holds-asked.ensures ∙ c.if-not-asked.true in
    nothing-shown _ (λ q B a s.
    let z = same_left _ _ c.joined-all_met.ensures s in
    alike_all (all_alike j c.in-No.is o q B a z) (λ u. refl) (on j c.in-No.is c.behind-line.ensures q B a z) _
    (sym (ap spent_outcome c.in-Some.is) ∙ whole-rest j c.in-No.is c.behind-line.ensures _ c.without-then-not-asked.ensures c.rest_alike.ensures s (joined-inside _ _ c.joined-all_met.ensures)))

pub plan_walk-loop-trials-smaller : goal.plan_walk-loop-trials-smaller
plan_walk-loop-trials-smaller t c =
    let j = judged c.args.board.now.words c.args.board.now.people (number c.args.absent) c.args.left c.args.limit c.args.p c.loop-trials.invariant.0 c.loop-trials.invariant.1 c.without.ensures c.next_try.ensures
    c.in-Move.is c.placed.ensures c.next_step-step.ensures c.plan_walk-sub.ensures c.joined_steps-looked.ensures c.up_to.ensures c.joined-in-Move.ensures c.joined-met.ensures in
    rw (off-fit j c.in-No.is c.behind-line.ensures (number c.args.absent))
    (trying-own c.args.board.now.words c.args.board.now.people c.args.left _ _ c.loop-trials.invariant.0 c.loop-trials.invariant.1 c.without.ensures c.next_try.ensures c.in-Move.is (people_fit c.args.absent (omega arith))).fewer

pub plan_walk-loop-trials-preserved : goal.plan_walk-loop-trials-preserved
plan_walk-loop-trials-preserved t c =
    let j = judged c.args.board.now.words c.args.board.now.people (number c.args.absent) c.args.left c.args.limit c.args.p c.loop-trials.invariant.0 c.loop-trials.invariant.1 c.without.ensures c.next_try.ensures
    c.in-Move.is c.placed.ensures c.next_step-step.ensures c.plan_walk-sub.ensures c.joined_steps-looked.ensures c.up_to.ensures c.joined-in-Move.ensures c.joined-met.ensures in
    (inside_on j c.in-No.is c.behind-line.ensures, on j c.in-No.is c.behind-line.ensures)
