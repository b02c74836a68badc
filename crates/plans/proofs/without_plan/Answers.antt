-- A turn of the static walk: the plan walk, told as whether there is a plan.
use mathlib.Core.Path.{◌≡◌, sym, ap, ◌∙◌}
use mathlib.Core.List.{List}
use native.Mathlib.Omega.{arith}
use Prim.Native.Nat.{ℕ, ◌^◌, ◌<◌}
use Rattle.sets.specs.Stored.{width, number}
use Rattle.sets.specs.declared.People.{People}
use Rattle.games.specs.Walks.{plan}
use Rattle.games.specs.Limit.{cut}
use Rattle.cases.specs.declared.Filled.{Filled}
use Rattle.boards.specs.Arena.{board_arena}
use Rattle.boards.specs.Looked.{Agree}
use Rattle.tries.specs.declared.PlanEnd.{PlanEnd}
use Rattle.tries.specs.declared.Planned.{Planned}
use Rattle.tries.specs.Outcomes.{plan_ended, PlanTold}
use Rattle.tries.proofs.Away.{same_self}
use Rattle.tries.proofs.Turns.{lacks-limit, lacks-none, lacks-some}
use Rattle.plans.proofs.without_plan.Goals as goal

people_fit : (s : People) → s.bits < 4294967296 → number s < 2 ^ width
unfolding number
people_fit s h = omega arith

-- with the same people away
told-by : {b : List ℕ} {n A k l : ℕ} {p : Filled} {r : Planned} {end : PlanEnd} → A < 2 ^ width → r.end ≡ end → PlanTold b n A k l p r → (q : Filled) → Agree r.looked p q
    → (e : Filled) × (plan_ended l e end ≡ cut l (plan (board_arena b n) A k q))
told-by h is w q a = let z = w.others q a _ (same_self _ _ h) in (z.0, sym (ap (plan_ended _ _) is) ∙ z.1)

pub returns-in-Limit : goal.returns-in-Limit
returns-in-Limit c = λ q a. lacks-limit _ _ _ (told-by (people_fit c.args.away (omega arith)) c.in-Limit.is c.plan_walk-walked.ensures q a).1

pub returns-in-No : goal.returns-in-No
returns-in-No c = λ q a. lacks-none _ _ _ _ (told-by (people_fit c.args.away (omega arith)) c.in-No.is c.plan_walk-walked.ensures q a).1

pub returns-in-Yes : goal.returns-in-Yes
returns-in-Yes c = λ q a. lacks-some _ _ _ _ _ (told-by (people_fit c.args.away (omega arith)) c.in-Yes.is c.plan_walk-walked.ensures q a).1
