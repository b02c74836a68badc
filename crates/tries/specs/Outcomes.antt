-- What the searches' answers say, as the answers of `cut`; and the walks of `games` on a board that they are compared with.
use Rattle.std.specs.Prelude.{◌≡◌, true, List, ℕ, ◌^◌, ◌<◌}
use Rattle.std.proofs.Math.Option.{Option, none, some}
use Rattle.sets.specs.Sets.{has}
use Rattle.sets.specs.Stored.{width, number}
use Rattle.games.specs.Walks.{Walk, Search, if_none, unbeaten, desk, plan, decremental, one_shot}
use Rattle.games.specs.Limit.{Answer, stopped, whole, cut}
use Rattle.cases.specs.declared.Filled.{Filled}
use Rattle.boards.specs.Arena.{Done, by, board_arena}
use Rattle.boards.specs.Looked.{Agree}
use Rattle.tries.specs.declared.PlanEnd.{PlanEnd}
use Rattle.tries.specs.declared.PlanEnd.TheVariants as plan_end
use Rattle.tries.specs.declared.Planned.{Planned}
use Rattle.tries.specs.declared.Verdict.{Verdict}
use Rattle.tries.specs.declared.Verdict.TheVariants as verdict
use Rattle.tries.specs.declared.Advised.{Advised}
use Rattle.tries.specs.declared.Advised.TheVariants as advised
use Rattle.tries.specs.declared.Turn.{Turn}
use Rattle.tries.specs.declared.Turn.TheVariants as turn

-- ---- What an answer says, under a limit l

-- something got, or nothing, in c trials
abbrev pub found : {B : Type 0} → B → ℕ → Answer (Option B)
found b c = whole (record { got = some b; trials = c })

abbrev pub nothing : {B : Type 0} → ℕ → Answer (Option B)
nothing c = whole (record { got = none; trials = c })

abbrev pub plan_ended : ℕ → Filled → PlanEnd → Answer (Option Filled)
plan_ended l q plan_end.Limit = stopped l
plan_ended l q (plan_end.No c) = nothing c
plan_ended l q (plan_end.Yes c) = found q c

abbrev pub plan_outcome : ℕ → Planned → Answer (Option Filled)
plan_outcome l r = plan_ended l r.plan r.end

abbrev pub verdict_outcome : ℕ → Verdict → Answer (Option ℕ)
verdict_outcome l verdict.Limit = stopped l
verdict_outcome l (verdict.Yes c) = nothing c
verdict_outcome l (verdict.No s c) = found (number s) c

abbrev pub advised_outcome : ℕ → Advised → Answer (Option (ℕ × Done))
advised_outcome l advised.Limit = stopped l
advised_outcome l (advised.Nobody c) = nothing c
advised_outcome l (advised.Move s v c) = found (v.0, by v.0 s.0) c

-- a turn of the desk with A away: A is got exactly if it beats the desk
abbrev pub turn_outcome : ℕ → ℕ → Turn → Answer (Option ℕ)
turn_outcome l A turn.Limit = stopped l
turn_outcome l A (turn.Beaten c) = found A c
turn_outcome l A (turn.Holds c) = nothing c

-- ---- Walks on a board b for n people

module _ (b : List ℕ) (n t : ℕ) where
  -- a turn of the desk in the decremental game with A away and k steps left after it: A where it beats the desk
  unfoldable pub beats_on : ℕ → Filled → ℕ → Search ℕ
  beats_on k p A = if_none A (desk (board_arena b n) (λ q. unbeaten (decremental (board_arena b n) t k A q)) A p)

  -- a turn of the desk in the one-shot game after a pass, with k steps left after it: nobody, where the pass beats the desk
  unfoldable pub pass_on : ℕ → Filled → Search ℕ
  pass_on k p = if_none 0 (desk (board_arena b n) (λ q. unbeaten (one_shot (board_arena b n) t k q)) 0 p)

-- ---- What was looked at

-- an answer tells a walk: from p, and from every position that agrees with p at the steps looked at
abbrev pub Tells : {B : Type 0} → (Filled → Walk B) → ℕ → Filled → ℕ → Answer B → Type 0
Tells walk l p looked a = (q : Filled) → Agree looked p q → a ≡ cut l (walk q)

-- who is away is the same, as far as those met go
pub record SameAway (met A B : ℕ) : Type 0 where
  pub fits : B < 2 ^ width
  pub same : (u : ℕ) → u < width → has met u ≡ true → has A u ≡ has B u

-- a search for a plan tells its walk from p; from the others that agree, the same but for who fills the steps that were not looked at; and so with other
-- people away, where that is the same of all who were met
pub record PlanTold (b : List ℕ) (n A k l : ℕ) (p : Filled) (r : Planned) : Type 0 where
  pub own : (B : ℕ) → SameAway (number r.met) A B → plan_outcome l r ≡ cut l (plan (board_arena b n) B k p)
  pub others : (q : Filled) → Agree r.looked p q → (B : ℕ) → SameAway (number r.met) A B
      → (e : Filled) × (plan_ended l e r.end ≡ cut l (plan (board_arena b n) B k q))
