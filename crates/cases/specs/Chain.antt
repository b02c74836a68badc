-- The arena of a case, steps as listed, and the walks on it.
use Rattle.std.specs.Prelude.{List, [], ◌∷◌, ◌++◌, ℕ, ◌-◌, length}
use Rattle.std.proofs.Math.Option.{Option, none, some}
use Rattle.sets.specs.Lists.{only_if, cons_if}
use Rattle.games.specs.Arena.{Arena}
use Rattle.games.specs.Walks.{Search, plan, static, decremental, one_shot, dynamic, advice, away}
use Rattle.cases.specs.declared.Case.{Case}
use Rattle.cases.specs.Case.{people, steps}
use Rattle.cases.specs.Plans.{may, holds}

abbrev pub person_of : Option (ℕ × ℕ) → Option ℕ
person_of none = none
person_of (some a) = some a.0

module _ (c : Case) where
  -- a move is a person: one trial where they may do the next step, else none
  unfoldable pub offers : List ℕ → ℕ → List ℕ
  offers p u = cons_if (may c u (length p)) u []

  -- the position with one person more, none where a rule breaks
  unfoldable pub place : List ℕ → ℕ → Option (List ℕ)
  place p u = only_if (holds c (p ++ (u ∷ []))) (p ++ (u ∷ []))

  abbrev pub chain : Arena
  chain = record { Pos = List ℕ; Move = ℕ; people = people c; moves = offers; after = place }

  -- ---- The walks of the five questions

  abbrev pub plan_of : Search (List ℕ)
  plan_of = plan chain 0 (steps c) []

  abbrev pub static_of : ℕ → Search ℕ
  static_of t = static chain t (steps c) []

  abbrev pub decremental_of : ℕ → Search ℕ
  decremental_of t = decremental chain t (steps c) 0 []

  abbrev pub one_shot_of : ℕ → Search ℕ
  one_shot_of t = one_shot chain t (steps c) []

  abbrev pub dynamic_of : ℕ → Search ℕ
  dynamic_of t = dynamic chain t (steps c) []

  -- ---- The walks of play, at a position

  -- advice names a person; the move is the same person
  abbrev pub advice_at : ℕ → ℕ → List ℕ → Search ℕ
  advice_at t A p = let w = advice chain t (steps c - length p) A p in record { got = person_of w.got; trials = w.trials }

  abbrev pub away_at : ℕ → List ℕ → Search ℕ
  away_at t p = away chain t (steps c - length p) p
