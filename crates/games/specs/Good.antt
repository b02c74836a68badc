-- Good positions, by counting people; and which plan comes first in the walk's order.
use Rattle.std.specs.Prelude.{◌≡◌, Bool, true, false, List, ◌∷◌, ◌++◌, ℕ, zero, suc, ◌<◌, ltb}
use Rattle.std.proofs.Math.Option.{Option, none, some}
use Rattle.sets.specs.Lists.{◌∈◌, any}
use Rattle.sets.specs.Sets.{count, set_of}
use Rattle.games.specs.Arena.{Arena, Round}
use Rattle.games.specs.Games.{Planned}

module _ (G : Arena) where
  abbrev pub passes : (G.Pos → Bool) → Option G.Pos → Bool
  passes test none = false
  passes test (some q) = test q

  -- person u can be placed so that the position left passes a test
  unfoldable pub can_leave : (G.Pos → Bool) → G.Pos → ℕ → Bool
  can_leave test p u = any (λ m. passes test (G.after p m)) (G.moves p u)

  -- A full position is good. Any other is good when more than t people can be placed that each leave a good position.
  unfoldable pub good : ℕ → ℕ → G.Pos → Bool
  good t zero p = true
  good t (suc k) p = ltb t (count (can_leave (good t k) p) G.people)

  -- how many people's placing leaves a good position with k steps left, and who they are
  abbrev pub good_count : ℕ → ℕ → G.Pos → ℕ
  good_count t k p = count (can_leave (good t k) p) G.people

  unfoldable pub good_people : ℕ → ℕ → G.Pos → ℕ
  good_people t k p = set_of (can_leave (good t k) p) G.people

  -- with k steps left after round x, no sooner choice leads to a plan: neither a lower present person, nor an earlier move of the same person
  pub record Earliest (A k : ℕ) {p r : G.Pos} (x : Round G A p r) : Type 0 where
    pub lower : (s : G.Pos) (y : Round G A p s) → y.person < x.person → Planned G.people (Round G) A k s → ⊥
    pub before : List G.Move
    pub behind : List G.Move
    pub split : G.moves p x.person ≡ before ++ (x.move ∷ behind)
    pub sooner : (m : G.Move) → m ∈ before → (s : G.Pos) → ◌≡◌ {A = Option G.Pos} (G.after p m) (some s)
        → Planned G.people (Round G) A k s → ⊥

  -- q is the first plan in the walk's order: each round on the way to it is the earliest
  abbrev pub First : ℕ → ℕ → G.Pos → G.Pos → Type 0
  First A zero p q = p ≡ q
  First A (suc k) p q = (r : G.Pos) × (x : Round G A p r) × Earliest A k x × First A k r q
