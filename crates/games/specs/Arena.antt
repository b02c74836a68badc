-- An arena says who can do what at a position. Taking the steps as listed makes one arena; another way to play makes another.
use Rattle.std.specs.Prelude.{◌≡◌, false, List, ℕ, ◌<◌}
use Rattle.std.proofs.Math.Option.{Option, some}
use Rattle.sets.specs.Lists.{◌∈◌}
use Rattle.sets.specs.Sets.{has}

pub record Arena : Type 1 where
  pub Pos : Type 0
  -- what a person does in one round
  pub Move : Type 0
  -- how many people there are
  pub people : ℕ
  -- what person u may be tried at from p, in order, each of them one trial
  pub moves : Pos → ℕ → List Move
  -- the position that a move leaves, none where a rule breaks
  pub after : Pos → Move → Option Pos

-- one round with A away: a person who is not in A makes a move from p that leaves q
pub record Round (G : Arena) (A : ℕ) (p q : G.Pos) : Type 0 where
  pub person : ℕ
  pub listed : person < G.people
  pub present : has A person ≡ false
  pub move : G.Move
  pub offered : move ∈ G.moves p person
  pub leaves : ◌≡◌ {A = Option G.Pos} (G.after p move) (some q)
