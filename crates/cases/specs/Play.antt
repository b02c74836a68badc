-- Playing the dynamic game for a case.
use Rattle.std.specs.Prelude.{◌≡◌, ◌↔◌, true, false, List, [], ◌∷◌, ◌++◌, ℕ, ◌-◌, ◌<◌, length, get_or, take}
use Rattle.std.proofs.Math.Option.{Option, none, some}
use Rattle.sets.specs.Sets.{has}
use Rattle.games.specs.Games.{Dynamic}
use Rattle.cases.specs.declared.Case.{Case}
use Rattle.cases.specs.Case.{people, steps}
use Rattle.cases.specs.Plans.{Valid}
use Rattle.cases.specs.Questions.{Placed}
use Rattle.cases.specs.Chain.{advice_at, away_at}

module _ (c : Case) (t : ℕ) where
  -- p is valid, and the desk wins the dynamic game from it: what the scope calls a good position (by `good-wins` the walk's count is the same)
  abbrev pub WinsFrom : List ℕ → Type 0
  WinsFrom p = Valid c p × Dynamic (people c) (Placed c) t (steps c - length p) p

  -- person u's placing leaves a good position
  abbrev pub LeavesGood : List ℕ → ℕ → Type 0
  LeavesGood p u = WinsFrom (p ++ (u ∷ []))

  -- S is the set of the people whose placing leaves a good position
  abbrev pub GoodSet : List ℕ → ℕ → Type 0
  GoodSet p S = (u : ℕ) → u < people c → (has S u ≡ true) ↔ LeavesGood p u

  -- u is the lowest present person whose placing leaves a good position
  pub record Names (p : List ℕ) (A u : ℕ) : Type 0 where
    pub listed : u < people c
    pub present : has A u ≡ false
    pub wins : LeavesGood p u
    pub lowest : (v : ℕ) → v < u → has A v ≡ false → LeavesGood p v → ⊥

  -- ---- The desk follows the advice

  abbrev pub onward : (ℕ → Option (List ℕ)) → Option ℕ → Option (List ℕ)
  onward go none = none
  onward go (some u) = go u

  -- in each round it asks with that round's absentees, appends the person who is named, and goes on; none where the advice is "none" on the way
  unfoldable pub follow : List ℕ → List ℕ → Option (List ℕ)
  follow [] p = some p
  follow (A ∷ As) p = onward (λ u. follow As (p ++ (u ∷ []))) (advice_at c t A p).got

  -- ---- A desk plays on against away

  -- each of its persons was not in the set that away named before their step
  abbrev pub Dodges : List ℕ → Type 0
  Dodges q = (i : ℕ) → i < length q → (A : ℕ) → (away_at c t (take i q)).got ≡ some A → has A (get_or q i 0) ≡ false

-- each person of q was present in their round
abbrev pub Present : List ℕ → List ℕ → Type 0
Present As q = (i : ℕ) → i < length q → has (get_or As i 0) (get_or q i 0) ≡ false
