-- Playing the public calls, round by round.
use Rattle.std.specs.Prelude.{◌≡◌, false, List, [], ◌∷◌, ◌++◌, map, ℕ, ◌<◌, length, get_or, take}
use Rattle.std.proofs.Math.Option.{Option, some}
use Rattle.sets.specs.Sets.{has}
use Rattle.games.specs.Games.{Absent}
use Rattle.cases.specs.declared.Case.{Case}
use Rattle.cases.specs.Case.{people}
use Rattle.planner.specs.Calls.{advice_call, away_call}
use Rattle.planner.specs.Told.{advice_told, away_told}
use Rattle.promises.specs.Ends.{SaysLimit, Ends}

-- a round: who is absent in it, and the limit of its call
pub record Round : Type 0 where
  pub absent : ℕ
  pub limit : ℕ

module _ (c : Case) (t : ℕ) where
  -- each round's absentees are at most t of the people
  abbrev pub AllAbsent : List Round → Type 0
  AllAbsent [] = Unit {0}
  AllAbsent (r ∷ rs) = Absent (people c) t r.absent × AllAbsent rs

  -- what advice tells at position p in a round
  abbrev pub Advises : List ℕ → Round → Option ℕ → Type 0
  Advises p r b = Ends (advice_told (advice_call c p t r.absent r.limit)) b

  -- the call of advice at p does not stop at its limit
  abbrev pub AdvisedWithin : List ℕ → Round → Type 0
  AdvisedWithin p r = (n : ℕ) → SaysLimit (advice_told (advice_call c p t r.absent r.limit)) n → ⊥

  -- Following the advice from p, no call stops at its limit, for as long as somebody is named.
  abbrev pub EachWithin : List Round → List ℕ → Type 0
  EachWithin [] p = Unit {0}
  EachWithin (r ∷ rs) p = AdvisedWithin p r × ((u : ℕ) → Advises p r (some u) → EachWithin rs (p ++ (u ∷ [])))

  -- Following the advice from p comes to q: in every round somebody is named, and appended.
  abbrev pub Followed : List Round → List ℕ → List ℕ → Type 0
  Followed [] p q = p ≡ q
  Followed (r ∷ rs) p q = (u : ℕ) × Advises p r (some u) × Followed rs (p ++ (u ∷ [])) q

  -- the call of away at p, under limit l, does not stop at it
  abbrev pub AwayWithin : List ℕ → ℕ → Type 0
  AwayWithin p l = (n : ℕ) → SaysLimit (away_told (away_call c p t l)) n → ⊥

  -- A desk comes to q against away: before each step away is asked, under a limit at which it does not stop, and the person placed is not in the set
  -- that it names.
  abbrev pub Dodged : List ℕ → Type 0
  Dodged q =
      (i : ℕ) → i < length q
      → (l : ℕ) × AwayWithin (take i q) l × ((A : ℕ) → Ends (away_told (away_call c (take i q) t l)) (some A) → has A (get_or q i 0) ≡ false)

-- each person of q was present in their round
abbrev pub AllPresent : List Round → List ℕ → Type 0
AllPresent rs q = (i : ℕ) → i < length q → has (get_or (map (λ r. r.absent) rs) i 0) (get_or q i 0) ≡ false
