-- Playing the dynamic game, as either side.
use Rattle.std.specs.Prelude.{◌≡◌, List, [], ◌∷◌, ℕ, zero, suc, length}
use Rattle.std.proofs.Math.Option.{Option, none, some}
use Rattle.games.specs.Arena.{Arena, Round}
use Rattle.games.specs.Walks.{advice, away}
use Rattle.games.specs.Games.{Absent}

module _ (G : Arena) where
  -- ---- The desk follows the advice, under a list of absence sets, one a round

  -- each of them is of at most t people
  abbrev pub AllAbsent : ℕ → List ℕ → Type 0
  AllAbsent t [] = Unit {0}
  AllAbsent t (A ∷ As) = Absent G.people t A × AllAbsent t As

  abbrev pub placed : G.Pos → Option (ℕ × G.Move) → Option G.Pos
  placed p none = none
  placed p (some a) = G.after p a.1

  abbrev pub onward : (G.Pos → Option G.Pos) → Option G.Pos → Option G.Pos
  onward go none = none
  onward go (some q) = go q

  -- the position that is come to, as many rounds on as there are sets, one for each step that is left; none where the advice is "none" on the way
  unfoldable pub followed : ℕ → List ℕ → G.Pos → Option G.Pos
  followed t [] p = some p
  followed t (A ∷ As) p = onward (followed t As) (placed p (advice G t (suc (length As)) A p).got)

  -- rounds from p to q, one with each of the sets away
  abbrev pub Rounds : List ℕ → G.Pos → G.Pos → Type 0
  Rounds [] p q = p ≡ q
  Rounds (A ∷ As) p q = (r : G.Pos) × Round G A p r × Rounds As r q

  -- ---- The away side names who stays away

  -- With k steps left: away names a set of at most t people, and whatever round the desk makes with them away, it is stopped after it.
  -- With no step left the desk is not stopped.
  abbrev pub Stopped : ℕ → ℕ → G.Pos → Type 0
  Stopped t zero p = ⊥
  Stopped t (suc k) p =
      (A : ℕ) × ((away G t (suc k) p).got ≡ some A) × Absent G.people t A × ((q : G.Pos) → Round G A p q → Stopped t k q)
