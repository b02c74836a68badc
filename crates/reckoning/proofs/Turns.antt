-- A turn of the desk that the first who fits holds, with the turns that follow it.
use mathlib.Core.Path.{◌≡◌, refl, sym, ap, ◌∙◌}
use mathlib.Core.Option.{Option, none}
use mathlib.Core.Bool.{true, false, not, ◌&&◌}
use mathlib.Core.List.{List}
use Prim.Native.Nat.{ℕ, zero, suc, ◌+◌, ◌^◌, ◌≤◌, ◌<◌}
use Rattle.sets.specs.Sets.{has, count, size}
use Rattle.sets.specs.Stored.{width}
use Rattle.games.specs.Walks.{lacking, if_none, unbeaten, decremental}
use Rattle.cases.specs.declared.Filled.{Filled}
use Rattle.boards.specs.Arena.{put_on, board_arena}
use Rattle.tries.specs.Trying.{step_on, Alone, InLine}
use Rattle.sums.specs.Sums.{capped, Summed}
use Rattle.sums.proofs.Sums.{over_nothing}
use Rattle.sums.proofs.Summed.{summed-weights, summed-grown}
use Rattle.reckoning.specs.Reckoned.{turn_on}
use Rattle.reckoning.proofs.Desk.{desk-first}

-- ---- one turn

module _ (b : List ℕ) (n A : ℕ) (p : Filled) (T F : ℕ) (one : Alone b p) (line : InLine b n A p T F) (h : n ≤ width)
    (M S v : ℕ) (missed : (u : ℕ) → u < width → has M u ≡ has T u && not (has F u))
    (more : (u : ℕ) → has A u ≡ true → has S u ≡ true) (known : v < width) (fit : has F v ≡ true) (here : has S v ≡ false)
    (earlier : (u : ℕ) → u < v → has F u ≡ true → has S u ≡ true) (t k : ℕ) where
  abbrev q : Filled
  q = put_on p v (step_on b p)

  abbrev before : ℕ
  before = count (λ u. has M u && not (has S u)) v

  -- v leads on to a position where nobody beats the desk
  pub turn-first : (decremental (board_arena b n) t k S q).got ≡ none
      → turn_on b n t (suc k) p S ≡ record { got = none; trials = suc before + (decremental (board_arena b n) t k S q).trials }
  unfolding turn_on if_none
  turn-first e =
      ap (if_none S)
      (desk-first b n A p T F one line h M S v missed more known fit here earlier (λ r. unbeaten (decremental (board_arena b n) t k S r)) tt (decremental (board_arena b n) t k S q).trials
      (ap (λ (o : Option ℕ). record { got = lacking tt o; trials = (decremental (board_arena b n) t k S q).trials }) e))

-- ---- the turns that follow

module _ (b : List ℕ) (n k : ℕ) (q : Filled) (v w : ℕ → ℕ) (r A : ℕ) (fits : A < 2 ^ n) where
  -- what the turns with k steps left sum up to, where each set is reached as often as it is after one step more
  pub next-summed : (x : ℕ) → ((u : ℕ) → u < n → v u ≡ w u + 1)
      → Summed (turn_on b n (r + size n A) k q) n v r A x → Summed (λ S. decremental (board_arena b n) (r + size n A) k S q) n w r A x
  unfolding turn_on decremental
  next-summed x e s = at k (summed-weights {v = v} {w = λ u. w u + 1} e s)
    where
      at : (j : ℕ) → Summed (turn_on b n (r + size n A) j q) n (λ u. w u + 1) r A x → Summed (λ S. decremental (board_arena b n) (r + size n A) j S q) n w r A x
      at zero z = record { holds = λ S left y. refl; sum = z.sum ∙ ap capped (over_nothing (λ u. w u + 1) n r A ∙ sym (over_nothing w n r A)) }
      at (suc j) z = summed-grown n w r A (turn_on b n (r + size n A) (suc j) q) x fits z
