-- On a board that means a case, 13 is 13 of the case.
use mathlib.Core.Path.{◌≡◌, sym, ap, ap₂, ◌∙◌}
use mathlib.Core.Bool.{true, false, not, ◌||◌}
use mathlib.Core.Option.{some}
use mathlib.Core.List.{List, [], ◌∷◌, ◌++◌}
use Prim.Native.Nat.{ℕ, zero, suc, ◌≤◌, ◌<◌}
use native.Mathlib.Decide.{dec_lt}
use native.Mathlib.Omega.{arith}
use borrow.Author.Tests.{le-ltb}
use lib.Dec.{ltb}
use lib.ListN.{length, get_or, take, length-take}
use lib.Seq.{take-suc, get_or-take}
use Rattle.sets.specs.Lists.{pick}
use Rattle.sets.specs.Sets.{has}
use Rattle.cases.specs.declared.Case.{Case}
use Rattle.cases.specs.Case.{people, steps}
use Rattle.cases.specs.Plans.{may, holds, Valid}
use Rattle.cases.proofs.Rounds.{start-valid}
use Rattle.boards.specs.Board.{allowed_on, fits_on}
use Rattle.meaning.specs.Listed.{filled_by}
use Rattle.refusals.specs.Refusals.{refusal, refusal_at}
use Rattle.refusals.proofs.Search.{found-along}
use Rattle.asking.specs.Asking.{bad_entry, position_check}
use Rattle.asking.specs.OnBoard.{bad_next, bad_entry_on, position_check_on}
use Rattle.asking.proofs.Accepted.{passes}

-- a board tells who may do a step, and with whom every rule is kept
pub record Means (c : Case) (b : List ℕ) : Type 0 where
  pub allows : (u s : ℕ) → u < people c → s < steps c → has (allowed_on b s) u ≡ may c u s
  pub fits : (p : List ℕ) (u : ℕ) → u < people c → length p < steps c → Valid c p → has (fits_on b (filled_by p) (length p)) u ≡ holds c (p ++ (u ∷ []))

module _ (c : Case) (b p : List ℕ) (m : Means c b) (short : length p < steps c) where
  -- as far as no entry fails, the position is valid
  valid-so-far : (i : ℕ) → i ≤ length p → ((j : ℕ) → j < i → bad_entry c p j ≡ false) → Valid c (take i p)
  valid-so-far i l h = record { able = able; kept = kept i l h }
    where
      able : (j : ℕ) → j < length (take i p) → may c (get_or (take i p) j 0) j ≡ true
      able j k =
          let n : j < i = omega (arith, length-take i p) in
          ap (λ u. may c u j) (get_or-take i p j 0 n) ∙ (passes c p j (h j n)).1

      kept : (i : ℕ) → i ≤ length p → ((j : ℕ) → j < i → bad_entry c p j ≡ false) → holds c (take i p) ≡ true
      kept zero l h = (start-valid c).kept
      kept (suc j) l h = (passes c p j (h j (omega arith))).2

  -- the tests of an entry agree
  entry-means : (i : ℕ) → i < length p → ((j : ℕ) → j < i → bad_entry c p j ≡ false) → bad_entry c p i ≡ bad_entry_on b (people c) p i
  unfolding bad_entry bad_entry_on bad_next
  entry-means i l h = go (dec_lt (get_or p i 0) (people c))
    where
      at : length (take i p) ≡ i
      at = omega (arith, length-take i p)

      -- who stands there, and where they are known, allowed and fit
      v : ℕ
      v = get_or p i 0

      go : Dec (v < people c)
          → not (ltb v (people c)) || (not (may c v i) || not (holds c (take (suc i) p)))
          ≡ not (ltb v (people c)) || (not (has (allowed_on b i) v) || not (has (fits_on b (filled_by (take i p)) i) v))
      go (yes k) =
          ap₂ (λ x y. not (ltb v (people c)) || (not x || not y))
          (sym (m.allows v i k (omega arith)))
          (ap (holds c) (take-suc p i 0 l) ∙ sym (m.fits (take i p) v k (omega (arith, at)) (valid-so-far i (omega arith) h)) ∙ ap (λ s. has (fits_on b (filled_by (take i p)) s) v) at)
      go (no k) = simp (le-ltb v (people c) (omega arith))

module _ (c : Case) (b p : List ℕ) (m : Means c b) where
  pub position-means : position_check_on b (people c) (steps c) p ≡ position_check c p
  unfolding position_check_on position_check
  position-means = go (dec_lt (length p) (steps c))
    where
      go : Dec (length p < steps c) → position_check_on b (people c) (steps c) p ≡ position_check c p
      go (yes l) =
          ap (λ o. pick (ltb (length p) (steps c)) (refusal_at 13 (λ i. i) o) (some (refusal 13 (steps c))))
          (sym (found-along (bad_entry c p) (bad_entry_on b (people c) p) (length p) (entry-means c b p m l)))
      go (no l) = simp (le-ltb (length p) (steps c) (omega arith))
