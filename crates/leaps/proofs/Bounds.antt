-- The bound of a leap: the set has nobody below it, and a leap starts with those below it alone.
use mathlib.Core.Path.{◌≡◌, sym, ap, ap₂, subst, subst₂, ◌∙◌}
use mathlib.Core.Logic.{◌⊎◌, inl, inr}
use mathlib.Core.Bool.{false}
use mathlib.Core.Option.{none, some}
use mathlib.Core.List.{List}
use Prim.Native.Nat.{ℕ, zero, suc, ◌-◌, ◌*◌, ◌/◌, ◌^◌, ◌≤◌, ◌<◌}
use native.Mathlib.Nat.{add-zero, mul-one, mul_assoc, pow-suc, le_refl}
use native.Mathlib.Decide.{dec_lt}
use native.Mathlib.Omega.{arith}
use lib.Pow.{pow_pos}
use Rattle.sets.specs.Sets.{has, bit, size, lowest}
use Rattle.sets.specs.Stored.{width, number}
use Rattle.sets.specs.declared.People.{People}
use Rattle.sets.proofs.Lists.{pick-lt, pick-ge}
use Rattle.sets.proofs.Bits.{has-high, has-beyond, has-lt, bit-first}
use Rattle.sets.proofs.Members.{lowest-nobody, lowest-some, lowest-least}
use Rattle.games.specs.Walks.{if_none, plan}
use Rattle.cases.specs.declared.Filled.{Filled}
use Rattle.boards.specs.Arena.{board_arena}
use Rattle.sums.specs.declared.Absences.{Absences}
use Rattle.sums.specs.Sums.{only_below, Summed}
use Rattle.sums.specs.Arrays.{weight_of, OnceBelow}
use Rattle.sums.proofs.Joins.{size-wide}
use Rattle.sums.proofs.Summed.{summed-weights}
use Rattle.leaps.specs.Leaps.{Leapt, Free}

-- ---- nobody below

-- person h is not in it either
double : (h s q : ℕ) → has s h ≡ false → s ≡ q * 2 ^ h → (r : ℕ) × (s ≡ r * 2 ^ suc h)
double h s q f e = (q / 2, e ∙ ap (λ (x : ℕ). x * 2 ^ h) even ∙ mul_assoc (q / 2) 2 (2 ^ h) ∙ ap (λ (x : ℕ). q / 2 * x) twice)
  where
    gone : has q 0 ≡ false
    gone = sym (has-high q h 0 0 (pow_pos h)) ∙ ap₂ has (add-zero (q * 2 ^ h) ∙ sym e) (add-zero h) ∙ f

    even : q ≡ q / 2 * 2
    even = omega (arith, bit-first q, ap bit gone)

    twice : 2 * 2 ^ h ≡ 2 ^ suc h
    twice = omega (arith, pow-suc 2 h)

-- a set with nobody below h, as a number
pub multiple : (h s : ℕ) → ((u : ℕ) → u < h → has s u ≡ false) → (q : ℕ) × (s ≡ q * 2 ^ h)
multiple zero s f = (s, sym (mul-one s))
multiple (suc h) s f = let below = multiple h s (λ u l. f u (omega arith)) in double h s below.0 (f h (le_refl (suc h))) below.1

pub free-nobody : (n s : ℕ) → s < 2 ^ width → lowest width s ≡ none → Free n s n
free-nobody n s l e = record { within = le_refl n; nobody = λ h u k. at u (dec_lt u width) }
  where
    at : (u : ℕ) → Dec (u < width) → has s u ≡ false
    at u (yes k) = lowest-nobody width s e u k
    at u (no k) = has-beyond width s u l (omega arith)

pub free-low : (n s : ℕ) → Free n s 0
free-low n s = record { within = omega arith; nobody = λ h u k. absurd (omega arith) }

pub free-at : (n s v h : ℕ) → s < 2 ^ n → lowest width s ≡ some v → h ≡ v - 1 → Free n s h
free-at n s v h l e q =
    record {
      within = omega (arith, has-lt n s v l (lowest-some width s v e).1);
      nobody = λ i u k. lowest-least width s v e u (omega arith);
    }

-- ---- those below the bound alone

below-is : (n u : ℕ) → Dec (u < n) → ((u < n) × (only_below n u ≡ 1)) ⊎ ((n ≤ u) × (only_below n u ≡ 0))
below-is n u (yes l) = inl (l, sym (pick-lt u n 1 0 l))
below-is n u (no l) = let h : n ≤ u = omega arith in inr (h, sym (pick-ge u n 1 0 h))

-- nobody below a lower bound counts more
pub below-le : (n h u : ℕ) → h ≤ n → only_below h u ≤ only_below n u
below-le n h u l = at (below-is n u (dec_lt u n)) (below-is h u (dec_lt u h))
  where
    at : ((u < n) × (only_below n u ≡ 1)) ⊎ ((n ≤ u) × (only_below n u ≡ 0)) → ((u < h) × (only_below h u ≡ 1)) ⊎ ((h ≤ u) × (only_below h u ≡ 0)) → only_below h u ≤ only_below n u
    at (inl a) (inl b) = omega (arith, a.1, b.1)
    at (inr a) (inl b) = absurd (omega (arith, a.0, b.0, l))
    at d (inr b) = omega (arith, b.1)

-- nobody counts more than once, and only who is below the bound does
pub below_one : (n u w : ℕ) → w ≤ only_below n u → w ≤ 1
below_one n u w l = at (below-is n u (dec_lt u n))
  where
    at : ((u < n) × (only_below n u ≡ 1)) ⊎ ((n ≤ u) × (only_below n u ≡ 0)) → w ≤ 1
    at (inl a) = omega (arith, a.1, l)
    at (inr a) = omega (arith, a.1, l)

pub below-known : (n u w : ℕ) → w ≤ only_below n u → w ≡ 1 → u < n
below-known n u w l e = at (below-is n u (dec_lt u n))
  where
    at : ((u < n) × (only_below n u ≡ 1)) ⊎ ((n ≤ u) × (only_below n u ≡ 0)) → u < n
    at (inl a) = a.0
    at (inr a) = absurd (omega (arith, a.1, l, e))

-- ---- the leap

module _ {n most h room : ℕ} {sets : Absences} {set : People} (few : n ≤ width) (fits : number set < 2 ^ n) (free : Free n (number set) most)
    (low : h ≤ most) (once : OnceBelow set room h sets) where
  pub start_fits : number sets.held < 2 ^ n
  start_fits = subst (λ (x : People). number x < 2 ^ n) (sym once.held) fits

  pub start_small : (u : ℕ) → u < width → weight_of sets u ≤ only_below n u
  start_small u l = omega (arith, once.weights u l, below-le n h u (omega (arith, low, free.within)))

  pub leapt : (b : List ℕ) (t k : ℕ) (p : Filled) (z x : ℕ) → z ≡ size width (number set) → z < t → room ≡ t - z → 1 < h
      → Summed (λ S. if_none S (plan (board_arena b n) S k p)) n (weight_of sets) sets.room (number sets.held) x → Leapt b n t (number set) k p h x
  leapt b t k p z x c less r more sum =
      record {
        within = omega (arith, low, free.within);
        multiple = multiple h (number set) (λ u l. nobody u (omega arith));
        free = λ l. nobody h (le_refl h);
        room = omega (arith, c, less, same);
        summed = summed-weights (λ u l. once.weights u (omega (arith, l, few)))
            (subst₂ (λ (m : ℕ) (A : People). Summed (λ S. if_none S (plan (board_arena b n) S k p)) n (weight_of sets) m (number A) x) (once.room ∙ left) once.held sum);
      }
    where
      same : size n (number set) ≡ size width (number set)
      same = size-wide n (number set) few fits

      left : room ≡ t - size n (number set)
      left = omega (arith, r, c, same)

      nobody : (u : ℕ) → u ≤ h → has (number set) u ≡ false
      nobody u l = free.nobody (omega (arith, low, more)) u (omega (arith, low, l))
