-- An entry of a table by halves, step by step of its half.
use mathlib.Core.Path.{◌≡◌, sym, ap, ap₂, ◌∙◌}
use mathlib.Core.Bool.{Bool, true, false, not, ◌&&◌, ◌||◌}
use mathlib.Core.List.{List}
use Prim.Native.Nat.{ℕ, ◌+◌, ◌^◌, ◌≤◌, ◌<◌}
use native.Mathlib.Omega.{arith}
use lib.ListN.{get_or}
use Rattle.sets.specs.Lists.{pick, from, upto, all}
use Rattle.sets.specs.Sets.{has, set_of, difference}
use Rattle.sets.proofs.Lists.{and-true-end}
use Rattle.sets.proofs.Counting.{has-set_of, set_of-has, set_of-ext}
use Rattle.cases.specs.Case.{most_rules}
use Rattle.boards.specs.Board.{half_steps, half_step}
use Rattle.pieces.specs.Pieces.{free_in, half_in, Halved}
use Rattle.pieces.proofs.Tests.{and_assoc, all-next}

module _ (waits : List ℕ) (whole j : ℕ) where
  abbrev free : ℕ → ℕ → Bool
  free i x = has j x || not (has (get_or waits (half_step j x) 0) i)

  pub half-start : whole < 2 ^ most_rules → Halved waits whole j 0 whole
  unfolding free_in all upto from
  half-start h =
      record {
        upto = omega arith;
        those = sym (set_of-has most_rules whole h) ∙ set_of-ext (has whole) _ most_rules (λ i l. sym (and-true-end (has whole i)));
      }

  pub step-halved : {n set : ℕ} → Halved waits whole j n set → n < half_steps → (at : ℕ) → at ≡ half_step j n → (stay : Bool) (set' : ℕ) → stay ≡ has j n
      → set' ≡ pick stay set (difference most_rules set (get_or waits at 0)) → Halved waits whole j (n + 1) set'
  unfolding free_in
  step-halved {n} {set} g h at place stay set' e q =
      record { upto = omega arith; those = q ∙ ap (λ (x : ℕ). pick stay set (difference most_rules set (get_or waits x 0))) place ∙ go stay e }
    where
      next : (i : ℕ) → (has whole i && all (free i) (upto n)) && free i n ≡ has whole i && all (free i) (upto (n + 1))
      next i = and_assoc (has whole i) (all (free i) (upto n)) (free i n) ∙ ap (λ (d : Bool). has whole i && d) (sym (all-next (free i) n))

      go : (d : Bool) → d ≡ has j n
          → pick d set (difference most_rules set (get_or waits (half_step j n) 0)) ≡ set_of (λ i. has whole i && all (free i) (upto (n + 1))) most_rules
      go true k =
          g.those ∙ set_of-ext _ _ most_rules
          (λ i l. sym (and-true-end (has whole i && all (free i) (upto n)))
          ∙ ap (λ (d : Bool). (has whole i && all (free i) (upto n)) && (d || not (has (get_or waits (half_step j n) 0) i))) k ∙ next i)
      go false k =
          set_of-ext _ _ most_rules
          (λ i l. ap₂ ◌&&◌ (ap (λ (s : ℕ). has s i) g.those ∙ has-set_of (λ v. has whole v && all (free v) (upto n)) most_rules i l)
          (ap (λ (d : Bool). d || not (has (get_or waits (half_step j n) 0) i)) k) ∙ next i)

  pub half-end : {n set : ℕ} → Halved waits whole j n set → half_steps ≤ n → set ≡ half_in waits whole j
  half-end {n} {set} g h = let e : n ≡ half_steps = omega (arith, g.upto) in g.those ∙ ap (free_in waits whole j) e
