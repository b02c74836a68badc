-- What a sum says of a turn of the away side in the decremental walk.
use mathlib.Core.Path.{◌≡◌, refl, sym, ap, ap₂, ◌∙◌, subst}
use mathlib.Core.Option.{none}
use mathlib.Core.List.{List}
use Prim.Native.Nat.{ℕ, zero, suc, ◌+◌, ◌-◌, ◌^◌, ◌≤◌, ◌<◌}
use native.Mathlib.Omega.{arith}
use lib.ListN.{get_or-replicate}
use Rattle.sets.specs.Sets.{size}
use Rattle.sets.specs.Stored.{width, number}
use Rattle.sets.specs.declared.People.{People}
use Rattle.games.specs.Walks.{Search, decremental}
use Rattle.games.specs.Limit.{stopped, whole, cut}
use Rattle.games.proofs.Limits.{cut-past}
use Rattle.cases.specs.declared.Filled.{Filled}
use Rattle.cases.specs.Case.{most_steps}
use Rattle.boards.specs.Arena.{board_arena}
use Rattle.tries.proofs.Agreeing.{agree-everywhere}
use Rattle.tries.specs.declared.Verdict.{Verdict}
use Rattle.tries.specs.Outcomes as outcomes
use Rattle.tries.specs.Outcomes.{verdict_outcome}
use Rattle.games.proofs.Cuts.{ends}
use Rattle.sums.specs.declared.Absences.{Absences}
use Rattle.sums.specs.Sums.{capped, Summed, Comes}
use Rattle.sums.specs.Arrays.{weight_of, once}
use Rattle.sums.proofs.Joins.{size-wide}
use Rattle.sums.proofs.Sums.{over_nothing}
use Rattle.sums.proofs.Summed.{summed-weights, summed-seek}
use Rattle.reckoning.specs.Reckoned.{turn_on, Says, Tells}
use Rattle.reckoning.specs.declared.Reckoned.{Reckoned}
use Rattle.std.specs.Prelude as code

once-weights : (held : People) (room u : ℕ) → u < width → weight_of (once held room) u ≡ 1
once-weights held room u l = get_or-replicate 32 u 1 0 l

-- no weight is too large for so many steps
pub once-small : (held : People) (room left : ℕ) (sets : Absences) → sets ≡ once held room → left ≤ 8 → (u : ℕ) → u < width → weight_of sets u + left < 256
once-small held room left sets e h u l = omega (arith, ap (λ (a : Absences). weight_of a u) e, once-weights held room u l)

pub once-fits : (n : ℕ) (held : People) (room : ℕ) (sets : Absences) → sets ≡ once held room → number held < 2 ^ n → number sets.held < 2 ^ n
once-fits n held room sets e h = subst (λ (a : Absences). number a.held < 2 ^ n) (sym e) h

module _ (b : List ℕ) (n k : ℕ) (p : Filled) (few : n ≤ width) where
  -- each set is counted once
  summed-once : {f : ℕ → Search ℕ} {x : ℕ} (held : People) (room : ℕ) → Summed f n (weight_of (once held room)) room (number held) x → Summed f n (λ u. 1) room (number held) x
  summed-once held room s = summed-weights {v = weight_of (once held room)} {w = λ u. 1} (λ u l. once-weights held room u (omega (arith, l, few))) s

  decremental-comes : (r : ℕ) (away : People) (x : ℕ) → number away < 2 ^ n → Summed (turn_on b n (r + size n (number away)) k p) n (weight_of (once away r)) r (number away) x
      → Comes (decremental (board_arena b n) (r + size n (number away)) k (number away) p) x
  unfolding turn_on decremental
  decremental-comes r away x l s = at k (summed-once away r s)
    where
      at : (j : ℕ) → Summed (turn_on b n (r + size n (number away)) j p) n (λ u. 1) r (number away) x → Comes (decremental (board_arena b n) (r + size n (number away)) j (number away) p) x
      at zero z = (refl, z.sum ∙ ap capped (over_nothing (λ u. 1) n r (number away)))
      at (suc j) z = summed-seek (turn_on b n (r + size n (number away)) (suc j) p) n r (number away) x l z

  -- a turn of the away side: those away are held, and more may go before each later step
  pub away-tells : (t z : ℕ) (away : People) (sets : Absences) (r : code.Option Reckoned) → number away < 2 ^ n → size n (number away) ≤ t → z ≡ size width (number away) → sets ≡ once away (t - z)
      → Says b n sets k p r → Tells (decremental (board_arena b n) t k (number away) p) r
  away-tells t z away sets code.None l h q e s = tt
  away-tells t z away sets (code.Some r) l h q e s =
      subst (λ (m : ℕ). Comes (decremental (board_arena b n) m k (number away) p) r.trials) same
      (decremental-comes (t - z) away r.trials l (subst (λ (a : Absences). Summed (turn_on b n (a.room + size n (number a.held)) k p) n (weight_of a) a.room (number a.held) r.trials) e s))
    where
      same : t - z + size n (number away) ≡ t
      same = omega (arith, q, h, size-wide n (number away) few l)

-- ---- the verdict

module _ (limit x : ℕ) (few : limit < 2 ^ 32) (w : Search ℕ) (c : Comes w x) where
  pub comes-limit : limit < x → stopped limit ≡ cut limit w
  comes-limit l = sym (cut-past limit w (omega (arith, c.1)))

  pub comes-yes : x ≤ limit → whole (record { got = none; trials = x }) ≡ cut limit w
  comes-yes l =
      let same : w.trials ≡ x = omega (arith, c.1) in
      ends limit w none x (ap₂ (λ o m. record { got = o; trials = m }) c.0 same) l

-- ---- the answer from every position that agrees

module _ (walk : Filled → Search ℕ) (limit : ℕ) (p : Filled) {r : code.Option Reckoned} {x : Reckoned} (v : Verdict) where
  pub told-for-all : Tells (walk p) r → r ≡ code.Some x → ((w : Search ℕ) → Comes w x.trials → verdict_outcome limit v ≡ cut limit w)
      → outcomes.Tells walk limit p (2 ^ most_steps - 1) (verdict_outcome limit v)
  told-for-all s e tell q a =
      tell (walk p) (subst (Tells (walk p)) e s) ∙ ap (λ (z : Filled). cut limit (walk z)) (sym (agree-everywhere p q a))
