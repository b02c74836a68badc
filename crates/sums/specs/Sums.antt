-- Sums over the sets of people that some people can become when others join them.
use Rattle.std.specs.Prelude.{◌≡◌, true, false, ℕ, zero, suc, ◌+◌, ◌*◌, ◌^◌, ◌<◌, min, eqb, ltb}
use Rattle.std.proofs.Math.Option.{none}
use Rattle.sets.specs.Lists.{pick}
use Rattle.sets.specs.Sets.{has, size}
use Rattle.games.specs.Walks.{Search}

-- f over the sets that hold everybody of A and at most r of the first m people besides; f is told the set and how many may still join.
-- Where person u joins, what follows counts w u times.
unfoldable pub over : (ℕ → ℕ → ℕ) → (ℕ → ℕ) → ℕ → ℕ → ℕ → ℕ
over f w zero r A = f A r
over f w (suc m) zero A = over f w m zero A
over f w (suc m) (suc r) A = over f w m (suc r) A + pick (has A m) 0 (w m * over f w m r (A + 2 ^ m))

-- the weights with nobody joining as person u
abbrev pub but : (ℕ → ℕ) → ℕ → ℕ → ℕ
but w u v = pick (eqb v u) 0 (w v)

-- the weights with nobody joining but those below h, once each
abbrev pub only_below : ℕ → ℕ → ℕ
only_below h u = pick (ltb u h) 1 0

-- S is one of these sets, as a set of n people, and `left` may still join
pub record Reached (n : ℕ) (w : ℕ → ℕ) (m r A S left : ℕ) : Type 0 where
  pub fits : S < 2 ^ n
  pub holds : (u : ℕ) → has A u ≡ true → has S u ≡ true
  pub joins : (u : ℕ) → has A u ≡ false → has S u ≡ true → (u < m) × (0 < w u)
  pub many : left + size n S ≡ r + size n A

-- how many sets there are, each counted as often as its weights say
abbrev pub how_many : (ℕ → ℕ) → ℕ → ℕ → ℕ → ℕ
how_many w m r A = over (λ S left. 1) w m r A

-- for each of the first k people who is in M, how many sets there are without them
unfoldable pub how_many_miss : (ℕ → ℕ) → ℕ → ℕ → ℕ → ℕ → ℕ → ℕ
how_many_miss w m r A M zero = 0
how_many_miss w m r A M (suc k) = how_many_miss w m r A M k + pick (has M k) (how_many (but w k) m r A) 0

-- a sum as it is told: one that is more than any limit is told as one more than the highest limit
abbrev pub most : ℕ
most = 2 ^ 32

abbrev pub capped : ℕ → ℕ
capped x = min most x

-- a search for each of these sets, of n people: none gets anything, and x is the sum of their trials, as it is told
pub record Summed {B : Type 0} (f : ℕ → Search B) (n : ℕ) (w : ℕ → ℕ) (r A x : ℕ) : Type 0 where
  pub holds : (S left : ℕ) → Reached n w n r A S left → (f S).got ≡ none
  pub sum : x ≡ capped (over (λ S left. (f S).trials) w n r A)

-- a search gets nothing, and x are its trials, as they are told
abbrev pub Comes : {B : Type 0} → Search B → ℕ → Type 0
Comes w x = (w.got ≡ none) × (x ≡ capped w.trials)
