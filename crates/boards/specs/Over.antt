-- What the loops over a set have come to: the members that are done, lowest first, and what was gathered from them.
use Rattle.std.specs.Prelude.{◌≡◌, Bool, ◌&&◌, List, ◌++◌, ℕ}
use Rattle.sets.specs.Lists.{all}
use Rattle.sets.specs.Sets.{has, set_of, members}
use Rattle.sets.specs.Stored.{width, number}
use Rattle.sets.specs.declared.People.{People}

-- of the members of `whole` those of `left` are still to come
pub record Over (whole left : ℕ) (done : List ℕ) : Type 0 where
  pub split : members 32 whole ≡ done ++ members 32 left

-- of some people those who pass the test of every member done
pub record Narrowed (test : ℕ → ℕ → Bool) (among whole left : ℕ) (every : People) : Type 0 where
  pub done : List ℕ
  pub over : Over whole left done
  pub each : number every ≡ set_of (λ u. has among u && all (λ i. test i u) done) width
