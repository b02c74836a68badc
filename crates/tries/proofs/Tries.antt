-- The next person worth a try, from what the sets answer.
use mathlib.Core.Path.{◌≡◌, sym, ap, ◌∙◌}
use mathlib.Core.Option.{Option, none, some}
use mathlib.Core.Bool.{Bool}
use Prim.Native.Nat.{ℕ, ◌+◌, ◌≤◌, ◌<◌}
use borrow.Author.Tests.{le-leb, lt-leb}
use lib.Dec.{leb}
use Rattle.sets.specs.Lists.{only_if}
use Rattle.sets.specs.Sets.{lowest}
use Rattle.sets.specs.Stored.{width}
use Rattle.tries.specs.Trying.{trials_to, tried}

module _ (T F used limit : ℕ) (o : Option ℕ) (e : o ≡ lowest width F) where
  -- they are past the limit
  pub tried-over : limit < used + trials_to T o → none ≡ tried T F used limit
  unfolding tried
  tried-over h =
      sym (ap (λ (x : Option ℕ). only_if (leb (used + trials_to T x) limit) (x, used + trials_to T x)) (sym e)
      ∙ ap (λ (b : Bool). only_if b (o, used + trials_to T o)) (lt-leb (used + trials_to T o) limit h))

  -- they are within it
  pub tried-within : (c : ℕ) → c ≡ used + trials_to T o → c ≤ limit → some (o, c) ≡ tried T F used limit
  unfolding tried
  tried-within c k h =
      sym (ap (λ (x : Option ℕ). only_if (leb (used + trials_to T x) limit) (x, used + trials_to T x)) (sym e)
      ∙ ap (λ (n : ℕ). only_if (leb n limit) (o, n)) (sym k)
      ∙ ap (λ (b : Bool). only_if b (o, c)) (le-leb c limit h))
