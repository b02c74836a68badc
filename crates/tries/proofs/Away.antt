-- Others away: where that is the same of all who were met, the line is tried alike.
use mathlib.Core.Path.{◌≡◌, refl, sym, ap, ap₂, ◌∙◌}
use mathlib.Core.Bool.{Bool, true, false, not, ◌&&◌, ◌||◌}
use mathlib.Core.Option.{Option, some}
use Prim.Native.Nat.{ℕ, suc, ◌+◌, ◌^◌, ◌≤◌, ◌<◌}
use native.Mathlib.Omega.{arith}
use borrow.Author.Tests.{le-ltb, ltb-true}
use lib.Dec.{leb, ltb}
use Rattle.sets.specs.Lists.{only_if}
use Rattle.sets.specs.Sets.{has, size_before, lowest, difference, joined, after}
use Rattle.sets.specs.Stored.{width}
use Rattle.sets.proofs.Lists.{true-or, and-true-end, and-false-end}
use Rattle.sets.proofs.Counting.{has-set_of, set_of-ext, set-ext, count-ext}
use Rattle.sets.proofs.Members.{lowest-some, lowest-least, lowest-is}
use Rattle.tries.specs.Outcomes.{SameAway}
use Rattle.tries.specs.Trying.{trials_to, tried}
use Rattle.games.proofs.Cuts.{only-some}
use Rattle.tries.proofs.Scans.{has-after, Inside}

-- a member of T who is not in A
pub has-off : (T A u : ℕ) → u < width → has (difference width T A) u ≡ has T u && not (has A u)
has-off T A u l = has-set_of (λ w. has T w && not (has A w)) width u l

-- those behind v who are not in A
pub after-off : (T A v : ℕ) → after width (difference width T A) v ≡ difference width (after width T v) A
after-off T A v =
    set_of-ext _ _ width
    (λ u l. ap (λ (x : Bool). x && ltb v u) (has-off T A u l) ∙ turned (has T u) (not (has A u)) (ltb v u) ∙ ap (λ (x : Bool). x && not (has A u)) (sym (has-after T v u l)))
  where
    turned : (x y z : Bool) → (x && y) && z ≡ (x && z) && y
    turned true true z = sym (and-true-end z)
    turned true false z = sym (and-false-end z)
    turned false y z = refl

pub same_self : (M A : ℕ) → A < 2 ^ width → SameAway M A A
same_self M A l = record { fits = l; same = λ u h e. refl }

-- nobody is away
pub same-nobody : (M : ℕ) {A : ℕ} → A ≡ 0 → SameAway M A 0
same-nobody M e = record { fits = omega arith; same = λ u h o. ap (λ (z : ℕ). has z u) e }

-- fewer were met
module _ {K A B : ℕ} (L M : ℕ) (e : K ≡ joined width L M) (s : SameAway K A B) where
  in_either : (u : ℕ) → u < width → has L u || has M u ≡ true → has K u ≡ true
  in_either u h o = ap (λ (z : ℕ). has z u) e ∙ has-set_of (λ w. has L w || has M w) width u h ∙ o

  pub same_left : SameAway L A B
  same_left = record { fits = s.fits; same = λ u h o. s.same u h (in_either u h (ap (λ (b : Bool). b || has M u) o)) }

  pub same-right : SameAway M A B
  same-right = record { fits = s.fits; same = λ u h o. s.same u h (in_either u h (true-or (has L u) (has M u) o)) }

module _ {M A B : ℕ} (s : SameAway M A B) where
  -- everybody was met: the same are away
  pub same-all : A < 2 ^ width → ((u : ℕ) → u < width → has M u ≡ true) → A ≡ B
  same-all l m = set-ext width A B l s.fits (λ u h. s.same u h (m u h))

  -- all of a line were met
  pub same_line : (T : ℕ) → Inside T M → difference width T A ≡ difference width T B
  same_line T i = set_of-ext _ _ width (λ u h. at u h (has T u) refl)
    where
      at : (u : ℕ) → u < width → (b : Bool) → has T u ≡ b → has T u && not (has A u) ≡ has T u && not (has B u)
      at u h true e = ap (λ (x : Bool). has T u && not x) (s.same u h (i u h e))
      at u h false e = ap (λ (x : Bool). x && not (has A u)) e ∙ sym (ap (λ (x : Bool). x && not (has B u)) e)

-- those of a line up to v were met
module _ (T F v : ℕ) {A B : ℕ} (i : Inside F T) (s : SameAway (difference width T (after width T v)) A B) where
  -- up to v the same of T are away
  away-same : (u : ℕ) → u < width → u ≤ v → has T u ≡ true → has A u ≡ has B u
  away-same u h l e =
      s.same u h
      (has-off T (after width T v) u h
      ∙ ap₂ (λ (x y : Bool). x && not y) e (has-after T v u h ∙ ap (λ (x : Bool). has T u && x) (le-ltb v u l) ∙ and-false-end (has T u)))

  off-same : (G : ℕ) → Inside G T → (u : ℕ) → u < width → u ≤ v → has (difference width G A) u ≡ has (difference width G B) u
  off-same G j u h l = has-off G A u h ∙ at (has G u) refl ∙ sym (has-off G B u h)
    where
      at : (b : Bool) → has G u ≡ b → has G u && not (has A u) ≡ has G u && not (has B u)
      at true e = ap (λ (x : Bool). has G u && not x) (away-same u h l (j u h e))
      at false e = ap (λ (x : Bool). x && not (has A u)) e ∙ sym (ap (λ (x : Bool). x && not (has B u)) e)

  first-same : lowest width (difference width F A) ≡ some v → lowest width (difference width F B) ≡ some v
  first-same e =
      let k = lowest-some width (difference width F A) v e in
      lowest-is width (difference width F B) v k.0 (sym (off-same F i v k.0 (omega arith)) ∙ k.1)
      (λ u l. sym (off-same F i u (omega (arith, k.0)) (omega arith)) ∙ lowest-least width (difference width F A) v e u l)

  before_same : size_before width (difference width T A) v ≡ size_before width (difference width T B) v
  unfolding size_before
  before_same = count-ext _ _ width (λ u h. at u h (ltb u v) refl)
    where
      at : (u : ℕ) → u < width → (b : Bool) → ltb u v ≡ b → has (difference width T A) u && ltb u v ≡ has (difference width T B) u && ltb u v
      at u h true e = ap (λ (x : Bool). x && ltb u v) (off-same T (λ w k o. o) u h (omega (arith, ltb-true u v e)))
      at u h false e =
          ap (λ (x : Bool). has (difference width T A) u && x) e ∙ and-false-end (has (difference width T A) u)
          ∙ sym (ap (λ (x : Bool). has (difference width T B) u && x) e ∙ and-false-end (has (difference width T B) u))

  -- v is the next to be tried there too, after as many trials
  pub try-same : (used limit c : ℕ) → some (some v, c) ≡ tried (difference width T A) (difference width F A) used limit
      → some (some v, c) ≡ tried (difference width T B) (difference width F B) used limit
  unfolding tried
  try-same used limit c e =
      let TA = difference width T A in
      let TB = difference width T B in
      let first = lowest width (difference width F A) in
      let k = only-some (leb (used + trials_to TA first) limit) (first, used + trials_to TA first) (some v, c) e in
      let low = sym (ap (λ (x : Option ℕ × ℕ). x.0) k.1) in
      e
      ∙ ap (λ (o : Option ℕ). only_if (leb (used + trials_to TA o) limit) (o, used + trials_to TA o)) low
      ∙ ap (λ (m : ℕ). only_if (leb (used + suc m) limit) (some v, used + suc m)) before_same
      ∙ sym (ap (λ (o : Option ℕ). only_if (leb (used + trials_to TB o) limit) (o, used + trials_to TB o)) (first-same low))
