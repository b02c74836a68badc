-- What the loop over those who fit holds, and what each of its turns adds.
use mathlib.Core.Path.{◌≡◌, refl, sym, ap, ap₂, ◌∙◌, subst}
use mathlib.Core.Option.{none, some}
use mathlib.Core.Bool.{Bool, true, false, not, ◌&&◌, ◌||◌, true≢false}
use mathlib.Core.List.{List}
use Prim.Native.Nat.{ℕ, suc, ◌+◌, ◌*◌, ◌^◌, ◌≤◌, ◌<◌}
use native.Mathlib.Omega.{arith}
use borrow.Author.Tests.{eqb-true, not-true}
use lib.Dec.{eqb}
use Rattle.sets.specs.Sets.{has, count, size, lowest, with, without}
use Rattle.games.specs.Walks.{Search, decremental}
use Rattle.sets.specs.Stored.{width}
use Rattle.sets.proofs.Lists.{and-true}
use Rattle.sets.proofs.Counting.{has-set_of}
use Rattle.sets.proofs.Members.{lowest-some, lowest-least}
use Rattle.cases.specs.declared.Filled.{Filled}
use Rattle.boards.specs.Arena.{put_on, board_arena}
use Rattle.tries.specs.Trying.{step_on, Alone, InLine}
use Rattle.sums.specs.Sums.{but, Reached, how_many, how_many_miss, capped, Summed}
use Rattle.sums.proofs.Joins.{joined-has, joined-lt, joined-size, with-joined}
use Rattle.sums.proofs.Splits.{but-self, reached-never}
use Rattle.sums.proofs.Summed.{Summing, summing_start, summing-next, summing-full, summing-never, summed-first}
use Rattle.reckoning.specs.Reckoned.{turn_on}
use Rattle.reckoning.proofs.Desk.{tried-listed, fit-listed}
use Rattle.reckoning.proofs.Turns.{turn-first}

-- at a position, with A away: T are in line, F of them fit, and M do not
pub record Lined (b : List ℕ) (n A : ℕ) (p : Filled) (T F M : ℕ) : Type 0 where
  pub one : Alone b p
  pub few : n ≤ width
  pub line : InLine b n A p T F
  pub missed : (u : ℕ) → u < width → has M u ≡ has T u && not (has F u)

-- What the loop holds: with A₀ away and room for r₀ more it has come to the sets with A away and room for r more, where `rest` still fit.
pub record Going (b : List ℕ) (n k : ℕ) (p : Filled) (w : ℕ → ℕ) (r₀ A₀ F M rest r A sum scale : ℕ) : Type 0 where
  pub tried : ℕ
  pub lined : Lined b n A₀ p tried F M
  pub summing : Summing (turn_on b n (r₀ + size n A₀) (suc k) p) n w r₀ A₀ r A sum scale
  pub fits : A < 2 ^ n
  pub room : r ≤ r₀
  pub many : r + size n A ≡ r₀ + size n A₀
  pub more : (u : ℕ) → has A₀ u ≡ true → has A u ≡ true
  pub only : (u : ℕ) → u < width → has A u ≡ true → has A₀ u ≡ false → has F u ≡ true
  pub left : (u : ℕ) → u < width → has rest u ≡ has F u && not (has A u)

pub going_start : (b : List ℕ) (n k : ℕ) (p : Filled) (w : ℕ → ℕ) (r A T F M : ℕ) → Lined b n A p T F M → A < 2 ^ n
    → Going b n k p w r A F M F r A 0 1
going_start b n k p w r A T F M l h =
    record {
      tried = T;
      lined = l;
      summing = summing_start (turn_on b n (r + size n A) (suc k) p) n w r A;
      fits = h;
      room = omega arith;
      many = refl;
      more = λ u e. e;
      only = λ u c p q. absurd (true≢false (sym p ∙ q));
      left = λ u c. at u c (has F u) refl;
    }
  where
    at : (u : ℕ) → u < width → (x : Bool) → has F u ≡ x → x ≡ x && not (has A u)
    at u c true e = ap not (sym (fit-listed b n A p T F l.one l.line l.few u c e).1)
    at u c false e = refl

-- v is the first of those who still fit
module _ {b : List ℕ} {n k : ℕ} {p : Filled} {w : ℕ → ℕ} {r₀ A₀ F M rest r A sum scale : ℕ}
    (g : Going b n k p w r₀ A₀ F M rest r A sum scale) (v : ℕ) (low : lowest width rest ≡ some v) where
  abbrev turns : ℕ → Search ℕ
  turns = turn_on b n (r₀ + size n A₀) (suc k) p

  abbrev nexts : ℕ → Search ℕ
  nexts = λ S. decremental (board_arena b n) (r₀ + size n A₀) k S (put_on p v (step_on b p))

  pub known : v < width
  known = (lowest-some width rest v low).0

  fit-here : (has F v ≡ true) × (not (has A v) ≡ true)
  fit-here = and-true (has F v) (not (has A v)) (sym (g.left v known) ∙ (lowest-some width rest v low).1)

  pub outside : has A v ≡ false
  outside = not-true (has A v) fit-here.1

  pub listed : v < n
  listed = (fit-listed b n A₀ p g.tried F g.lined.one g.lined.line g.lined.few v known fit-here.0).0

  -- whoever fits and comes before is away
  before-away : (u : ℕ) → u < v → has F u ≡ true → has A u ≡ true
  before-away u l e = at (has A u) refl
    where
      at : (x : Bool) → has A u ≡ x → has A u ≡ true
      at true q = q
      at false q = absurd (true≢false (sym (g.left u (omega (arith, known)) ∙ ap₂ (λ (x y : Bool). x && not y) e q) ∙ lowest-least width rest v low u l))

  -- whoever does not fit and comes before is not away
  missed_here : (u : ℕ) → u < v → has M u ≡ true → (u < n) × (has A u ≡ false)
  missed_here u l e =
      let c : u < width = omega (arith, known) in
      let m = and-true (has g.tried u) (not (has F u)) (sym (g.lined.missed u c) ∙ e) in
      let t = tried-listed b n A₀ p g.tried F g.lined.one g.lined.line g.lined.few u c m.0 in
      (t.0, at c t.1 (not-true (has F u) m.1) (has A u) refl)
    where
      at : u < width → has A₀ u ≡ false → has F u ≡ false → (x : Bool) → has A u ≡ x → has A u ≡ false
      at c e f true q = absurd (true≢false (sym (g.only u c q e) ∙ f))
      at c e f false q = q

  -- where v stays: v is the first who fits and is present, in every set
  pub going-stays : (here more x : ℕ) → here ≡ capped (how_many (but w v) n r A + how_many_miss (but w v) n r A M v) → Summed nexts n (but w v) r A more → x ≡ capped (here + more)
      → Summed turns n (but w v) r A x
  going-stays here more x e s q =
      subst (λ (y : ℕ). Summed turns n (but w v) r A y) (sym q) (summed-first turns nexts n (but w v) r A M v g.fits missed_here first here more e s)
    where
      first : (S left : ℕ) → Reached n (but w v) n r A S left → (nexts S).got ≡ none → turns S ≡ record { got = none; trials = suc (count (λ u. has M u && not (has S u)) v) + (nexts S).trials }
      first S left z got =
          turn-first b n A₀ p g.tried F g.lined.one g.lined.line g.lined.few M S v g.lined.missed (λ u e. z.holds u (g.more u e)) known fit-here.0
          (reached-never n (but w v) v z outside (but-self w v)) (λ u l e. z.holds u (before-away u l e)) (r₀ + size n A₀) k got

  module _ {x y : ℕ} (s : Summed turns n (but w v) r A x) (q : y ≡ capped (sum + capped (scale * x))) where
    pub going-full : r ≡ 0 → Summed turns n w r₀ A₀ y
    going-full e =
        subst (λ (z : ℕ). Summed turns n w r₀ A₀ z) (sym q)
        (summing-full turns n w v x listed g.fits outside (subst (λ (z : ℕ). Summing turns n w r₀ A₀ z A sum scale) e g.summing) (subst (λ (z : ℕ). Summed turns n (but w v) z A x) e s))

    pub going-never : w v ≡ 0 → Summed turns n w r₀ A₀ y
    going-never e = subst (λ (z : ℕ). Summed turns n w r₀ A₀ z) (sym q) (summing-never turns n w v x listed g.fits outside e g.summing s)

    -- v may be away: on to the sets with v
    pub going_next : (r' A' rest' scale' : ℕ) → r ≡ suc r' → A' ≡ with width A v → rest' ≡ without width rest v → scale' ≡ capped (scale * w v)
        → Going b n k p w r₀ A₀ F M rest' r' A' y scale'
    going_next r' A' rest' scale' e a d c =
        record {
          tried = g.tried;
          lined = g.lined;
          summing =
              subst (λ (z : ℕ). Summing turns n w r₀ A₀ r' A' z scale') (sym q)
              (subst (λ (z : ℕ). Summing turns n w r₀ A₀ r' A' told z) (sym c) (subst (λ (z : ℕ). Summing turns n w r₀ A₀ r' z told (capped (scale * w v))) (sym with-v) on));
          fits = omega (arith, with-v, joined-lt n v A listed g.fits outside);
          room = omega (arith, g.room);
          many = omega (arith, g.many, ap (size n) with-v, joined-size n v A listed g.fits outside);
          more = λ u h. has-joined u ∙ ap (λ (z : Bool). z || eqb u v) (g.more u h);
          only = λ u l h o. joins u l (has A u) refl (sym (has-joined u) ∙ h) o;
          left = λ u l.
              ap (λ (z : ℕ). has z u) d
              ∙ has-set_of (λ i. has rest i && not (eqb i v)) width u l
              ∙ ap (λ (z : Bool). z && not (eqb u v)) (g.left u l)
              ∙ both (has F u) (has A u) (eqb u v)
              ∙ ap (λ (z : Bool). has F u && not z) (sym (has-joined u));
        }
      where
        told : ℕ
        told = capped (sum + capped (scale * x))

        with-v : A' ≡ A + 2 ^ v
        with-v = a ∙ with-joined n A v g.lined.few listed g.fits outside

        on : Summing turns n w r₀ A₀ r' (A + 2 ^ v) told (capped (scale * w v))
        on = summing-next turns n w v x listed g.fits outside (subst (λ (z : ℕ). Summing turns n w r₀ A₀ z A sum scale) e g.summing) (subst (λ (z : ℕ). Summed turns n (but w v) z A x) e s)

        has-joined : (u : ℕ) → has A' u ≡ has A u || eqb u v
        has-joined u = ap (λ (z : ℕ). has z u) with-v ∙ joined-has n v A listed g.fits outside u

        joins : (u : ℕ) → u < width → (z : Bool) → has A u ≡ z → has A u || eqb u v ≡ true → has A₀ u ≡ false → has F u ≡ true
        joins u l true h i o = g.only u l h o
        joins u l false h i o = ap (has F) (eqb-true u v (sym (ap (λ (z : Bool). z || eqb u v) h) ∙ i)) ∙ fit-here.0

        both : (f i j : Bool) → (f && not i) && not j ≡ f && not (i || j)
        both true true j = refl
        both true false j = refl
        both false i j = refl
