-- Positions that agree at the steps looked at, as the searches meet them: the same step is ready there, and so they agree after a placing.
use mathlib.Core.Path.{◌≡◌, refl, sym, ap, ap₂, ◌∙◌, subst}
use mathlib.Core.Bool.{Bool, true, false, not, ◌&&◌, true≢false}
use mathlib.Core.List.{List}
use mathlib.Core.Option.{none}
use Prim.Native.Nat.{ℕ, ◌-◌, ◌^◌, ◌<◌}
use native.Mathlib.Decide.{ℕ_discrete}
use native.Mathlib.Omega.{arith}
use borrow.Author.Tests.{eqb-true, ne_eqb, lt-ltb}
use lib.Dec.{eqb, ltb}
use Rattle.sets.specs.Sets.{has, without, lowest}
use Rattle.sets.specs.Lists.{value_or}
use Rattle.sets.proofs.Lists.{true-and}
use Rattle.sets.proofs.Bits.{has-empty}
use Rattle.sets.proofs.Counting.{has-set_of, set_of-ext, set_of-has}
use Rattle.sets.proofs.Members.{lowest-nobody}
use Rattle.sets.proofs.Masks.{everybody-is}
use Rattle.cases.specs.declared.Person.{Person}
use Rattle.cases.specs.declared.Step.{Step}
use Rattle.cases.specs.declared.Filled.{Filled}
use Rattle.cases.specs.Case.{most_steps}
use Rattle.cases.specs.Filled.{placed_at}
use Rattle.boards.specs.Board.{ready_on}
use Rattle.boards.specs.Arena.{put_on}
use Rattle.boards.specs.Looked.{Agree}
use Rattle.boards.proofs.Looked.{ready-agree, agree-put, agree-other, agree-all}
use Rattle.tries.specs.Trying.{step_on, several_on, Alone}

-- ---- the step that is ready

-- as the code tells it
pub several-found : (b : List ℕ) (p : Filled) (r low : ℕ) {left : ℕ} → r ≡ ready_on b p → low ≡ value_or 32 (lowest 32 r) → left ≡ without 32 r low → not (eqb left 0) ≡ several_on b p
unfolding several_on step_on
several-found b p r low e d f = ap (λ (x : ℕ). not (eqb x 0)) (f ∙ ap₂ (λ (x y : ℕ). without 32 x y) e (d ∙ ap (λ (x : ℕ). value_or 32 (lowest 32 x)) e))

-- none is ready, and so no other
pub several-none : (b : List ℕ) (p : Filled) (r : ℕ) → r ≡ ready_on b p → none ≡ lowest 32 r → false ≡ several_on b p
several-none b p r e d =
    let nobody : without 32 r 32 ≡ 0 = set_of-ext (λ w. has r w && not (eqb w 32)) (has 0) 32 (λ v h. ap (λ (x : Bool). x && not (eqb v 32)) (lowest-nobody 32 r (sym d) v h) ∙ sym (has-empty v)) ∙ set_of-has 32 0 (omega arith) in
    ap (λ (x : ℕ). not (eqb x 0)) (sym nobody) ∙ several-found b p r 32 e (ap (value_or 32) d) refl

pub is-alone : (b : List ℕ) (p : Filled) {r : Bool} → r ≡ several_on b p → r ≡ false → Alone b p
unfolding several_on
is-alone b p e f s l h = go (ℕ_discrete s (step_on b p))
  where
    none-else : eqb (without 32 (ready_on b p) (step_on b p)) 0 ≡ true
    none-else = turned (eqb (without 32 (ready_on b p) (step_on b p)) 0) (sym e ∙ f)
      where
        turned : (x : Bool) → not x ≡ false → x ≡ true
        turned true q = refl
        turned false q = absurd (true≢false q)

    go : Dec (s ≡ step_on b p) → s ≡ step_on b p
    go (yes q) = q
    go (no q) =
        absurd (true≢false
        (sym (true-and (has (ready_on b p) s) (not (eqb s (step_on b p))) h (ap not (ne_eqb s (step_on b p) q)))
        ∙ sym (has-set_of (λ w. has (ready_on b p) w && not (eqb w (step_on b p))) 32 s (omega arith))
        ∙ ap (λ (x : ℕ). has x s) (eqb-true _ 0 none-else) ∙ has-empty s))

module _ (b : List ℕ) {L : ℕ} {p q : Filled} (a : Agree L p q) where
  pub step-agree : step_on b q ≡ step_on b p
  unfolding step_on
  step-agree = ap (λ (f : ℕ). value_or 32 (lowest 32 f)) (ready-agree b a)

  pub alone-agree : Alone b p → Alone b q
  alone-agree one s l h = one s l (ap (λ (f : ℕ). has f s) (sym (ready-agree b a)) ∙ h) ∙ sym step-agree

  -- ---- after a placing

  module _ (p' : Filled) (s : Step) (v : Person) (e : p' ≡ placed_at p s.0 v) (d : s.0 ≡ step_on b p) where
    placed-as : (u : ℕ) → Agree L (put_on p v.0 s.0) (put_on q u s.0) → Agree L p' (put_on q u (step_on b q))
    unfolding put_on
    placed-as u k = subst (λ (x : Filled). Agree L x (put_on q u (step_on b q))) (sym e) (subst (λ (x : ℕ). Agree L (put_on p v.0 s.0) (put_on q u x)) (d ∙ sym step-agree) k)

    -- by the same person
    pub placed-agree : Agree L p' (put_on q v.0 (step_on b q))
    placed-agree = placed-as v.0 (agree-put a s.0 v.0)

    -- by anybody, where the step was not looked at
    pub placed_alike : has L s.0 ≡ false → (u : ℕ) → Agree L p' (put_on q u (step_on b q))
    placed_alike o u = placed-as u (agree-other a s.0 o v.0 u)

-- the code tests whether a step was looked at
pub not-asked : (L s : ℕ) {r : Bool} → r ≡ has L s → not r ≡ true → has L s ≡ false
not-asked L s e h = sym e ∙ go _ h
  where
    go : (x : Bool) → not x ≡ true → x ≡ false
    go true q = sym q
    go false q = refl

-- ---- with all steps looked at there is no other

every-step : (x : ℕ) → x < most_steps → has (2 ^ most_steps - 1) x ≡ true
every-step x l = ap (λ (s : ℕ). has s x) (everybody-is most_steps most_steps) ∙ has-set_of (λ w. ltb w most_steps) most_steps x l ∙ lt-ltb x most_steps l

pub agree-everywhere : (p q : Filled) → Agree (2 ^ most_steps - 1) p q → q ≡ p
agree-everywhere p q a = agree-all _ p q every-step a
