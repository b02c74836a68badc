-- Counting until more than t are found: what was found before is taken in.
use mathlib.Core.Path.{◌≡◌, refl, ap, ap₂, ◌∙◌}
use mathlib.Core.Option.{none, some}
use mathlib.Core.Bool.{Bool}
use mathlib.Core.List.{List, [], ◌∷◌}
use Prim.Native.Nat.{ℕ, suc, ◌+◌, ◌≤◌, ◌^◌}
use native.Mathlib.Omega.{arith}
use borrow.Author.Tests.{le-leb, lt-leb}
use lib.Dec.{leb}
use lib.ListN.{length}
use Rattle.sets.specs.Lists.{only_if}
use Rattle.sets.specs.Sets.{set_from}
use Rattle.games.specs.Walks.{Walk, Search, plus, tally, too_few}

-- k people were found before, who make the set S
unfoldable pub few : ℕ → ℕ → ℕ → Walk (List ℕ) → Search ℕ
few t k S w = record { got = only_if (leb (k + length w.got) t) (S + set_from w.got); trials = w.trials }

pub few-plus : (t k S c : ℕ) (w : Walk (List ℕ)) → few t k S (record { got = w.got; trials = c + w.trials }) ≡ plus c (few t k S w)
unfolding few plus
few-plus t k S c w = refl

pub few-more : (t k S u c : ℕ) (w : Walk (List ℕ)) → few t k S (record { got = u ∷ w.got; trials = c }) ≡ few t (k + 1) (S + 2 ^ u) (record { got = w.got; trials = c })
unfolding few set_from
few-more t k S u c w =
    let n : k + suc (length w.got) ≡ k + 1 + length w.got = omega arith in
    let m : S + (2 ^ u + set_from w.got) ≡ S + 2 ^ u + set_from w.got = omega arith in
    ap₂ (λ (x y : ℕ). record { got = only_if (leb x t) y; trials = c }) n m

-- one more than t: enough
pub few-enough : (t S u c : ℕ) → few t t S (record { got = u ∷ []; trials = c }) ≡ record { got = none; trials = c }
unfolding few
few-enough t S u c = ap (λ (b : Bool). record { got = only_if b (S + set_from (u ∷ [])); trials = c }) (lt-leb (t + 1) t (omega arith))

pub few-none : (t k S : ℕ) → k ≤ t → few t k S (record { got = []; trials = 0 }) ≡ record { got = some S; trials = 0 }
unfolding few set_from
few-none t k S h =
    let n : k + 0 ≡ k = omega arith in
    let m : S + 0 ≡ S = omega arith in
    ap₂ (λ (x y : ℕ). record { got = only_if (leb x t) y; trials = 0 }) n m ∙ ap (λ (b : Bool). record { got = only_if b S; trials = 0 }) (le-leb k t h)

pub few-start : (t : ℕ) (w : Walk (List ℕ)) → too_few t w ≡ few t 0 0 w
unfolding too_few few
few-start t w =
    let n : length w.got ≡ 0 + length w.got = omega arith in
    let m : set_from w.got ≡ 0 + set_from w.got = omega arith in
    ap₂ (λ (x y : ℕ). record { got = only_if (leb x t) y; trials = w.trials }) n m

pub no_more : {B : Type 0} (f : ℕ → Search B) (us : List ℕ) → tally f us 0 ≡ record { got = []; trials = 0 }
unfolding tally
no_more f [] = refl
no_more f (u ∷ us) = refl
