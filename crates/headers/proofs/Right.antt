-- What a right header comes to.
use mathlib.Core.Path.{◌≡◌, refl, ◌∙◌}
use mathlib.Core.Bool.{Bool, true, false, not, ◌||◌, true≢false}
use mathlib.Core.List.{List}
use mathlib.Core.Logic.{inl, inr}
use Prim.Native.Nat.{ℕ, ◌≤◌}
use borrow.Author.Tests.{ltb-false, eqb-true, not-false}
use lib.Dec.{eqb}
use lib.ListN.{length}
use Rattle.sets.proofs.Lists.{only_if-none}
use Rattle.cases.specs.declared.Counts.{Counts}
use Rattle.refusals.specs.Refusals.{Good}
use Rattle.refusals.specs.Refusals.{judged_by}
use Rattle.refusals.specs.Offsets.{people_at, steps_at, tables_at, rules_at, total_of}
use Rattle.refusals.specs.CaseChecks.{too_many}
use Rattle.refusals.proofs.Order.{good-checks}
use Rattle.words.specs.Word.{word}
use Rattle.layout.specs.Layout.{counts_of}
use Rattle.headers.specs.Checks.{misplaced, head_checks}

-- The offsets and the total are what the counts give.
pub record Placed (f : List ℕ) (n : Counts) : Type 0 where
  pub people : word f 12 ≡ people_at
  pub steps : word f 14 ≡ steps_at n
  pub tables : word f 16 ≡ tables_at n
  pub rules : word f 18 ≡ rules_at n
  pub total : word f 20 ≡ total_of n

-- What holds of a file that meets none of 1 to 6.
pub record RightHeader (f : List ℕ) : Type 0 where
  pub whole : 24 ≤ length f
  pub edition : word f 0 ≡ 1
  pub last : word f 22 ≡ 0
  pub limits : too_many (counts_of f) ≡ false
  pub placed : Placed f (counts_of f)
  pub long : length f ≡ word f 20

either-false : (a b : Bool) → a || b ≡ false → (a ≡ false) × (b ≡ false)
either-false true b e = absurd (true≢false e)
either-false false b e = (refl, e)

same : (a b : ℕ) → not (eqb a b) ≡ false → a ≡ b
same a b e = eqb-true a b (not-false (eqb a b) e)

placed-right : (f : List ℕ) (n : Counts) → misplaced f n ≡ false → Placed f n
unfolding misplaced
placed-right f n e =
    let a = either-false _ _ e in
    let b = either-false _ _ a.1 in
    let c = either-false _ _ b.1 in
    let d = either-false _ _ c.1 in
    record { people = same _ _ a.0; steps = same _ _ b.0; tables = same _ _ c.0; rules = same _ _ d.0; total = same _ _ d.1 }

pub header-right : (f : List ℕ) → judged_by (head_checks f) ≡ Good → RightHeader f
unfolding head_checks
header-right f e =
    let each = good-checks (head_checks f) e in
    record {
      whole = ltb-false _ _ (only_if-none _ _ (each _ (inl refl)));
      edition = same _ _ (only_if-none _ _ (each _ (inr (inl refl))));
      last = same _ _ (only_if-none _ _ (each _ (inr (inr (inl refl)))));
      limits = only_if-none _ _ (each _ (inr (inr (inr (inl refl)))));
      placed = placed-right f (counts_of f) (only_if-none _ _ (each _ (inr (inr (inr (inr (inl refl)))))));
      long = same _ _ (only_if-none _ _ (each _ (inr (inr (inr (inr (inr (inl refl))))))));
    }

-- a file with a right header has as many bytes as its counts give
pub header-long : (f : List ℕ) → RightHeader f → length f ≡ total_of (counts_of f)
header-long f h = h.long ∙ h.placed.total
