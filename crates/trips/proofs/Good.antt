-- What is written of a good case is a good file.
use Prim.Native.Nat.{ℕ}
use mathlib.Core.Path.{◌≡◌, sym, ◌∙◌, ap}
use mathlib.Core.Bool.{false}
use mathlib.Core.List.{List}
use native.Mathlib.Omega.{arith}
use borrow.Author.Tests.{le-ltb, eq-eqb}
use Rattle.cases.specs.declared.Case.{Case}
use Rattle.cases.specs.Case.{zeroed}
use Rattle.cases.proofs.Counted.{zeroed-same}
use Rattle.refusals.specs.Refusals.{Good}
use Rattle.refusals.specs.Refusals.{judged_by}
use Rattle.refusals.specs.CaseChecks.{too_many, judged_case}
use Rattle.refusals.proofs.Cases.{limited, good-fits, same-refusal}
use Rattle.layout.specs.Layout.{file_of}
use Rattle.layout.proofs.Lengths.{file-long}
use Rattle.headers.specs.Checks.{misplaced, head_checks}
use Rattle.headers.proofs.Right.{RightHeader, Placed}
use Rattle.files.specs.Checks.{judged_file}
use Rattle.files.proofs.Headers.{right-header}
use Rattle.trips.proofs.Back.{head-back, counts-back, case-back}

-- a right header meets none of 1 to 6
right-checks : (f : List ℕ) → RightHeader f → judged_by (head_checks f) ≡ Good
unfolding head_checks judged_by misplaced
right-checks f h =
    let p = h.placed in
    simp (
      le-ltb _ _ h.whole,
      eq-eqb _ _ h.edition,
      eq-eqb _ _ h.last,
      h.limits,
      eq-eqb _ _ p.people,
      eq-eqb _ _ p.steps,
      eq-eqb _ _ p.tables,
      eq-eqb _ _ p.rules,
      eq-eqb _ _ p.total,
      eq-eqb _ _ h.long,
    )

module _ (c : Case) (fits : too_many c.counts ≡ false) where
  placed-back : Placed (file_of c) c.counts
  placed-back =
      record {
        people = head-back c 6 (omega arith);
        steps = head-back c 7 (omega arith);
        tables = head-back c 8 (omega arith);
        rules = head-back c 9 (omega arith);
        total = head-back c 10 (omega arith);
      }

  header-back : RightHeader (file_of c)
  header-back =
      let n = counts-back c in
      record {
        whole = omega (arith, file-long c);
        edition = head-back c 0 (omega arith);
        last = head-back c 11 (omega arith);
        limits = ap too_many n ∙ fits;
        placed = rw n placed-back;
        long = file-long c ∙ sym (head-back c 10 (omega arith));
      }

  -- The file of a case within its limits is judged as the case is.
  pub file-judged : judged_file (file_of c) ≡ judged_case c
  file-judged =
      let w = limited c.counts fits in
      right-header (file_of c) (right-checks (file_of c) header-back)
      ∙ ap judged_case (case-back c)
      ∙ same-refusal (zeroed c) c (zeroed-same c (record { people = w.people; steps = w.steps; tables = w.tables; rules = w.rules }))

-- A file written from a good case is good.
pub file-good : (c : Case) → judged_case c ≡ Good → judged_file (file_of c) ≡ Good
file-good c e = file-judged c (good-fits c e) ∙ e
