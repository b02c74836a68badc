-- A file is judged by its header, and then as the case that it holds.
use mathlib.Core.Path.{◌≡◌, refl, sym, ap, ◌∙◌}
use mathlib.Core.List.{List, ◌∷◌}
use Prim.Native.Nat.{ℕ}
use Rattle.std.specs.Prelude.{Ok, Err}
use Rattle.refusals.specs.declared.Refusal.{Refusal}
use Rattle.refusals.specs.Refusals.{Judged}
use Rattle.refusals.specs.Refusals.{Good, Refused}
use Rattle.refusals.specs.Refusals.{judged_by, only_check, or_else}
use Rattle.refusals.specs.CaseChecks.{counts_check, entry_checks, case_checks, judged_case}
use Rattle.refusals.proofs.Order.{judged-append, good-refused}
use Rattle.layout.specs.Layout.{case_of, case_at}
use Rattle.headers.specs.Checks.{head_checks}
use Rattle.headers.proofs.Right.{header-right}
use Rattle.files.specs.Checks.{file_checks, judged_file}

pub head_first : (f : List ℕ) → judged_file f ≡ or_else (judged_by (head_checks f)) (judged_by (entry_checks (case_of f)))
unfolding judged_file file_checks
head_first f = judged-append (head_checks f) (entry_checks (case_of f))

pub wrong-header : (f : List ℕ) (r : Refusal) → judged_by (head_checks f) ≡ Refused r → judged_file f ≡ Refused r
wrong-header f r e = head_first f ∙ ap (λ j. or_else j (judged_by (entry_checks (case_of f)))) e

pub right-header : (f : List ℕ) → judged_by (head_checks f) ≡ Good → judged_file f ≡ judged_case (case_of f)
unfolding judged_case case_checks counts_check judged_by case_at
right-header f e =
    head_first f
    ∙ ap (λ j. or_else j (judged_by (entry_checks (case_of f)))) e
    ∙ ap (λ b. judged_by (only_check 4 b ∷ entry_checks (case_of f))) (sym (header-right f e).limits)

-- a good file has a right header
good-first : (j k : Judged) → or_else j k ≡ Good → j ≡ Good
good-first (Ok nothing) k e = refl
good-first (Err r) k e = absurd (good-refused e refl)

pub good-header : (f : List ℕ) → judged_file f ≡ Good → judged_by (head_checks f) ≡ Good
good-header f e = good-first _ _ (sym (head_first f) ∙ e)
