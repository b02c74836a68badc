-- Input longer than any case: its first 1,023 bytes decide. The header is the same, and where the header is right the total is at most 1,016, so that
-- both are refused with 6.
use mathlib.Core.Path.{◌≡◌, refl, sym, ap, ap₂, ◌∙◌}
use mathlib.Core.Bool.{Bool, true, false, not, ◌||◌, true≢false}
use mathlib.Core.Logic.{inl, inr}
use mathlib.Core.List.{List, [], ◌∷◌, ◌++◌}
use Prim.Native.Nat.{ℕ, ◌*◌, ◌≤◌, ◌<◌}
use native.Mathlib.Nat.{mul-le-mul}
use native.Mathlib.Decide.{dec_lt}
use native.Mathlib.Omega.{arith}
use borrow.Author.Tests.{le-ltb, lt-ltb, eqb-true, not-false}
use lib.Dec.{eqb}
use lib.ListN.{length, take, drop, get_or, length-take, length-drop}
use lib.Seq.{get_or-take, take_all, take-add, drop_at, length-take-le}
use Rattle.sets.proofs.Lists.{only_if-none}
use Rattle.cases.specs.declared.Counts.{Counts}
use Rattle.cases.specs.Case.{empty_case}
use Rattle.std.specs.Prelude.{Ok, Err}
use Rattle.refusals.specs.Refusals.{Judged, Good, Refused, Check, refusal, judged_by, or_else, only_check}
use Rattle.refusals.specs.Offsets.{people_at, steps_at, tables_at, rules_at, total_of}
use Rattle.refusals.specs.CaseChecks.{too_many, entry_checks}
use Rattle.refusals.proofs.Cases.{limited}
use Rattle.refusals.proofs.Order.{judged-append, good-checks}
use Rattle.words.specs.Word.{word}
use Rattle.layout.specs.Layout.{counts_of, case_of}
use Rattle.asking.specs.Asking.{number_check}
use Rattle.headers.specs.Checks.{misplaced, head_checks}
use Rattle.files.specs.declared.FileRead.{FileRead}
use Rattle.files.specs.Checks.{file_checks, judged_file}
use Rattle.files.specs.Reading.{if_good, read_of}
use Rattle.telling.specs.Telling.{refused_line, answer_lines, told, text_of, judged_input, absent_in, limit_in, file_in}

-- 2 to 5
abbrev header_checks : List ℕ → List Check
header_checks f =
    only_check 2 (not (eqb (word f 0) 1))
    ∷ (only_check 3 (not (eqb (word f 22) 0)) ∷ (only_check 4 (too_many (counts_of f)) ∷ (only_check 5 (misplaced f (counts_of f)) ∷ [])))

-- ---- the longest file

rows-most : (a b : ℕ) → a ≤ 6 → b ≤ 32 → a * b ≤ 192
rows-most a b h g = mul-le-mul h g

total-most : (n : Counts) → too_many n ≡ false → total_of n ≤ 1016
total-most n e = let k = limited n e in omega (arith, rows-most n.tables n.people k.tables k.people, k.people, k.steps, k.rules)

last-of-five : (a b c d e : Bool) → a || (b || (c || (d || e))) ≡ false → e ≡ false
last-of-five false false false false e h = h
last-of-five true b c d e h = absurd (true≢false h)
last-of-five false true c d e h = absurd (true≢false h)
last-of-five false false true d e h = absurd (true≢false h)
last-of-five false false false true e h = absurd (true≢false h)

total_right : (f : List ℕ) (n : Counts) → misplaced f n ≡ false → word f 20 ≡ total_of n
unfolding misplaced
total_right f n e =
    eqb-true _ _
    (not-false _
    (last-of-five
    (not (eqb (word f 12) people_at))
    (not (eqb (word f 14) (steps_at n)))
    (not (eqb (word f 16) (tables_at n)))
    (not (eqb (word f 18) (rules_at n)))
    (not (eqb (word f 20) (total_of n)))
    e))

-- where the header is right, a file of more than 1,016 bytes meets 6
too_long : (f : List ℕ) → 1016 < length f → judged_by (header_checks f) ≡ Good → eqb (length f) (word f 20) ≡ false
too_long f h e = go (eqb (length f) (word f 20)) refl
  where
    few : too_many (counts_of f) ≡ false
    few = only_if-none _ _ (good-checks (header_checks f) e _ (inr (inr (inl refl))))

    right : word f 20 ≡ total_of (counts_of f)
    right = total_right f (counts_of f) (only_if-none _ _ (good-checks (header_checks f) e _ (inr (inr (inr (inl refl))))))

    go : (b : Bool) → eqb (length f) (word f 20) ≡ b → b ≡ false
    go false q = refl
    go true q = let z : ⊥ = omega (arith, eqb-true (length f) (word f 20) q, right, total-most (counts_of f) few) in absurd z

-- ---- how a file of more than 1,016 bytes is judged

long-judged : (f : List ℕ) → 1016 < length f → judged_file f ≡ or_else (judged_by (header_checks f)) (Refused (refusal 6 0))
unfolding judged_file file_checks head_checks judged_by
long-judged f h =
    ap (λ (b : Bool). judged_by (only_check 1 b ∷ rest)) (le-ltb (length f) 24 (omega arith))
    ∙ judged-append (header_checks f) (only_check 6 (not (eqb (length f) (word f 20))) ∷ entry_checks (case_of f))
    ∙ go (judged_by (header_checks f)) refl
  where
    rest : List Check
    rest = header_checks f ++ (only_check 6 (not (eqb (length f) (word f 20))) ∷ entry_checks (case_of f))

    go : (j : Judged) → judged_by (header_checks f) ≡ j
        → or_else j (judged_by (only_check 6 (not (eqb (length f) (word f 20))) ∷ entry_checks (case_of f))) ≡ or_else j (Refused (refusal 6 0))
    go (Err r) e = refl
    go (Ok nothing) e = ap (λ (b : Bool). judged_by (only_check 6 (not b) ∷ entry_checks (case_of f))) (too_long f h e)

refused-empty : {A : Type 0} (j : Judged) (a b : A) → if_good (or_else j (Refused (refusal 6 0))) a b ≡ b
refused-empty (Ok nothing) a b = refl
refused-empty (Err r) a b = refl

long-read : (f : List ℕ) → 1016 < length f
    → read_of f ≡ record { judged = or_else (judged_by (header_checks f)) (Refused (refusal 6 0)); held = empty_case }
unfolding read_of
long-read f h =
    ap (λ (j : Judged). record { judged = j; held = if_good j (case_of f) empty_case }) (long-judged f h)
    ∙ ap (λ c. record { judged = or_else (judged_by (header_checks f)) (Refused (refusal 6 0)); held = c })
    (refused-empty (judged_by (header_checks f)) (case_of f) empty_case)

-- ---- the first bytes of a longer input

module _ (n : ℕ) (f : List ℕ) (h : 24 ≤ n) where
  byte-first : (i : ℕ) → i < 24 → get_or (take n f) i 0 ≡ get_or f i 0
  byte-first i k = get_or-take n f i 0 (omega arith)

  header-first : header_checks (take n f) ≡ header_checks f
  unfolding misplaced
  header-first =
      simp (
        byte-first 0 (omega arith),
        byte-first 1 (omega arith),
        byte-first 2 (omega arith),
        byte-first 3 (omega arith),
        byte-first 4 (omega arith),
        byte-first 5 (omega arith),
        byte-first 6 (omega arith),
        byte-first 7 (omega arith),
        byte-first 8 (omega arith),
        byte-first 9 (omega arith),
        byte-first 10 (omega arith),
        byte-first 11 (omega arith),
        byte-first 12 (omega arith),
        byte-first 13 (omega arith),
        byte-first 14 (omega arith),
        byte-first 15 (omega arith),
        byte-first 16 (omega arith),
        byte-first 17 (omega arith),
        byte-first 18 (omega arith),
        byte-first 19 (omega arith),
        byte-first 20 (omega arith),
        byte-first 21 (omega arith),
        byte-first 22 (omega arith),
        byte-first 23 (omega arith),
      )

file-first : (input : List ℕ) → 1023 < length input → file_in (take 1023 input) ≡ take 1017 (file_in input)
file-first input h =
    let six : length (take 6 input) ≡ 6 = length-take-le 6 input (omega arith) in
    ap (drop 6) (take-add 6 1017 input) ∙ drop_at (take 6 input) (take 1017 (drop 6 input)) 6 six

read_first : (input : List ℕ) → 1023 < length input → read_of (file_in (take 1023 input)) ≡ read_of (file_in input)
read_first input h =
    let f = file_in input in
    let long : 1016 < length f = omega (arith, length-drop 6 input) in
    let cut : 1016 < length (take 1017 f) = omega (arith, length-drop 6 input, length-take 1017 f) in
    ap read_of (file-first input h)
    ∙ long-read (take 1017 f) cut
    ∙ ap (λ (l : List Check). record { judged = or_else (judged_by l) (Refused (refusal 6 0)); held = empty_case }) (header-first 1017 f (omega arith))
    ∙ sym (long-read f long)

-- the text, by what is read of the input
abbrev text_from : FileRead → ℕ → ℕ → List ℕ
text_from file t l = told (or_else file.judged (judged_by (number_check t ∷ []))) (answer_lines file.held t l)

-- Of a longer input, the first 1,023 bytes decide.
pub more-is-the-same : (input : List ℕ) → text_of (take 1023 input) ≡ text_of input
unfolding text_of judged_input
more-is-the-same input = go (dec_lt 1023 (length input))
  where
    go : Dec (1023 < length input) → text_of (take 1023 input) ≡ text_of input
    go (no h) = ap text_of (take_all 1023 input (omega arith))
    go (yes h) =
        let first = byte-first 1023 input (omega arith) in
        let t : absent_in (take 1023 input) ≡ absent_in input = simp (first 0 (omega arith), first 1 (omega arith)) in
        let l : limit_in (take 1023 input) ≡ limit_in input =
        simp (first 2 (omega arith), first 3 (omega arith), first 4 (omega arith), first 5 (omega arith))
        in
        ap (λ (file : FileRead). text_from file (absent_in (take 1023 input)) (limit_in (take 1023 input))) (read_first input h)
        ∙ ap₂ (text_from (read_of (file_in input))) t l

-- Fewer than 30 bytes hold no header: number 1, at place 0.
pub short-input : (input : List ℕ) → length input < 30 → text_of input ≡ refused_line (refusal 1 0)
unfolding text_of judged_input read_of judged_file file_checks head_checks judged_by
short-input input h =
    ap (λ (b : Bool). told (or_else (judged_by (only_check 1 b ∷ rest)) (judged_by (number_check (absent_in input) ∷ []))) lines)
    (lt-ltb (length (file_in input)) 24 (omega (arith, length-drop 6 input)))
  where
    rest : List Check
    rest =
        header_checks (file_in input)
        ++ (only_check 6 (not (eqb (length (file_in input)) (word (file_in input) 20))) ∷ entry_checks (case_of (file_in input)))

    lines : List ℕ
    lines = answer_lines (read_of (file_in input)).held (absent_in input) (limit_in input)
