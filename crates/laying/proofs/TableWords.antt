-- The words of the tables' rows.
use mathlib.Core.Path.{◌≡◌, sym, ap, ◌∙◌}
use mathlib.Core.List.{List}
use Prim.Native.Nat.{ℕ, ◌+◌, ◌*◌, ◌≤◌, ◌<◌}
use native.Mathlib.Decide.{dec_lt}
use native.Mathlib.Omega.{arith}
use lib.ListN.{length, get_or, length-replicate}
use lib.Seq.{ext_get_or}
use Rattle.sets.specs.Stored.{number, no_people}
use Rattle.sets.specs.declared.People.{People}
use Rattle.sets.proofs.Records.{number-none}
use Rattle.words.specs.Part.{table}
use Rattle.words.proofs.Parts.{length-table, get_or-table}
use Rattle.cases.specs.Case.{most_people, most_tables, entry}
use Rattle.cases.proofs.Rounds.{entry_at, entry_past}
use Rattle.pieces.specs.Pieces.{laid_from}
use Rattle.pieces.proofs.Writing.{blank, blank-at, from-length, from_in, from-behind}

-- the first n words are those of the rows, and the others are 0
pub words-end : (rows : List People) (n : ℕ) (out : List ℕ) → n ≤ most_tables * most_people
    → out ≡ laid_from 0 n (λ j. number (get_or rows j no_people)) (blank (most_tables * most_people))
    → out ≡ table (λ i. number (entry no_people n rows i)) (most_tables * most_people)
words-end rows n out small q =
    ext_get_or 0 out (table (λ i. number (entry no_people n rows i)) most) (long ∙ sym (length-table _ most))
    (λ i h. let k : i < most = omega (arith, long) in
    ap (λ (l : List ℕ). get_or l i 0) q ∙ go i k (dec_lt i n) ∙ sym (get_or-table (λ j. number (entry no_people n rows j)) most i 0 k))
  where
    most : ℕ
    most = most_tables * most_people

    f : ℕ → ℕ
    f j = number (get_or rows j no_people)

    long : length out ≡ most
    long = ap length q ∙ from-length 0 f n (blank most) ∙ length-replicate {A = ℕ} most 0

    go : (i : ℕ) → i < most → Dec (i < n) → get_or (laid_from 0 n f (blank most)) i 0 ≡ number (entry no_people n rows i)
    go i k (yes h) =
        let z : i ≡ 0 + i = omega arith in
        ap (λ (j : ℕ). get_or (laid_from 0 n f (blank most)) j 0) z
        ∙ from_in 0 f n (blank most) i h (omega (arith, length-replicate {A = ℕ} most 0))
        ∙ ap number (sym (entry_at no_people n rows i h))
    go i k (no h) =
        from-behind 0 f n (blank most) i (omega arith) ∙ blank-at most i
        ∙ sym (ap number (entry_past no_people n rows i (omega arith)) ∙ number-none)
