-- Entries of any kind: an entry has w bytes, `bytes` writes it, and `read part i` reads entry i of a part.
use Prim.Native.Nat.{ℕ, suc, ◌+◌, ◌*◌, ◌≤◌, ◌<◌}
use mathlib.Core.Path.{◌≡◌, sym, ◌∙◌, ap}
use mathlib.Core.List.{List}
use native.Mathlib.Omega.{arith}
use native.Mathlib.Decide.{dec_lt}
use native.Mathlib.Nat.{mul-le-mul_left, mul-suc}
use lib.ListN.{length, get_or, take, drop}
use lib.Seq.{take_all}
use Rattle.cases.specs.Case.{entry}
use Rattle.cases.proofs.Rounds.{entry_at, entry_past}
use Rattle.words.specs.Word.{byte}
use Rattle.words.specs.Part.{table, run}
use Rattle.words.proofs.Parts.{table-cong, get_or-table, get_or-run, length_run, run-cut}

module _ {E : Type 0} (w : ℕ) (z : E) (bytes : E → List ℕ) (read : List ℕ → ℕ → E) (wide : (x : E) → length (bytes x) ≡ w) where
  -- n entries that were written are read back, with zero above the count: an entry is read from its own bytes, and past the end it is zero
  pub run-back : (l : List E) (n m : ℕ)
      → ((p : List ℕ) (i : ℕ) (x : E) → ((j : ℕ) → j < w → byte p (w * i + j) ≡ byte (bytes x) j) → read p i ≡ x)
      → ((p : List ℕ) (i : ℕ) → length p ≤ w * i → read p i ≡ z)
      → table (read (run (λ k. bytes (get_or l k z)) n)) m ≡ table (entry z n l) m
  run-back l n m own past = table-cong _ _ m (λ i b. go i (dec_lt i n))
    where
      go : (i : ℕ) → Dec (i < n) → read (run (λ k. bytes (get_or l k z)) n) i ≡ entry z n l i
      go i (yes h) =
          own (run (λ k. bytes (get_or l k z)) n) i (get_or l i z)
          (λ j b. get_or-run (λ k. bytes (get_or l k z)) w (λ k. wide (get_or l k z)) n i j 0 h b)
          ∙ sym (entry_at z n l i h)
      go i (no h) =
          past (run (λ k. bytes (get_or l k z)) n) i
          (omega (arith, length_run (λ k. bytes (get_or l k z)) w (λ k. wide (get_or l k z)) n, mul-le-mul_left {m = n} {n = i} w (omega arith)))
          ∙ sym (entry_past z n l i (omega arith))

  -- n entries that were read are written as the bytes that they were read from
  pub run-again : (p : List ℕ) (n m : ℕ) → length p ≡ w * n → n ≤ m
      → ((i : ℕ) → w * i + w ≤ length p → bytes (read p i) ≡ take w (drop (w * i) p))
      → run (λ i. bytes (get_or (table (read p) m) i z)) n ≡ p
  run-again p n m l h same =
      run-cut (λ i. bytes (get_or (table (read p) m) i z)) w (λ k. wide (get_or (table (read p) m) k z)) p n (omega arith)
      (λ i b.
      ap bytes (get_or-table (read p) m i z (omega arith))
      ∙ same i (omega (arith, mul-le-mul_left {m = suc i} {n = n} w b, mul-suc w i)))
      ∙ take_all (w * n) p (omega arith)
