-- What the writer's steps come to, over plain values.
use Prim.Native.Nat.{ℕ, ◌≤◌}
use mathlib.Core.Path.{◌≡◌, refl, ap}
use mathlib.Core.List.{List, [], ◌++◌}
use native.Mathlib.Nat.{mul-le-mul}
use native.Mathlib.Omega.{arith}
use lib.ListN.{length, get_or, take, drop}
use Rattle.std.proofs.lemmas.List.{get_or-take}
use Rattle.cases.specs.declared.Counts.{Counts}
use Rattle.cases.specs.declared.Case.{Case}
use Rattle.words.specs.Part.{run, splice}
use Rattle.words.proofs.Parts.{front-step, run-cong}
use Rattle.refusals.specs.Offsets.{rows_in, steps_at, tables_at, rules_at, total_of}
use Rattle.refusals.specs.CaseChecks.{Limited}
use Rattle.layout.specs.Layout.{head_bytes, people_bytes, steps_bytes, tables_bytes, rules_bytes, file_of}
use Rattle.layout.proofs.Lengths.{head-long, people-long, steps-long, tables-long, rules-long, upto-people, upto-steps, upto-tables}

-- within the limits there are at most six tables of 32 rows
pub rows-most : (n : Counts) → Limited n → rows_in n ≤ 192
rows-most n h = mul-le-mul h.tables h.people

-- the first n entries of an array are written as the array's entries
pub run-front : {A : Type 0} (e : A → List ℕ) (l : List A) (z : A) (n : ℕ) → length (take n l) ≡ n
    → run (λ i. e (get_or (take n l) i z)) (length (take n l)) ≡ run (λ i. e (get_or l i z)) n
run-front e l z n h =
    rw h (run-cong (λ i. e (get_or (take n l) i z)) (λ i. e (get_or l i z)) n (λ i b. ap e (get_or-take n l i z b)))

-- The header and the parts, written one after the other, make the file.
pub filled : (c : Case) (l₀ l₁ l₂ l₃ l₄ l₅ : List ℕ)
    → l₁ ≡ splice l₀ 0 24 (head_bytes c.counts)
    → l₂ ≡ splice l₁ 24 (steps_at c.counts) (people_bytes c)
    → l₃ ≡ splice l₂ (steps_at c.counts) (tables_at c.counts) (steps_bytes c)
    → l₄ ≡ splice l₃ (tables_at c.counts) (rules_at c.counts) (tables_bytes c)
    → l₅ ≡ splice l₄ (rules_at c.counts) (total_of c.counts) (rules_bytes c)
    → l₅ ≡ file_of c ++ drop (total_of c.counts) l₀
unfolding file_of
filled c l₀ l₁ l₂ l₃ l₄ l₅ e₁ e₂ e₃ e₄ e₅ =
    let n = c.counts in
    let h = head_bytes n in
    let p = people_bytes c in
    let s = steps_bytes c in
    let t = tables_bytes c in
    let q₁ : l₁ ≡ h ++ drop 24 l₀ = front-step l₀ {l = l₀} [] h 0 24 refl refl (head-long n) (omega arith) e₁ in
    let q₂ : l₂ ≡ (h ++ p) ++ drop (steps_at n) l₀ =
    front-step l₀ h p 24 (steps_at n) q₁ (head-long n) (omega (arith, people-long c)) (omega arith) e₂ in
    let q₃ : l₃ ≡ (h ++ p ++ s) ++ drop (tables_at n) l₀ =
    front-step l₀ (h ++ p) s (steps_at n) (tables_at n) q₂ (upto-people c) (omega (arith, steps-long c)) (omega arith) e₃ in
    let q₄ : l₄ ≡ (h ++ p ++ s ++ t) ++ drop (rules_at n) l₀ =
    front-step l₀ (h ++ p ++ s) t (tables_at n) (rules_at n) q₃ (upto-steps c) (omega (arith, tables-long c)) (omega arith) e₄ in
    front-step l₀ (h ++ p ++ s ++ t) (rules_bytes c) (rules_at n) (total_of n) q₄ (upto-tables c) (omega (arith, rules-long c)) (omega arith) e₅
