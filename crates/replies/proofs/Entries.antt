-- A position read from pairs, entry by entry.
use mathlib.Core.Path.{◌≡◌, sym, ap, ap₂, ◌∙◌}
use mathlib.Core.Bool.{Bool, true, false, ◌&&◌}
use mathlib.Core.List.{List}
use Prim.Native.Nat.{ℕ, ◌+◌, ◌*◌, ◌≤◌, ◌<◌}
use native.Mathlib.Numerals.{add-one}
use native.Mathlib.Omega.{arith}
use borrow.Author.Tests.{lt-ltb, le-ltb, eq-eqb, ne_eqb}
use lib.Dec.{eqb}
use lib.ListN.{length, get_or, take}
use lib.Seq.{take-suc, take_all, length-take-le}
use Rattle.sets.specs.Lists.{pick}
use Rattle.words.proofs.Parts.{length-table, get_or-table}
use Rattle.cases.specs.Case.{most_steps}
use Rattle.cases.specs.declared.Position.{Position}
use Rattle.cases.specs.Positions.{persons, start_position, next_persons}
use Rattle.cases.proofs.Positions.{next-room}
use Rattle.planner.proofs.Answering.{at-start}
use Rattle.replies.specs.Pairs.{unknown, person_in, entries_in, persons_in}

module _ (b : List ℕ) where
  -- ---- The person of an entry

  -- a last byte alone, a pair of another step, a pair of this one
  pub person-alone : (i : ℕ) → length b ≤ 2 * i + 1 → unknown ≡ person_in b i
  unfolding person_in
  person-alone i h = sym (ap (λ (x : Bool). pick (x && eqb (get_or b (2 * i) 0) i) (get_or b (2 * i + 1) 0) unknown) (le-ltb (2 * i + 1) (length b) h))

  whole : (i : ℕ) (x : Bool) → 2 * i + 1 < length b → eqb (get_or b (2 * i) 0) i ≡ x → pick x (get_or b (2 * i + 1) 0) unknown ≡ person_in b i
  unfolding person_in
  whole i x h e = sym (ap₂ (λ (y z : Bool). pick (y && z) (get_or b (2 * i + 1) 0) unknown) (lt-ltb (2 * i + 1) (length b) h) e)

  pub person-other : (i : ℕ) → 2 * i + 1 < length b → (get_or b (2 * i) 0 ≡ i → ⊥) → unknown ≡ person_in b i
  person-other i h e = whole i false h (ne_eqb (get_or b (2 * i) 0) i e)

  pub person-there : (i : ℕ) → 2 * i + 1 < length b → get_or b (2 * i) 0 ≡ i → get_or b (2 * i + 1) 0 ≡ person_in b i
  person-there i h e = whole i true h (eq-eqb (get_or b (2 * i) 0) i e)

  -- ---- How many entries there are

  entries-long : length (persons_in b) ≡ entries_in b
  unfolding persons_in
  entries-long = length-table (person_in b) (entries_in b)

  pub entries_over : (i : ℕ) → length b ≤ 2 * i → length (persons_in b) ≤ i
  entries_over i h = omega (arith, entries-long)

  pub entries-left : (i : ℕ) → 2 * i < length b → i < length (persons_in b)
  entries-left i h = omega (arith, entries-long)

  entry_at : (i : ℕ) → 2 * i < length b → get_or (persons_in b) i 0 ≡ person_in b i
  unfolding persons_in
  entry_at i h = get_or-table (person_in b) (entries_in b) i 0 (omega arith)

  -- ---- The loop over the entries

  -- the first i entries are placed
  pub record Placed (i : ℕ) (p : Position) : Type 0 where
    pub few : i ≤ most_steps
    pub within : i ≤ length (persons_in b)
    pub front : persons p ≡ take i (persons_in b)

  pub placed-none : {p : Position} → p ≡ start_position → Placed 0 p
  placed-none e = record { few = omega arith; within = omega arith; front = at-start e }

  pub placed-more : {i v : ℕ} {p q : Position} → Placed i p → i < most_steps → 2 * i < length b → v ≡ person_in b i
      → persons q ≡ next_persons (persons p) v → Placed (i + 1) q
  placed-more {i} {v} {p} {q} d h k g e =
      record {
        few = omega arith;
        within = omega (arith, entries-left i k);
        front =
            e
            ∙ ap₂ (λ l (x : ℕ). next_persons l x) d.front (g ∙ sym (entry_at i k))
            ∙ next-room (take i (persons_in b)) (get_or (persons_in b) i 0) (omega (arith, length-take-le i (persons_in b) d.within))
            ∙ sym (rw add-one (take-suc (persons_in b) i 0 (entries-left i k)));
      }

  pub placed-all : {i : ℕ} {p : Position} → Placed i p → length b ≤ 2 * i → persons p ≡ take most_steps (persons_in b)
  placed-all {i} d h =
      d.front ∙ take_all i (persons_in b) (entries_over i h) ∙ sym (take_all most_steps (persons_in b) (omega (arith, d.few, entries_over i h)))
