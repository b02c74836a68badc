-- What stands at each place of a board that is laid out.
use mathlib.Core.Path.{◌≡◌, sym, ap, ap₂, ◌∙◌}
use mathlib.Core.List.{List, ◌++◌}
use Prim.Native.Nat.{ℕ, ◌+◌, ◌*◌, ◌/◌, ◌%◌, ◌<◌}
use native.Mathlib.Omega.{arith}
use lib.ListN.{length, get_or, length-append, get_or-append}
use lib.Seq.{get_or-append-add}
use Rattle.sets.specs.Stored.{set_at}
use Rattle.words.specs.Part.{table}
use Rattle.words.proofs.Parts.{length-table, get_or-table}
use Rattle.cases.specs.declared.Case.{Case}
use Rattle.cases.specs.Case.{most_people, most_steps, most_rules}
use Rattle.boards.specs.Board.{relations, rows, halves, columns_from, loops_from, allowed_from, named_from, rules_from, ready_from, complete_from, places, row_place, column_place, loops_place, allowed_place, named_place, rule_place}
use Rattle.pieces.specs.declared.Order.{Order}
use Rattle.laying.specs.Laid.{row_of, column_of, loops_of, allowed_of, named_of, packed_of, ready_of, complete_of, laid_out}

-- relation by relation, in each one entry for every person
in_block : (f : ℕ → ℕ → ℕ) (k u : ℕ) → k < relations → u < most_people
    → get_or (table (λ i. f (i / most_people) (i % most_people)) rows) (k * most_people + u) 0 ≡ f k u
in_block f k u h l =
    let a : (k * most_people + u) / most_people ≡ k = omega arith in
    let b : (k * most_people + u) % most_people ≡ u = omega arith in
    get_or-table (λ i. f (i / most_people) (i % most_people)) rows (k * most_people + u) 0 (omega arith) ∙ ap₂ f a b

-- past a list, and entry j of a part of n entries
beyond : (l rest : List ℕ) (n j : ℕ) → length l ≡ n → get_or (l ++ rest) (n + j) 0 ≡ get_or rest j 0
beyond l rest n j e = ap (λ (m : ℕ). get_or (l ++ rest) (m + j) 0) (sym e) ∙ get_or-append-add l rest j 0

in_table : (f : ℕ → ℕ) (n j : ℕ) (rest : List ℕ) → j < n → get_or (table f n ++ rest) j 0 ≡ f j
in_table f n j rest h = get_or-append (table f n) rest 0 j (omega (arith, length-table f n)) ∙ get_or-table f n j 0 h

module _ (c : Case) (o : Order) where
  abbrev rows_part : List ℕ
  rows_part = table (λ i. row_of c (i / most_people) (i % most_people)) rows

  abbrev columns_part : List ℕ
  columns_part = table (λ i. column_of c (i / most_people) (i % most_people)) rows

  -- what stands behind each part
  abbrev behind_ready : List ℕ
  behind_ready = table (complete_of c) halves

  abbrev behind_rules : List ℕ
  behind_rules = table (ready_of c o) halves ++ behind_ready

  abbrev behind_named : List ℕ
  behind_named = table (packed_of c) most_rules ++ behind_rules

  abbrev behind_allowed : List ℕ
  behind_allowed = table (named_of c) most_steps ++ behind_named

  abbrev behind_loops : List ℕ
  behind_loops = table (allowed_of c) most_steps ++ behind_allowed

  abbrev behind_columns : List ℕ
  behind_columns = table (loops_of c) relations ++ behind_loops

  pub row_at : (k u : ℕ) → k < relations → u < most_people → set_at (laid_out c o) (row_place k u) ≡ row_of c k u
  unfolding laid_out set_at
  row_at k u h l =
      get_or-append rows_part (columns_part ++ behind_columns) 0 (row_place k u)
      (omega (arith, length-table (λ i. row_of c (i / most_people) (i % most_people)) rows))
      ∙ in_block (row_of c) k u h l

  past-rows : (j : ℕ) → get_or (laid_out c o) (columns_from + j) 0 ≡ get_or (columns_part ++ behind_columns) j 0
  unfolding laid_out
  past-rows j = beyond rows_part (columns_part ++ behind_columns) rows j (length-table _ rows)

  past-columns : (j : ℕ) → get_or (laid_out c o) (loops_from + j) 0 ≡ get_or behind_columns j 0
  past-columns j =
      let e : loops_from + j ≡ columns_from + (rows + j) = omega arith in
      ap (λ (i : ℕ). get_or (laid_out c o) i 0) e ∙ past-rows (rows + j) ∙ beyond columns_part behind_columns rows j (length-table _ rows)

  past-loops : (j : ℕ) → get_or (laid_out c o) (allowed_from + j) 0 ≡ get_or behind_loops j 0
  past-loops j =
      let e : allowed_from + j ≡ loops_from + (relations + j) = omega arith in
      ap (λ (i : ℕ). get_or (laid_out c o) i 0) e ∙ past-columns (relations + j)
      ∙ beyond (table (loops_of c) relations) behind_loops relations j (length-table _ relations)

  past-allowed : (j : ℕ) → get_or (laid_out c o) (named_from + j) 0 ≡ get_or behind_allowed j 0
  past-allowed j =
      let e : named_from + j ≡ allowed_from + (most_steps + j) = omega arith in
      ap (λ (i : ℕ). get_or (laid_out c o) i 0) e ∙ past-loops (most_steps + j)
      ∙ beyond (table (allowed_of c) most_steps) behind_allowed most_steps j (length-table _ most_steps)

  past-named : (j : ℕ) → get_or (laid_out c o) (rules_from + j) 0 ≡ get_or behind_named j 0
  past-named j =
      let e : rules_from + j ≡ named_from + (most_steps + j) = omega arith in
      ap (λ (i : ℕ). get_or (laid_out c o) i 0) e ∙ past-allowed (most_steps + j)
      ∙ beyond (table (named_of c) most_steps) behind_named most_steps j (length-table _ most_steps)

  past-rules : (j : ℕ) → get_or (laid_out c o) (ready_from + j) 0 ≡ get_or behind_rules j 0
  past-rules j =
      let e : ready_from + j ≡ rules_from + (most_rules + j) = omega arith in
      ap (λ (i : ℕ). get_or (laid_out c o) i 0) e ∙ past-named (most_rules + j)
      ∙ beyond (table (packed_of c) most_rules) behind_rules most_rules j (length-table _ most_rules)

  past-ready : (j : ℕ) → get_or (laid_out c o) (complete_from + j) 0 ≡ get_or behind_ready j 0
  past-ready j =
      let e : complete_from + j ≡ ready_from + (halves + j) = omega arith in
      ap (λ (i : ℕ). get_or (laid_out c o) i 0) e ∙ past-rules (halves + j)
      ∙ beyond (table (ready_of c o) halves) behind_ready halves j (length-table _ halves)

  pub column-at : (k v : ℕ) → k < relations → v < most_people → set_at (laid_out c o) (column_place k v) ≡ column_of c k v
  unfolding set_at
  column-at k v h l =
      past-rows (k * most_people + v)
      ∙ get_or-append columns_part behind_columns 0 (k * most_people + v)
      (omega (arith, length-table (λ i. column_of c (i / most_people) (i % most_people)) rows))
      ∙ in_block (column_of c) k v h l

  pub loops-at : (k : ℕ) → k < relations → set_at (laid_out c o) (loops_place k) ≡ loops_of c k
  unfolding set_at
  loops-at k h = past-columns k ∙ in_table (loops_of c) relations k behind_loops h

  pub allowed_at : (s : ℕ) → s < most_steps → set_at (laid_out c o) (allowed_place s) ≡ allowed_of c s
  unfolding set_at
  allowed_at s h = past-loops s ∙ in_table (allowed_of c) most_steps s behind_allowed h

  pub named-at : (s : ℕ) → s < most_steps → get_or (laid_out c o) (named_place s) 0 ≡ named_of c s
  named-at s h = past-allowed s ∙ in_table (named_of c) most_steps s behind_named h

  pub rule-at : (i : ℕ) → i < most_rules → get_or (laid_out c o) (rule_place i) 0 ≡ packed_of c i
  rule-at i h = past-named i ∙ in_table (packed_of c) most_rules i behind_rules h

  pub ready_at : (j : ℕ) → j < halves → get_or (laid_out c o) (ready_from + j) 0 ≡ ready_of c o j
  ready_at j h = past-rules j ∙ in_table (ready_of c o) halves j behind_ready h

  pub complete-at : (j : ℕ) → j < halves → get_or (laid_out c o) (complete_from + j) 0 ≡ complete_of c j
  complete-at j h = past-ready j ∙ get_or-table (complete_of c) halves j 0 h

  pub laid-length : length (laid_out c o) ≡ places
  unfolding laid_out
  laid-length =
      omega (
        arith,
        length-append rows_part (columns_part ++ behind_columns),
        length-append columns_part behind_columns,
        length-append (table (loops_of c) relations) behind_loops,
        length-append (table (allowed_of c) most_steps) behind_allowed,
        length-append (table (named_of c) most_steps) behind_named,
        length-append (table (packed_of c) most_rules) behind_rules,
        length-append (table (ready_of c o) halves) behind_ready,
        length-table (λ i. row_of c (i / most_people) (i % most_people)) rows,
        length-table (λ i. column_of c (i / most_people) (i % most_people)) rows,
        length-table (loops_of c) relations,
        length-table (allowed_of c) most_steps,
        length-table (named_of c) most_steps,
        length-table (packed_of c) most_rules,
        length-table (ready_of c o) halves,
        length-table (complete_of c) halves,
      )
