-- A case laid out as a board: what stands at each place.
use Rattle.std.specs.Prelude.{Bool, not, ◌&&◌, ◌||◌, List, ◌++◌, ℕ, ◌+◌, ◌/◌, ◌%◌, eqb, ltb, get_or, replicate}
use Rattle.sets.specs.Lists.{upto, all}
use Rattle.sets.specs.Sets.{has, set_of}
use Rattle.sets.specs.Stored.{width}
use Rattle.words.specs.Part.{table}
use Rattle.cases.specs.declared.Rule.{Rule}
use Rattle.cases.specs.declared.Case.{Case}
use Rattle.cases.specs.Case.{most_people, most_steps, most_rules, people, steps, tables, entry, zero_step, zero_rule}
use Rattle.cases.specs.Rules.{related}
use Rattle.cases.specs.Plans.{may}
use Rattle.boards.specs.Board.{relations, rows, half_steps, halves, places, half_step}
use Rattle.pieces.specs.declared.Order.{Order}
use Rattle.pieces.specs.declared.Order.TheVariants as order
use Rattle.pieces.specs.Pieces.{packed}

-- a board with nothing on it
abbrev pub blank_board : List ℕ
blank_board = replicate places 0

-- step x is one of the rule's steps
unfoldable pub names : Rule → ℕ → Bool
names r x = eqb r.step.0 x || has r.group x

module _ (c : Case) where
  -- u and v are people of the case, k is one of its relations, and (u, v) is in it
  unfoldable pub pair_of : ℕ → ℕ → ℕ → Bool
  pair_of k u v = ltb k (tables c + 2) && (ltb u (people c) && (ltb v (people c) && related c k u v))

  -- the set of v with (u, v) in relation k, the set of u with (u, v) in it, the set of u with (u, u) in it
  unfoldable pub row_of : ℕ → ℕ → ℕ
  row_of k u = set_of (λ v. pair_of k u v) width

  unfoldable pub column_of : ℕ → ℕ → ℕ
  column_of k v = set_of (λ u. pair_of k u v) width

  unfoldable pub loops_of : ℕ → ℕ
  loops_of k = set_of (λ u. pair_of k u u) width

  -- the people who may do step s
  unfoldable pub allowed_of : ℕ → ℕ
  allowed_of s = set_of (λ u. may c u s) width

  -- the rules in use that name step s
  unfoldable pub named_of : ℕ → ℕ
  named_of s = set_of (λ i. ltb i c.counts.rules && names (get_or c.rules i zero_rule) s) most_rules

  -- the steps that must precede step s: all lower ones where steps are filled as listed, else those that the case names
  abbrev pub preceding : Order → ℕ → ℕ
  preceding order.Listed s = set_of (λ x. ltb x s) most_steps
  preceding order.Chosen s = (entry zero_step (steps c) c.steps s).before

  -- entry i of the rules, as one number
  unfoldable pub packed_of : ℕ → ℕ
  packed_of i = packed (entry zero_rule c.counts.rules c.rules i)

  -- entry j of a table by halves: the steps that no step of the half must precede but such as are in the entry's set
  unfoldable pub ready_of : Order → ℕ → ℕ
  ready_of o j = set_of (λ s. ltb s (steps c) && all (λ x. has j x || not (has (preceding o s) (half_step j x))) (upto half_steps)) most_steps

  -- the rules in use that name no step of the half but such as are in the entry's set
  unfoldable pub complete_of : ℕ → ℕ
  complete_of j =
      set_of (λ i. ltb i c.counts.rules && all (λ x. has j x || not (names (get_or c.rules i zero_rule) (half_step j x))) (upto half_steps)) most_rules

  -- the board, part by part
  unfoldable pub laid_out : Order → List ℕ
  laid_out o =
      table (λ i. row_of (i / most_people) (i % most_people)) rows
      ++ (table (λ i. column_of (i / most_people) (i % most_people)) rows
      ++ (table loops_of relations
      ++ (table allowed_of most_steps
      ++ (table named_of most_steps ++ (table packed_of most_rules ++ (table (ready_of o) halves ++ table complete_of halves))))))
