-- The board: a case laid out as plain numbers, so that a search reads what it needs and copies nothing. First the sets, whose places count sets:
--   rows      the set of v with (u, v) in relation k, relation by relation, in each one for every person
--   columns   the set of u with (u, v) in relation k, in the same order
--   loops     the set of u with (u, u) in relation k
--   allowed   the set of people who may do step s
-- then the plain numbers, whose places count words:
--   named     the set of rules that name step s, bit i for rule i
--   rules     form, relation, step s and set X of rule i, one byte each from the lowest up
--   ready     the steps that no step of a half but those in the entry's set must precede
--   complete  the rules that name no step of a half but those in the entry's set, bit i for rule i
-- The last two are tables by halves: the steps are taken as a low and a high half, and a table has an entry for each set of low steps, then one for each
-- set of high steps, bit x of the entry's number for step x of its half. A set of steps has an entry in each half, and what both tell is told of the set.
-- Past its end every number reads 0, and every set is of nobody.
use Rattle.std.specs.Prelude.{Bool, List, ℕ, ◌+◌, ◌*◌, ◌/◌, ◌%◌, ◌^◌, eqb, get_or}
use Rattle.sets.specs.Lists.{pick, all, any}
use Rattle.sets.specs.Sets.{has, set_of, members, common, difference, with}
use Rattle.sets.specs.Stored.{width, set_at}
use Rattle.cases.specs.declared.Rule.{Rule}
use Rattle.cases.specs.declared.Filled.{Filled}
use Rattle.cases.specs.Case.{most_people, most_steps, most_tables, most_rules}
use Rattle.cases.specs.Rules.{needed, steps_in}
use Rattle.cases.specs.Filled.{who_in}

-- ---- The places

-- how many relations there are, how many rows, and how many words a set takes
abbrev pub relations : ℕ
relations = most_tables + 2

abbrev pub rows : ℕ
rows = relations * most_people

abbrev pub set_words : ℕ
set_words = 1

-- how many steps a half has, how many sets of its steps there are, and how many entries a table by halves has
abbrev pub half_steps : ℕ
half_steps = most_steps / 2

abbrev pub half_sets : ℕ
half_sets = 2 ^ half_steps

abbrev pub halves : ℕ
halves = 2 * half_sets

-- where each part starts
abbrev pub columns_from : ℕ
columns_from = rows

abbrev pub loops_from : ℕ
loops_from = columns_from + rows

abbrev pub allowed_from : ℕ
allowed_from = loops_from + relations

abbrev pub named_from : ℕ
named_from = (allowed_from + most_steps) * set_words

abbrev pub rules_from : ℕ
rules_from = named_from + most_steps

abbrev pub ready_from : ℕ
ready_from = rules_from + most_rules

abbrev pub complete_from : ℕ
complete_from = ready_from + halves

-- how many words there are
abbrev pub places : ℕ
places = complete_from + halves

abbrev pub row_place : ℕ → ℕ → ℕ
row_place k u = k * most_people + u

abbrev pub column_place : ℕ → ℕ → ℕ
column_place k v = columns_from + (k * most_people + v)

abbrev pub loops_place : ℕ → ℕ
loops_place k = loops_from + k

abbrev pub allowed_place : ℕ → ℕ
allowed_place s = allowed_from + s

abbrev pub named_place : ℕ → ℕ
named_place s = named_from + s

abbrev pub rule_place : ℕ → ℕ
rule_place i = rules_from + i

-- the entries of a set of steps in a table by halves, in which only the bits of steps count; and the step that bit x stands for in entry j
abbrev pub low_entry : ℕ → ℕ
low_entry f = f % half_sets

abbrev pub high_entry : ℕ → ℕ
high_entry f = half_sets + f / half_sets % half_sets

abbrev pub half_step : ℕ → ℕ → ℕ
half_step j x = j / half_sets * half_steps + x

-- ---- A rule as one number: one byte each, from the lowest up

abbrev pub unpacked : ℕ → Rule
unpacked word = record { form = word % 256; relation = word / 256 % 256; step = record { 0 = word / 65536 % 256 }; group = word / 16777216 % 256 }

-- ---- Reading a board

module _ (b : List ℕ) where
  -- the people who may do step s
  unfoldable pub allowed_on : ℕ → ℕ
  allowed_on s = set_at b (allowed_place s)

  -- the rules that name step s
  unfoldable pub named_on : ℕ → ℕ
  named_on s = get_or b (named_place s) 0

  -- rule i
  unfoldable pub rule_on : ℕ → Rule
  rule_on i = unpacked (get_or b (rule_place i) 0)

  -- what a table by halves, from a place on, tells of a set of steps
  unfoldable pub both_on : ℕ → ℕ → ℕ
  both_on start f = common most_rules (get_or b (start + low_entry f) 0) (get_or b (start + high_entry f) 0)

  -- the rules all of whose steps are in a set of steps
  unfoldable pub complete_on : ℕ → ℕ
  complete_on f = both_on complete_from f

  module _ (p : Filled) where
    -- the steps that may be filled next: those that must precede them are filled, and they are not
    unfoldable pub ready_on : ℕ
    ready_on = difference most_steps (both_on ready_from p.steps) p.steps

    module _ (s : ℕ) where
      -- the rules whose steps are all filled once s is
      unfoldable pub full_on : ℕ
      full_on = complete_on (with most_steps p.steps s)

      -- the rules that step s completes: they name it, and with it all of their steps are filled
      unfoldable pub due_on : ℕ
      due_on = common most_rules (named_on s) full_on

      -- the people with whom, placed at s, the pair (person of y, person of x) is in relation k
      unfoldable pub pair_on : ℕ → ℕ → ℕ → ℕ
      pair_on k y x =
          pick (eqb y s)
          (pick (eqb x s) (set_at b (loops_place k)) (set_at b (column_place k (who_in p x))))
          (pick (eqb x s) (set_at b (row_place k (who_in p y))) (set_of (λ u. has (set_at b (row_place k (who_in p y))) (who_in p x)) width))

      -- the people with whom, placed at s, every pair of a rule is in its relation, and those with whom some pair is
      unfoldable pub every_pair_on : Rule → ℕ
      every_pair_on r = set_of (λ u. all (λ x. has (pair_on r.relation r.step.0 x) u) (steps_in r.group)) width

      unfoldable pub some_pair_on : Rule → ℕ
      some_pair_on r = set_of (λ u. any (λ x. has (pair_on r.relation r.step.0 x) u) (steps_in r.group)) width

      -- with person u placed at s, a rule is kept
      unfoldable pub kept_on : Rule → ℕ → Bool
      kept_on r u = needed r.form (λ x. has (pair_on r.relation r.step.0 x) u) (steps_in r.group)

      -- the people with whom, placed at s, every rule is kept that s completes
      unfoldable pub fits_on : ℕ
      fits_on = set_of (λ u. all (λ i. kept_on (rule_on i) u) (members most_rules due_on)) width
