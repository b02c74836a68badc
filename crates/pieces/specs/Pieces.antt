-- What stands at the places of a board, from what each function is lent; and a list with a part put onto it.
use Rattle.std.specs.Prelude.{◌≡◌, Bool, not, ◌&&◌, ◌||◌, List, ℕ, zero, suc, ◌+◌, ◌-◌, ◌*◌, ◌≤◌, eqb, leb, ltb, length, get_or}
use Rattle.sets.specs.Lists.{pick, upto, all}
use Rattle.sets.specs.Sets.{has, set_of, meets, with, everybody}
use Rattle.sets.specs.Stored.{width, set_at}
use Rattle.words.specs.Part.{table}
use Rattle.cases.specs.declared.Rule.{Rule}
use Rattle.cases.specs.declared.StepEntry.{StepEntry}
use Rattle.cases.specs.Case.{most_steps, most_roles, most_rules, zero_step, zero_rule}
use Rattle.boards.specs.Board.{half_steps, row_place, half_step}
use Rattle.pieces.specs.declared.Order.{Order}
use Rattle.pieces.specs.declared.Order.TheVariants as order

-- ---- The rows, from the words of the tables' rows

-- (u, v) is in relation k among n people
unfoldable pub related_in : List ℕ → ℕ → ℕ → ℕ → ℕ → Bool
related_in words n zero u v = eqb u v
related_in words n (suc zero) u v = not (eqb u v)
related_in words n (suc (suc k)) u v = has (set_at words (k * n + u)) v

-- of n people those v with (u, v) in relation k
unfoldable pub row_in : List ℕ → ℕ → ℕ → ℕ → ℕ
row_in words n k u = set_of (λ v. ltb v n && related_in words n k u v) width

-- ---- What is read off the rows of a board

-- the people u whose row in relation k has v; the column of v, which in the first two relations is v's own row
unfoldable pub gathered_in : List ℕ → ℕ → ℕ → ℕ
gathered_in b k v = set_of (λ u. has (set_at b (row_place k u)) v) width

unfoldable pub column_in : List ℕ → ℕ → ℕ → ℕ
column_in b k v = pick (ltb k 2) (set_at b (row_place k v)) (gathered_in b k v)

-- the people whose row in relation k has themselves; of n people those in relation k with themselves
unfoldable pub having_in : List ℕ → ℕ → ℕ
having_in b k = set_of (λ u. has (set_at b (row_place k u)) u) width

abbrev pub loops_in : List ℕ → ℕ → ℕ → ℕ
loops_in b n zero = everybody width n
loops_in b n (suc zero) = 0
loops_in b n (suc (suc k)) = having_in b (suc (suc k))

-- ---- The other parts

-- of n people, those one of whose roles is wanted
unfoldable pub allowed_in : List ℕ → ℕ → ℕ → ℕ
allowed_in held n wanted = set_of (λ u. ltb u n && meets most_roles (get_or held u 0) wanted) width

-- the steps that must precede step s
abbrev pub preceding_in : StepEntry → Order → ℕ → ℕ
preceding_in step order.Listed s = set_of (λ x. ltb x s) most_steps
preceding_in step order.Chosen s = step.before

-- a rule as one number: form, relation, step s and set X, one byte each from the lowest up
unfoldable pub packed : Rule → ℕ
packed r = r.form + (r.relation * 256 + (r.step.0 * 65536 + r.group * 16777216))

-- ---- What waits for a step; `on i` is the set of steps that i waits for

-- the steps that rule i names, and those that must precede step s
abbrev pub named_by : List Rule → ℕ → ℕ
named_by rules i = with most_steps (get_or rules i zero_rule).group (get_or rules i zero_rule).step.0

abbrev pub preceded_by : List StepEntry → Order → ℕ → ℕ
preceded_by chain o s = preceding_in (get_or chain s zero_step) o s

-- of the first n, those that wait for step x
unfoldable pub waits_in : (ℕ → ℕ) → ℕ → ℕ → ℕ
waits_in on n x = set_of (λ i. has (on i) x && ltb i n) most_rules

-- of words that have those that wait for each step, word x, with i put to it where x is in a set of steps
abbrev pub waiting_on : List ℕ → ℕ → ℕ → ℕ → ℕ
waiting_on waits on i x = pick (has on x) (with most_rules (get_or waits x 0) i) (get_or waits x 0)

-- ---- A table by halves; word x of `waits` has those that wait for step x

-- of a set, those that wait for none of the first n steps of entry j's half but such as are in the entry's set
unfoldable pub free_in : List ℕ → ℕ → ℕ → ℕ → ℕ
free_in waits whole j n = set_of (λ i. has whole i && all (λ x. has j x || not (has (get_or waits (half_step j x) 0) i)) (upto n)) most_rules

-- entry j
abbrev pub half_in : List ℕ → ℕ → ℕ → ℕ
half_in waits whole j = free_in waits whole j half_steps

-- ---- A board with a part put onto it

-- f 0, .., f (n - 1) from place a on
unfoldable pub laid_from : ℕ → ℕ → (ℕ → ℕ) → List ℕ → List ℕ
laid_from a n f l = table (λ i. pick (leb a i && ltb i (a + n)) (f (i - a)) (get_or l i 0)) (length l)

-- ---- How far the loops have come

-- of the first n of w, those who pass the test
pub record Collected (test : ℕ → Bool) (w n set : ℕ) : Type 0 where
  pub upto : n ≤ w
  pub those : set ≡ set_of (λ u. test u && ltb u n) w

-- of those that wait, n are put
pub record Waiting (on : ℕ → ℕ) (n : ℕ) (out : List ℕ) : Type 0 where
  pub upto : n ≤ most_rules
  pub so : out ≡ table (waits_in on n) most_steps

-- of a half's steps, n are gone through
pub record Halved (waits : List ℕ) (whole j n set : ℕ) : Type 0 where
  pub upto : n ≤ half_steps
  pub those : set ≡ free_in waits whole j n

-- of n entries of a part, i are put
pub record Put (a n : ℕ) (f : ℕ → ℕ) (l : List ℕ) (i : ℕ) (out : List ℕ) : Type 0 where
  pub upto : i ≤ n
  pub so : out ≡ laid_from a i f l
