-- The rules, over which steps are filled and by whom.
use Rattle.std.specs.Prelude.{Bool, not, ◌&&◌, ◌||◌, List, ℕ, zero, suc, eqb}
use Rattle.sets.specs.Lists.{pick, all, any}
use Rattle.sets.specs.Sets.{has, members}
use Rattle.cases.specs.declared.Rule.{Rule}
use Rattle.cases.specs.declared.Case.{Case}
use Rattle.cases.specs.Case.{most_steps, row, rules}

-- Relation 0 is "same person", 1 is "different person", 2 and up are the file's tables.
unfoldable pub related : Case → ℕ → ℕ → ℕ → Bool
related c zero u v = eqb u v
related c (suc zero) u v = not (eqb u v)
related c (suc (suc k)) u v = has (row c k u) v

-- the steps in a set of steps, ascending
unfoldable pub steps_in : ℕ → List ℕ
steps_in x = members most_steps x

-- Form 1, whose X has one member, needs it for every member of X, form 2 for some member, form 3 for every member.
unfoldable pub needed : ℕ → (ℕ → Bool) → List ℕ → Bool
needed form test xs =
    pick (eqb form 1) (all test xs)
    (pick (eqb form 2) (any test xs)
    (all test xs))

-- a rule's steps, s and X, are filled
unfoldable pub filled : Rule → (ℕ → Bool) → Bool
filled r is_filled = is_filled r.step.0 && all is_filled (steps_in r.group)

-- with member x of X the pair is in the relation; the pair tested is always (person of s, person of a member of X)
abbrev pub paired : Case → Rule → (ℕ → ℕ) → ℕ → Bool
paired c r who x = related c r.relation (who r.step.0) (who x)

-- A rule is kept when the pair is in the relation for as many members of X as its form needs.
unfoldable pub kept : Case → Rule → (ℕ → ℕ) → Bool
kept c r who = needed r.form (paired c r who) (steps_in r.group)

-- every rule, all of whose steps are filled, holds
unfoldable pub rules_hold : Case → (ℕ → Bool) → (ℕ → ℕ) → Bool
rules_hold c is_filled who = all (λ r. not (filled r is_filled) || kept c r who) (rules c)
