-- A position in memory: the persons of the first `len` steps.
use Rattle.std.specs.Prelude.{List, [], ◌∷◌, ◌++◌, map, ℕ, ◌+◌, ltb, length, get_or, set, replicate}
use Rattle.sets.specs.Lists.{pick, upto}
use Rattle.cases.specs.declared.Person.{Person}
use Rattle.cases.specs.declared.Position.{Position}
use Rattle.cases.specs.Case.{most_steps}

abbrev pub zero_person : Person
zero_person = record { 0 = 0 }

abbrev pub start_position : Position
start_position = record { who = replicate most_steps zero_person; len = 0 }

-- the persons' numbers, step by step
unfoldable pub persons : Position → List ℕ
persons p = map (λ i. (get_or p.who i zero_person).0) (upto p.len)

-- the position with one person more, where there is room
abbrev pub placed_next : Position → Person → Position
placed_next p v = pick (ltb p.len most_steps) (record { who = set p.who p.len v; len = p.len + 1 }) p

-- the persons of that position
abbrev pub next_persons : List ℕ → ℕ → List ℕ
next_persons l v = pick (ltb (length l) most_steps) (l ++ (v ∷ [])) l
