-- A position as bytes: pairs of a step and a person, in the order done. Steps are done as listed, so pair i is of step i.
use Rattle.std.specs.Prelude.{◌&&◌, List, ℕ, ◌+◌, ◌*◌, ◌/◌, ltb, eqb, length, get_or}
use Rattle.sets.specs.Lists.{pick}
use Rattle.words.specs.Part.{table}

-- a number that no person of a case has
abbrev pub unknown : ℕ
unknown = 255

-- the person of entry i: unknown where the pair is of another step, or is a last byte alone
unfoldable pub person_in : List ℕ → ℕ → ℕ
person_in b i = pick (ltb (2 * i + 1) (length b) && eqb (get_or b (2 * i) 0) i) (get_or b (2 * i + 1) 0) unknown

-- how many entries there are, a last byte alone among them
abbrev pub entries_in : List ℕ → ℕ
entries_in b = (length b + 1) / 2

-- the persons, entry by entry
unfoldable pub persons_in : List ℕ → List ℕ
persons_in b = table (person_in b) (entries_in b)
