-- Refusals, and the one order in which they are given. Lowest number first; under one number the earliest entry.
use Rattle.std.specs.Prelude.{⊤, Bool, List, [], ◌∷◌, ℕ, Result, Ok, Err}
use Rattle.std.proofs.Math.Option.{Option, none, some}
use Rattle.sets.specs.Lists.{only_if, head, keep, upto}
use Rattle.refusals.specs.declared.Refusal.{Refusal}

-- a refusal of a number, at a place
abbrev pub refusal : ℕ → ℕ → Refusal
refusal n place = record { number = n; place = place }

-- What judging gives: nothing is wrong, or the one refusal.
abbrev pub Judged : Type 0
Judged = Result ⊤ Refusal

abbrev pub Good : Judged
Good = Ok tt

abbrev pub Refused : Refusal → Judged
Refused r = Err r

-- A check under one number gives its refusal, or none where the number is not met.
abbrev pub Check : Type 0
Check = Option Refusal

-- Checks stand in the order of their numbers. The first that is met is the refusal given.
unfoldable pub judged_by : List Check → Judged
judged_by [] = Good
judged_by (none ∷ checks) = judged_by checks
judged_by (some r ∷ checks) = Refused r

-- an earlier judgement, or where it is good a later one
abbrev pub or_else : Judged → Judged → Judged
or_else (Ok nothing) later = later
or_else (Err r) later = Refused r

-- a check of the whole, placed at 0
abbrev pub only_check : ℕ → Bool → Check
only_check n met = only_if met (refusal n 0)

-- the first index below n that passes a test
unfoldable pub found_first : (ℕ → Bool) → ℕ → Option ℕ
found_first test n = head (keep test (upto n))

-- the refusal of the entry that is found, at its place
abbrev pub refusal_at : ℕ → (ℕ → ℕ) → Option ℕ → Check
refusal_at n place none = none
refusal_at n place (some i) = some (refusal n (place i))

-- a check of m entries: the earliest that fails is refused, at its place
abbrev pub entry_check : ℕ → (ℕ → ℕ) → (ℕ → Bool) → ℕ → Check
entry_check n place fails m = refusal_at n place (found_first fails m)
