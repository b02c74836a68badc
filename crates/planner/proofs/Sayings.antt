-- A walk's end as a call says it, and the position of a list of persons.
use mathlib.Core.Path.{◌≡◌, sym, ap, ◌∙◌}
use mathlib.Core.List.{List, map}
use Prim.Native.Nat.{ℕ, ◌≤◌}
use native.Mathlib.Omega.{arith}
use lib.ListN.{length, get_or}
use lib.Seq.{ext_get_or}
use Rattle.sets.specs.Lists.{upto}
use Rattle.sets.specs.declared.People.{People}
use Rattle.sets.proofs.Records.{stored-number}
use Rattle.cases.specs.Case.{most_steps}
use Rattle.cases.specs.Positions.{persons, zero_person}
use Rattle.cases.proofs.Positions.{upto-at, upto-many}
use Rattle.tries.specs.declared.Verdict.TheVariants as walked
use Rattle.tries.specs.Outcomes.{verdict_outcome}
use Rattle.planner.specs.declared.VerdictAnswer.TheVariants as verdict
use Rattle.planner.specs.declared.AwayAnswer.TheVariants as away
use Rattle.planner.specs.Answers.{person_of, position_of, verdict_answer, away_answer}

-- a set that is shown is the set that was stored
pub verdict-shown : (l c : ℕ) (s : People) → verdict.No s c ≡ verdict_answer (verdict_outcome l (walked.No s c))
verdict-shown l c s = ap (λ x. verdict.No x c) (sym (stored-number s))

pub away-shown : (l c : ℕ) (s : People) → away.People s c ≡ away_answer (verdict_outcome l (walked.No s c))
away-shown l c s = ap (λ x. away.People x c) (sym (stored-number s))

-- the persons of the position of a list that fits
pub persons-position : (q : List ℕ) → length q ≤ most_steps → persons (position_of q) ≡ q
unfolding persons position_of
persons-position q h =
    let long = upto-many (λ i. (get_or (map (λ i. person_of (get_or q i 0)) (upto most_steps)) i zero_person).0) (length q) in
    ext_get_or 0 (map (λ i. (get_or (map (λ i. person_of (get_or q i 0)) (upto most_steps)) i zero_person).0) (upto (length q))) q long
    (λ i l. upto-at (λ i. (get_or (map (λ i. person_of (get_or q i 0)) (upto most_steps)) i zero_person).0) (length q) i 0 (omega arith)
    ∙ ap (λ v. v.0) (upto-at (λ i. person_of (get_or q i 0)) most_steps i zero_person (omega arith)))
