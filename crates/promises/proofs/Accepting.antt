-- What the calls of play accept: every valid position that is not full, and every set of at most t of the people.
use mathlib.Core.Path.{◌≡◌, ap₂, ◌∙◌}
use mathlib.Core.Bool.{Bool, ◌||◌}
use mathlib.Core.Option.{none}
use mathlib.Core.List.{List, [], ◌∷◌}
use Prim.Native.Nat.{ℕ, ◌^◌, ◌≤◌, ◌<◌}
use native.Mathlib.Nat.{lt_of_lt_of_le}
use native.Mathlib.Omega.{arith}
use borrow.Author.Tests.{le-ltb}
use lib.ListN.{length, get_or}
use lib.Pow.{pow_mono}
use Rattle.sets.specs.Sets.{size}
use Rattle.sets.specs.Stored.{width}
use Rattle.sets.specs.Lists.{only_if}
use Rattle.sets.proofs.NotBelow.{lt-past}
use Rattle.sets.proofs.Counting.{size-width}
use Rattle.games.specs.Games.{Absent}
use Rattle.cases.specs.declared.Case.{Case}
use Rattle.cases.specs.Case.{people, steps}
use Rattle.cases.specs.Plans.{Valid}
use Rattle.cases.proofs.Rounds.{may-known}
use Rattle.refusals.specs.Refusals.{Good, refusal, judged_by, or_else}
use Rattle.refusals.proofs.Cases.{good-limited}
use Rattle.asking.specs.Asking.{absence_check, judged_question, judged_away, judged_advice}
use Rattle.asking.proofs.Accepted.{GoodPosition, accepted-position}
use Rattle.asking.proofs.Calls.{away-order, advice-order, question-good}

pub good-position : (c : Case) (p : List ℕ) → Valid c p → length p < steps c → GoodPosition c p
good-position c p v s = record { short = s; known = λ i l. may-known c (get_or p i 0) i (v.able i l); valid = v }

accepted-absence : (n t A : ℕ) → n ≤ width → Absent n t A → absence_check n t A ≡ none
unfolding absence_check
accepted-absence n t A h a =
    let w : A < 2 ^ width = lt_of_lt_of_le a.known (pow_mono h) in
    ap₂ (λ (x y : Bool). only_if (x || y) (refusal 14 0)) (lt-past width A n a.known) (le-ltb t (size width A) (omega (arith, a.few, size-width n width A a.known w)))

module _ (c : Case) (t : ℕ) where
  few-people : judged_question c t ≡ Good → people c ≤ width
  few-people e = (good-limited c (question-good c t e).0).people

  -- a set of people is a 32-bit number
  pub absent-word : (A : ℕ) → judged_question c t ≡ Good → Absent (people c) t A → A < 2 ^ width
  absent-word A e a = lt_of_lt_of_le a.known (pow_mono (few-people e))

  pub away-accepts : (p : List ℕ) → judged_question c t ≡ Good → GoodPosition c p → judged_away c p t ≡ Good
  unfolding judged_by
  away-accepts p e g = away-order c p t ∙ ap₂ (λ j x. or_else j (judged_by (x ∷ []))) e (accepted-position c p g)

  pub advice-accepts : (p : List ℕ) (A : ℕ) → judged_question c t ≡ Good → GoodPosition c p → Absent (people c) t A → judged_advice c p t A ≡ Good
  unfolding judged_by
  advice-accepts p A e g a =
      advice-order c p t A ∙ ap₂ (λ j x. or_else j (judged_by (x ∷ []))) (away-accepts p e g) (accepted-absence (people c) t A (few-people e) a)
