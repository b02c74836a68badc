-- How a write is judged, what it answers and what it leaves.
use Prim.Native.Nat.{ℕ, ◌≤◌}
use Rattle.std.specs.Prelude.{Ok, Err}
use mathlib.Core.Path.{◌≡◌, refl, sym, ◌∙◌, ap}
use mathlib.Core.Bool.{Bool, true, false}
use mathlib.Core.List.{List, [], ◌∷◌, ◌++◌}
use borrow.Author.Tests.{ltb-false, le-ltb}
use lib.Dec.{ltb}
use lib.ListN.{length, drop}
use Rattle.cases.specs.declared.Case.{Case}
use Rattle.refusals.specs.declared.Refusal.{Refusal}
use Rattle.refusals.specs.Refusals.{Judged, Good, judged_by, or_else, only_check}
use Rattle.refusals.specs.Refusals as judged
use Rattle.refusals.specs.Offsets.{total_of}
use Rattle.refusals.specs.CaseChecks.{case_checks, judged_case}
use Rattle.refusals.proofs.Order.{good-refused, judged-append}
use Rattle.layout.specs.Layout.{file_of}
use Rattle.writing.specs.Writing.{Bytes, Refused, room_check, write_checks, judged_write, answer_of, write_answer, held_after, written}

-- the case is judged first, then the room
pub case-then-room : (n : ℕ) (c : Case) → judged_write n c ≡ or_else (judged_case c) (judged_by (only_check 15 (ltb n (total_of c.counts)) ∷ []))
unfolding judged_write write_checks room_check judged_case
case-then-room n c = judged-append (case_checks c) _

both-good : (j k : Judged) → or_else j k ≡ Good → (j ≡ Good) × (k ≡ Good)
both-good (Ok nothing) k e = (refl, e)
both-good (Err r) k e = absurd (good-refused e refl)

unmet : (r : ℕ) (met : Bool) → judged_by (only_check r met ∷ []) ≡ Good → met ≡ false
unfolding judged_by
unmet r false e = refl
unmet r true e = absurd (good-refused e refl)

-- a write is good exactly if the case is and there is room for its file
pub write-good : (n : ℕ) (c : Case) → judged_write n c ≡ Good → (judged_case c ≡ Good) × (total_of c.counts ≤ n)
write-good n c e =
    let b = both-good (judged_case c) _ (sym (case-then-room n c) ∙ e) in
    (b.0, ltb-false n (total_of c.counts) (unmet 15 _ b.1))

pub good-write : (n : ℕ) (c : Case) → judged_case c ≡ Good → total_of c.counts ≤ n → judged_write n c ≡ Good
unfolding judged_by
good-write n c e h = case-then-room n c ∙ simp (e, le-ltb n (total_of c.counts) h)

-- What is answered and left, where the write is refused and where it is not.
module _ (l : List ℕ) (c : Case) where
  pub refused-leaves : (r : Refusal) → judged_write (length l) c ≡ judged.Refused r → (Refused r ≡ write_answer (length l) c) × (l ≡ written l c)
  unfolding write_answer written
  refused-leaves r e = (sym (ap (answer_of c) e), sym (ap (held_after l c) e))

  pub good-leaves : judged_write (length l) c ≡ Good
      → (Bytes (total_of c.counts) ≡ write_answer (length l) c) × (file_of c ++ drop (total_of c.counts) l ≡ written l c)
  unfolding write_answer written
  good-leaves e = (sym (ap (answer_of c) e), sym (ap (held_after l c) e))
