-- What a refused write gives, and when a write is refused.
use Rattle.std.specs.Prelude.{Ok, Err}
use Prim.Native.Nat.{ℕ}
use mathlib.Core.Path.{◌≡◌, refl, sym, ◌∙◌, ap, subst}
use mathlib.Core.Logic.{inl, inr, ◌↔◌}
use mathlib.Core.List.{List}
use native.Mathlib.Omega.{arith}
use lib.ListN.{length}
use Rattle.cases.specs.declared.Case.{Case}
use Rattle.refusals.specs.declared.Refusal.{Refusal}
use Rattle.refusals.specs.Refusals.{Judged}
use Rattle.refusals.specs.Refusals as judged
use Rattle.refusals.specs.Offsets.{total_of}
use Rattle.refusals.specs.CaseChecks.{case_checks}
use Rattle.refusals.specs.Table.{Exactly, Meets, case_table}
use Rattle.refusals.proofs.Table.{exactly, told-append, only-tells}
use Rattle.refusals.proofs.Conditions.{below-is}
use Rattle.refusals.proofs.Cases.{case-tells}
use Rattle.writing.specs.Writing.{Written}
use Rattle.writing.specs.Writing.{Refused}
use Rattle.writing.specs.Writing.{room_check, write_checks, judged_write, answer_of, write_answer, held_after, written, told, judged_in, write_table}
use Rattle.trips.specs.Trips.{LeftAlone}

-- the judgement that the writer's answer gives is the one that it made
pub write-judged : (n : ℕ) (c : Case) → judged_in (write_answer n c) ≡ judged_write n c
unfolding write_answer judged_in
write-judged n c = go (judged_write n c)
  where
    go : (j : Judged) → judged_in (answer_of c j) ≡ j
    go (Ok nothing) = refl
    go (Err r) = refl

-- A write gives 4, 7 to 11 or 15 exactly when that number is met and no lower one is, at the earliest entry's place; else it is good.
pub write-exactly : (c : Case) (n : ℕ) → Exactly (write_table c n) (judged_in (write_answer n c))
unfolding judged_write write_checks room_check
write-exactly c n =
    subst (Exactly (write_table c n)) (sym (write-judged n c))
    (exactly (write_checks c n) (write_table c n)
    (told-append (case_checks c) _ (case_table c) _ (case-tells c) (only-tells 15 _ _ (below-is n (total_of c.counts)), tt))
    refl)

-- no number of the table is 0
met-number : (c : Case) (n m p : ℕ) → Meets (write_table c n) m p → m ≡ 0 → ⊥
met-number c n m p (inl h) z = omega (arith, h.0)
met-number c n m p (inr (inl h)) z = omega (arith, h.0)
met-number c n m p (inr (inr (inl h))) z = omega (arith, h.0)
met-number c n m p (inr (inr (inr (inl h)))) z = omega (arith, h.0)
met-number c n m p (inr (inr (inr (inr (inl h))))) z = omega (arith, h.0)
met-number c n m p (inr (inr (inr (inr (inr (inl h)))))) z = omega (arith, h.0)
met-number c n m p (inr (inr (inr (inr (inr (inr (inl h))))))) z = omega (arith, h.0)
met-number c n m p (inr (inr (inr (inr (inr (inr (inr h))))))) z = h

-- The number told is 0 exactly if the write is not refused.
pub told-zero : (c : Case) (n : ℕ) → ((told (write_answer n c)).number ≡ 0) ↔ (judged_write n c ≡ judged.Good)
unfolding told judged_in write_answer
told-zero c n = (to (write_answer n c) refl, from)
  where
    to : (w : Written) → write_answer n c ≡ w → (told w).number ≡ 0 → judged_write n c ≡ judged.Good
    to (Ok k) e z = sym (write-judged n c) ∙ ap judged_in e
    to (Err r) e z =
        absurd (met-number c n r.number r.place (((write-exactly c n).given r.number r.place).0 (ap judged_in e)).0 z)

    from : judged_write n c ≡ judged.Good → (told (write_answer n c)).number ≡ 0
    from e = ap (λ (j : Judged). (told (answer_of c j)).number) e

-- A refused write alters no byte, and tells nothing but number and place.
pub write-refused : (buffer : List ℕ) (c : Case) (r : Refusal) → write_answer (length buffer) c ≡ Refused r → LeftAlone buffer c r
unfolding written told judged_in
write-refused buffer c r e =
    record {
      same = ap (held_after buffer c) (sym (write-judged (length buffer) c) ∙ ap judged_in e);
      only = ap told e;
    }
