-- Demand 1: every position, absence set and number gets a result, or one numbered refusal chosen by a fixed order; a refused call carries no result.
-- (For files and for the writer this is said in `files` and `trips`.)
use mathlib.Core.Path.{◌≡◌, refl, sym, ap, ap₂, ◌∙◌, subst}
use mathlib.Core.Logic.{◌↔◌}
use mathlib.Core.Option.{some, some-ne-none}
use mathlib.Core.Bool.{not, ◌||◌}
use mathlib.Core.List.{List, [], ◌∷◌, ◌++◌}
use Prim.Native.Nat.{ℕ, suc, ◌*◌, ◌<◌}
use native.Mathlib.Omega.{arith}
use lib.Dec.{ltb}
use lib.ListN.{length, get_or, take, drop}
use Rattle.sets.specs.Lists.{pick}
use Rattle.games.specs.Limit.{Answer, cut}
use Rattle.cases.specs.declared.Case.{Case}
use Rattle.cases.specs.declared.Counts.{Counts}
use Rattle.cases.specs.Case.{SameBelow}
use Rattle.cases.specs.Chain.{plan_of, advice_at, away_at}
use Rattle.cases.proofs.Counted.{SameWalks, nothing-above-counts, may-same, holds_same}
use Rattle.refusals.specs.Refusals.{Judged, Refused, Check, refusal, entry_check, judged_by, or_else}
use Rattle.refusals.specs.CaseChecks.{judged_case}
use Rattle.refusals.specs.Table.{Row, Meets, Exactly, case_table}
use Rattle.refusals.proofs.Order.{good-refused}
use Rattle.refusals.proofs.Cases.{case-exactly, same-checks, same-refusal}
use Rattle.refusals.specs.Offsets.{total_of}
use Rattle.words.specs.Word.{le2}
use Rattle.words.specs.Part.{run}
use Rattle.words.proofs.Parts.{run-cong}
use Rattle.layout.specs.Layout.{head_bytes, bytes_of_step, bytes_of_row, bytes_of_rule, file_of}
use Rattle.writing.specs.Writing.{Bytes, room_check, write_checks, judged_write, answer_of, write_answer, held_after, written}
use Rattle.files.specs.Checks.{judged_file}
use Rattle.files.specs.FileTable.{file_table}
use Rattle.files.proofs.Exactly.{file-exactly}
use Rattle.asking.specs.Asking.{number_check, bad_entry, position_check, absence_check, judged_question, judged_advice, judged_away}
use Rattle.asking.specs.Table.{question_table, away_table, advice_table}
use Rattle.asking.proofs.Exact.{question-exactly, away-exactly, advice-exactly}
use Rattle.asking.proofs.Calls.{question-order, away-order, advice-order}
use Rattle.planner.specs.declared.Question.{Question}
use Rattle.planner.specs.declared.Question.TheVariants.{Static, Decremental, OneShot, Dynamic}
use Rattle.std.specs.Prelude.{Ok, Err}
use Rattle.planner.specs.Answers.{plan_answer, verdict_answer, advice_answer, away_answer, given}
use Rattle.planner.specs.Calls.{plan_call, walk_of, question_call, advice_call, away_call}
use Rattle.planner.specs.Told.{Told, refused, plan_told, verdict_told, advice_told, away_told}
use Rattle.promises.specs.Ends.{number_in, place_in, RefusedAt, ByTable}
use Rattle.promises.proofs.Telling.{told, told-answered, good-told, plan-told, question-told, advice-told, away-told}

-- ---- what is told goes by the table that the judgement goes by

module _ {B : Type 0} where
  refused-told : (j : Judged) (a : Answer B) (n place : ℕ) → RefusedAt (told j a) n place ↔ (j ≡ Refused (refusal n place))
  refused-told (Ok nothing) a n place = (λ r. absurd (some-ne-none a r.nothing), λ e. absurd (good-refused refl e))
  refused-told (Err r) a n place = (
    λ x. ap₂ (λ m p. Refused (refusal m p)) x.numbered x.placed,
    λ e. let k : told (Refused r) a ≡ refused (refusal n place) = ap (λ j. told j a) e in
        record { numbered = ap (λ (d : Told B). d.number) k; placed = ap (λ (d : Told B). d.place) k; nothing = refl },
  )

  by-table : (table : List Row) (j : Judged) (a : Answer B) → Exactly table j → ByTable table (told j a)
  by-table table j a x =
      record {
        given = λ n place.
            (λ r. (x.given n place).0 ((refused-told j a n place).0 r), λ m. (refused-told j a n place).1 ((x.given n place).1 m));
        good = (λ d. x.good.0 (told-answered j a d.0 d.1).0, λ m. (a, good-told j a (x.good.1 m)));
      }

-- ---- Judging a file, and a case in memory: number and place told exactly by the table

judged-by-table : (table : List Row) (j : Judged) → Exactly table j → (n place : ℕ) → 0 < n
    → ((number_in j ≡ n) × (place_in j ≡ place)) ↔ (Meets table n place × ((m p : ℕ) → m < n → Meets table m p → ⊥))
judged-by-table table j x n place h = (λ k. (x.given n place).0 (there j k), λ m. back j ((x.given n place).1 m))
  where
    there : (j : Judged) → (number_in j ≡ n) × (place_in j ≡ place) → j ≡ Refused (refusal n place)
    there (Ok nothing) k = absurd (omega (arith, k.0))
    there (Err r) k = ap₂ (λ m p. Refused (refusal m p)) k.0 k.1

    back : (j : Judged) → j ≡ Refused (refusal n place) → (number_in j ≡ n) × (place_in j ≡ place)
    back j e = (ap number_in e, ap place_in e)

pub file-by-table : (f : List ℕ) (n place : ℕ) → 0 < n
    → ((number_in (judged_file f) ≡ n) × (place_in (judged_file f) ≡ place)) ↔ (Meets (file_table f) n place × ((m p : ℕ) → m < n → Meets (file_table f) m p → ⊥))
file-by-table f n place h = judged-by-table (file_table f) (judged_file f) (file-exactly f) n place h

pub case-by-table : (c : Case) (n place : ℕ) → 0 < n
    → ((number_in (judged_case c) ≡ n) × (place_in (judged_case c) ≡ place)) ↔ (Meets (case_table c) n place × ((m p : ℕ) → m < n → Meets (case_table c) m p → ⊥))
case-by-table c n place h = judged-by-table (case_table c) (judged_case c) (case-exactly c) n place h

-- ---- The calls

-- Plan: 4, then 7 to 11.
pub plan-by-table : (c : Case) (l : ℕ) → ByTable (case_table c) (plan_told (plan_call c l))
plan-by-table c l = subst (ByTable (case_table c)) (sym (plan-told c l)) (by-table (case_table c) (judged_case c) (cut l (plan_of c)) (case-exactly c))

-- Static, decremental, one-shot and dynamic: 4, 7 to 11, then 12.
pub question-by-table : (q : Question) (c : Case) (t l : ℕ) → ByTable (question_table c t) (verdict_told (question_call q c t l))
question-by-table q c t l =
    subst (ByTable (question_table c t)) (sym (question-told q c t l)) (by-table (question_table c t) (judged_question c t) (cut l (walk_of q c t)) (question-exactly c t))

-- Advice: 4, 7 to 11, then 12, 13 and 14.
pub advice-by-table : (c : Case) (p : List ℕ) (t A l : ℕ) → ByTable (advice_table c p t A) (advice_told (advice_call c p t A l))
advice-by-table c p t A l =
    subst (ByTable (advice_table c p t A)) (sym (advice-told c p t A l)) (by-table (advice_table c p t A) (judged_advice c p t A) (cut l (advice_at c t A p)) (advice-exactly c p t A))

-- Away: 4, 7 to 11, then 12 and 13.
pub away-by-table : (c : Case) (p : List ℕ) (t l : ℕ) → ByTable (away_table c p t) (away_told (away_call c p t l))
away-by-table c p t l =
    subst (ByTable (away_table c p t)) (sym (away-told c p t l)) (by-table (away_table c p t) (judged_away c p t) (cut l (away_at c t p)) (away-exactly c p t))

-- ---- What stands above the counts never changes an answer

module _ (c d : Case) (same : SameBelow c d) where
  walks_same : SameWalks c d
  walks_same = nothing-above-counts c d same

  question-judged-same : (t : ℕ) → judged_question c t ≡ judged_question d t
  question-judged-same t = question-order c t ∙ ap (λ j. or_else j (judged_by (number_check t ∷ []))) (same-refusal c d same) ∙ sym (question-order d t)

  position-same : (p : List ℕ) → position_check c p ≡ position_check d p
  unfolding position_check bad_entry
  position-same p = λ i.
      pick (ltb (length p) (same.counts i).steps)
      (entry_check 13 (λ j. j) (λ j. not (ltb (get_or p j 0) (same.counts i).people) || (not (may-same c d same (get_or p j 0) j i) || not (holds_same c d same (take (suc j) p) i))) (length p))
      (some (refusal 13 (same.counts i).steps))

  away-judged-same : (p : List ℕ) (t : ℕ) → judged_away c p t ≡ judged_away d p t
  away-judged-same p t =
      away-order c p t ∙ ap₂ (λ j x. or_else j (judged_by (x ∷ []))) (question-judged-same t) (position-same p) ∙ sym (away-order d p t)

  advice-judged-same : (p : List ℕ) (t A : ℕ) → judged_advice c p t A ≡ judged_advice d p t A
  advice-judged-same p t A =
      advice-order c p t A
      ∙ ap₂ (λ j n. or_else j (judged_by (absence_check n t A ∷ []))) (away-judged-same p t) (ap (λ (n : Counts). n.people) same.counts)
      ∙ sym (advice-order d p t A)

  pub plan-above : (l : ℕ) → plan_call c l ≡ plan_call d l
  unfolding plan_call
  plan-above l = ap₂ (λ j w. given j (plan_answer (cut l w))) (same-refusal c d same) walks_same.plan

  pub question-above : (q : Question) (t l : ℕ) → question_call q c t l ≡ question_call q d t l
  unfolding question_call
  question-above q t l = ap₂ (λ j w. given j (verdict_answer (cut l w))) (question-judged-same t) (walk_same q)
    where
      walk_same : (q : Question) → walk_of q c t ≡ walk_of q d t
      walk_same Static = walks_same.static t
      walk_same Decremental = walks_same.decremental t
      walk_same OneShot = walks_same.one_shot t
      walk_same Dynamic = walks_same.dynamic t

  pub advice-above : (p : List ℕ) (t A l : ℕ) → advice_call c p t A l ≡ advice_call d p t A l
  unfolding advice_call
  advice-above p t A l = ap₂ (λ j w. given j (advice_answer (cut l w))) (advice-judged-same p t A) (walks_same.advice t A p)

  pub away-above : (p : List ℕ) (t l : ℕ) → away_call c p t l ≡ away_call d p t l
  unfolding away_call
  away-above p t l = ap₂ (λ j w. given j (away_answer (cut l w))) (away-judged-same p t) (walks_same.away t p)

  -- the writer ignores it: the same answer, and the same bytes left
  write-judged-same : (n : ℕ) → judged_write n c ≡ judged_write n d
  unfolding judged_write write_checks
  write-judged-same n = ap₂ (λ (x : List Check) (m : Counts). judged_by (x ++ (room_check m n ∷ []))) (same-checks c d same) same.counts

  runs_same : (e g : ℕ → List ℕ) (m n : ℕ) → m ≡ n → ((i : ℕ) → i < m → e i ≡ g i) → run e m ≡ run g n
  runs_same e g m n q h = run-cong e g m h ∙ ap (run g) q

  file-same : file_of c ≡ file_of d
  unfolding file_of
  file-same =
      ap₂ ◌++◌
      (ap₂ ◌++◌
      (ap₂ ◌++◌
      (ap₂ ◌++◌ (ap head_bytes same.counts) (runs_same _ _ _ _ (ap (λ (n : Counts). n.people) same.counts) (λ i l. ap le2 (same.people i l))))
      (runs_same _ _ _ _ (ap (λ (n : Counts). n.steps) same.counts) (λ i l. ap bytes_of_step (same.steps i l))))
      (runs_same _ _ _ _ (ap (λ (n : Counts). n.tables * n.people) same.counts) (λ i l. ap bytes_of_row (same.rows i l))))
      (runs_same _ _ _ _ (ap (λ (n : Counts). n.rules) same.counts) (λ i l. ap bytes_of_rule (same.rules i l)))

  pub write-above : (buffer : List ℕ) → (write_answer (length buffer) c ≡ write_answer (length buffer) d) × (written buffer c ≡ written buffer d)
  unfolding write_answer written
  write-above buffer =
      (answers (judged_write (length buffer) c) ∙ ap (answer_of d) judged-same, holds (judged_write (length buffer) c) ∙ ap (held_after buffer d) judged-same)
    where
      judged-same : judged_write (length buffer) c ≡ judged_write (length buffer) d
      judged-same = write-judged-same (length buffer)

      answers : (j : Judged) → answer_of c j ≡ answer_of d j
      answers (Ok nothing) = ap (λ (n : Counts). Bytes (total_of n)) same.counts
      answers (Err r) = refl

      holds : (j : Judged) → held_after buffer c j ≡ held_after buffer d j
      holds (Ok nothing) = ap₂ (λ (f : List ℕ) (n : Counts). f ++ drop (total_of n) buffer) file-same same.counts
      holds (Err r) = refl
