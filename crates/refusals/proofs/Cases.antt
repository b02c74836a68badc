-- A case is judged exactly by the scope's table; and what stands above its counts does not matter.
use mathlib.Core.Path.{◌≡◌, refl, sym, ap, ◌∙◌}
use mathlib.Core.Logic.{inl, inr}
use mathlib.Core.Bool.{Bool, true, false, not, ◌||◌}
use mathlib.Core.List.{[], ◌∷◌}
use Prim.Native.Nat.{ℕ, ◌<◌}
use borrow.Author.Tests.{ltb-false}
use lib.Dec.{ltb, eqb}
use Rattle.sets.specs.Sets.{past}
use Rattle.sets.specs.Stored.{width, number, no_people}
use Rattle.cases.specs.declared.Counts.{Counts}
use Rattle.cases.specs.declared.Case.{Case}
use Rattle.cases.specs.Case.{most_people, most_steps, most_roles, most_tables, most_rules, zero_step, zero_rule, entry, SameBelow}
use Rattle.cases.proofs.Counted.{entry-same, held_same, for-same}
use Rattle.refusals.specs.Refusals.{Good, Refused}
use Rattle.refusals.specs.Refusals.{refusal, judged_by, only_check, entry_check}
use Rattle.refusals.specs.Offsets.{rows_in, person_place, step_place, row_place, rule_place}
use Rattle.refusals.specs.CaseChecks.{too_many, Limited, bad_rule, step_entry, row_entry, rule_entry, bad_person, bad_roles, bad_order, bad_row, counts_check, entry_checks, case_checks, judged_case}
use Rattle.refusals.specs.Table.{Exactly, counts_row, entry_rows, case_table}
use Rattle.refusals.proofs.Order.{good-refused, good-checks}
use Rattle.refusals.proofs.Search.{entry-none}
use Rattle.refusals.proofs.Table.{Tells, Told, exactly, only-tells, entry-tells}
use Rattle.refusals.proofs.Conditions.{nor-false, past-names, too_many_lem, bad-step, bad-rule}

module _ (c : Case) where
  pub counts-tell : Tells (counts_check c) (counts_row c)
  unfolding counts_check
  counts-tell = only-tells 4 _ _ (too_many_lem c.counts)

  pub entries-tell : Told (entry_checks c) (entry_rows c)
  unfolding entry_checks bad_person bad_roles bad_row
  entries-tell = (
    entry-tells 7 _ _ _ _ (λ u l. past-names _ _ _),
    (
      entry-tells 8 _ _ _ _ (λ s l. past-names _ _ _),
      (
        entry-tells 9 _ _ _ _ (λ s l. bad-step c s),
        (
          entry-tells 10 _ _ _ _ (λ i l. past-names _ _ _),
          (
            entry-tells 11 _ _ _ _ (λ i l. bad-rule c.counts _),
            tt,
          ),
        ),
      ),
    ),
  )

  pub case-tells : Told (case_checks c) (case_table c)
  unfolding case_checks
  case-tells = (counts-tell, entries-tell)

  -- The number given is n exactly if n is met and no lower one is, and its place is the earliest entry's; the case is good exactly if none is met.
  pub case-exactly : Exactly (case_table c) (judged_case c)
  unfolding judged_case
  case-exactly = exactly (case_checks c) (case_table c) case-tells refl

-- ---- What stands above a count is not looked at

module _ (c d : Case) (s : SameBelow c d) where
  step_same : (x : ℕ) → step_entry c x ≡ step_entry d x
  unfolding step_entry
  step_same x =
      entry-same zero_step c.counts.steps c.steps d.steps s.steps x
      ∙ ap (λ (n : Counts). entry zero_step n.steps d.steps x) s.counts

  row_same : (i : ℕ) → row_entry c i ≡ row_entry d i
  unfolding row_entry
  row_same i =
      entry-same no_people (rows_in c.counts) c.rows d.rows s.rows i
      ∙ ap (λ (n : Counts). entry no_people (rows_in n) d.rows i) s.counts

  rule-same : (i : ℕ) → rule_entry c i ≡ rule_entry d i
  unfolding rule_entry
  rule-same i =
      entry-same zero_rule c.counts.rules c.rules d.rules s.rules i
      ∙ ap (λ (n : Counts). entry zero_rule n.rules d.rules i) s.counts

  pub same-entry-checks : entry_checks c ≡ entry_checks d
  unfolding entry_checks bad_person bad_roles bad_order bad_row
  same-entry-checks = λ i.
      let n = s.counts i in
      entry_check 7 person_place (λ u. past most_roles (held_same c d s u i) n.roles) n.people
      ∷ (entry_check 8 (step_place n) (λ x. past most_roles (for-same c d s x i) n.roles) n.steps
      ∷ (entry_check 9 (step_place n) (λ x. past most_steps (step_same x i).before x || not (eqb (step_same x i).spare 0)) n.steps
      ∷ (entry_check 10 (row_place n) (λ j. past width (number (row_same j i)) n.people) (rows_in n)
      ∷ (entry_check 11 (rule_place n) (λ j. bad_rule n (rule-same j i)) n.rules ∷ []))))

  pub same-checks : case_checks c ≡ case_checks d
  unfolding case_checks counts_check
  same-checks = λ i. only_check 4 (too_many (s.counts i)) ∷ same-entry-checks i

  -- cases that agree below their counts are judged alike
  pub same-refusal : judged_case c ≡ judged_case d
  unfolding judged_case
  same-refusal = ap judged_by same-checks

-- ---- A good case

pub limited : (n : Counts) → too_many n ≡ false → Limited n
unfolding too_many
limited n e =
    let a = nor-false (ltb most_people n.people) _ e in
    let b = nor-false (ltb most_steps n.steps) _ a.1 in
    let c = nor-false (ltb most_roles n.roles) _ b.1 in
    let d = nor-false (ltb most_tables n.tables) (ltb most_rules n.rules) c.1 in
    record {
      people = ltb-false _ _ a.0;
      steps = ltb-false _ _ b.0;
      roles = ltb-false _ _ c.0;
      tables = ltb-false _ _ d.0;
      rules = ltb-false _ _ d.1;
    }

-- where no count is above its limit, the entries decide
pub entries-decide : (c : Case) → too_many c.counts ≡ false → judged_case c ≡ judged_by (entry_checks c)
unfolding judged_case case_checks counts_check judged_by
entries-decide c e = ap (λ (b : Bool). judged_by (only_check 4 b ∷ entry_checks c)) e

-- where one is, that is the refusal
pub counts-decide : (c : Case) → too_many c.counts ≡ true → judged_case c ≡ Refused (refusal 4 0)
unfolding judged_case case_checks counts_check judged_by
counts-decide c e = ap (λ (b : Bool). judged_by (only_check 4 b ∷ entry_checks c)) e

-- a good case is within its limits
pub good-fits : (c : Case) → judged_case c ≡ Good → too_many c.counts ≡ false
good-fits c e = go (too_many c.counts) refl
  where
    go : (b : Bool) → too_many c.counts ≡ b → too_many c.counts ≡ false
    go false q = q
    go true q = absurd (good-refused e (counts-decide c q))

pub good-limited : (c : Case) → judged_case c ≡ Good → Limited c.counts
good-limited c e = limited c.counts (good-fits c e)

-- what a good case gives: no count is above its limit, and no entry fails
pub record GoodCase (c : Case) : Type 0 where
  pub limits : Limited c.counts
  pub people : (i : ℕ) → i < c.counts.people → bad_person c i ≡ false
  pub roles : (i : ℕ) → i < c.counts.steps → bad_roles c i ≡ false
  pub order : (i : ℕ) → i < c.counts.steps → bad_order c i ≡ false
  pub rows : (i : ℕ) → i < rows_in c.counts → bad_row c i ≡ false
  pub rules : (i : ℕ) → i < c.counts.rules → bad_rule c.counts (rule_entry c i) ≡ false

pub good-case : (c : Case) → judged_case c ≡ Good → GoodCase c
unfolding entry_checks
good-case c e =
    let each = good-checks (entry_checks c) (sym (entries-decide c (good-fits c e)) ∙ e) in
    record {
      limits = good-limited c e;
      people = entry-none 7 _ _ _ (each _ (inl refl));
      roles = entry-none 8 _ _ _ (each _ (inr (inl refl)));
      order = entry-none 9 _ _ _ (each _ (inr (inr (inl refl))));
      rows = entry-none 10 _ _ _ (each _ (inr (inr (inr (inl refl)))));
      rules = entry-none 11 _ _ _ (each _ (inr (inr (inr (inr (inl refl))))));
    }
