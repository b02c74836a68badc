-- The board laid out for a good case: 13 on it is 13 of the case.
use mathlib.Core.Path.{◌≡◌, sym, subst, ◌∙◌}
use mathlib.Core.Bool.{false, true≢false}
use mathlib.Core.List.{List}
use Prim.Native.Nat.{ℕ, ◌+◌, ◌≤◌, ◌<◌}
use native.Mathlib.Decide.{dec_lt}
use native.Mathlib.Omega.{arith}
use Rattle.cases.specs.declared.Counts.{Counts}
use Rattle.cases.specs.declared.Rule.{Rule}
use Rattle.cases.specs.declared.Case.{Case}
use Rattle.cases.specs.Case.{people, steps, zero_rule}
use Rattle.cases.proofs.Rounds.{entry_at}
use Rattle.refusals.specs.Refusals.{Good}
use Rattle.refusals.specs.CaseChecks.{bad_rule, rule_entry, judged_case}
use Rattle.refusals.specs.Table.{BadRule, bad_form, bad_relation, bad_first}
use Rattle.refusals.proofs.Conditions.{bad-rule}
use Rattle.refusals.proofs.Cases.{good-case}
use Rattle.pieces.specs.declared.Order.TheVariants as order
use Rattle.laying.specs.Laid.{laid_out}
use Rattle.laying.specs.Ready.{Ready, ReadyRule}
use Rattle.meaning.proofs.Means.{allowed-means}
use Rattle.meaning.proofs.OnBoard.{fits_next}
use Rattle.asking.specs.Asking.{position_check}
use Rattle.asking.specs.OnBoard.{position_check_on}
use Rattle.asking.proofs.OnCase.{Means, position-means}

-- what is not met
not-bad : (n : Counts) (r : Rule) → bad_rule n r ≡ false → BadRule n r → ⊥
not-bad n r e k = true≢false (sym ((bad-rule n r).1 k) ∙ e)

ready-rule : (c : Case) (r : Rule) → bad_rule c.counts r ≡ false → ReadyRule c r
ready-rule c r e =
    record {
      form = form (dec_lt 3 r.form);
      relation = relation (dec_lt r.relation (c.counts.tables + 2));
      step = step (dec_lt r.step.0 (steps c));
    }
  where
    form : Dec (3 < r.form) → r.form ≤ 3
    form (yes h) = absurd (not-bad c.counts r e (bad_form (λ q. omega arith) (λ q. omega arith) (λ q. omega arith)))
    form (no h) = omega arith

    relation : Dec (r.relation < c.counts.tables + 2) → r.relation < c.counts.tables + 2
    relation (yes h) = h
    relation (no h) = absurd (not-bad c.counts r e (bad_relation (omega arith)))

    step : Dec (r.step.0 < steps c) → r.step.0 < steps c
    step (yes h) = h
    step (no h) = absurd (not-bad c.counts r e (bad_first (omega arith)))

-- a good case can be laid out
pub good-ready : (c : Case) → judged_case c ≡ Good → Ready c
unfolding rule_entry
good-ready c e =
    let g = good-case c e in
    record {
      counts = record { people = g.limits.people; steps = g.limits.steps; tables = g.limits.tables; rules = g.limits.rules };
      each = λ i l. subst (ReadyRule c) (entry_at zero_rule c.counts.rules c.rules i l) (ready-rule c (rule_entry c i) (g.rules i l));
    }

laid-means : (c : Case) → Ready c → Means c (laid_out c order.Listed)
laid-means c r =
    record {
      allows = λ u s k l. allowed-means c order.Listed r s u (omega (arith, r.counts.steps));
      fits = λ p u k l v. fits_next c r p v u l k;
    }

-- a position judged on the board of a case that is ready is judged as the case says
pub position-laid : (c : Case) (p : List ℕ) → Ready c → position_check_on (laid_out c order.Listed) (people c) (steps c) p ≡ position_check c p
position-laid c p r = position-means c (laid_out c order.Listed) p (laid-means c r)
