use Rattle.std.proofs.Common.{rules, sym, ap, ◌∙◌, ◌≤◌, ◌<◌, ℕ}
use Rattle.std.specs.Prelude.{Option, MatchOption, ⊤}
use Rattle.sets.specs.Lists.{value_or}
use Rattle.sets.specs.Stored.{width, lowest_number}
use Rattle.lines.specs.Moves.{line_at}
use Rattle.lines.proofs.Finding.{fit-better, fit-same, fit-none}
use Rattle.lines.proofs.next_fit.Goals as goal
use Rattle.lines.proofs.next_fit.Goals.{in-Some+then-is_none_or, in-Some+else-is_none_or, in_default}

pub loop-i-preserved : goal.loop-i-preserved
unfolding line_at
loop-i-preserved c =
    elim c.match-first_in.branch [
      | in-Some+then-is_none_or w ↦
          let here : MatchOption c.loop-i.found ⊤ (λ m. w.in-Some.v < m.person) = search rules in
          rw w.found-is (fit-better _ _ _ _ w.in-Some.ensures.first _ c.loop-i.invariant w.in-Some.ensures.known here)
      | in-Some+else-is_none_or w ↦
          let before : MatchOption c.loop-i.found (width ≤ w.in-Some.v) (λ m. m.person ≤ w.in-Some.v) = search rules in
          rw w.found-is (fit-same _ _ _ _ w.in-Some.ensures.first _ c.loop-i.invariant before)
      | in_default w ↦
          let nobody = ap (λ (o : Option ℕ). value_or width (lowest_number o)) (sym w.in_default.is) ∙ c.first_in.ensures.first in
          rw w.found-is (fit-none _ _ _ _ c.loop-i.invariant nobody)
    ]
