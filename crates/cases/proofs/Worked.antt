-- The scope's worked examples, as the rows of one table that is computed from the definitions: the fifteen entries of the campfire's table, with
-- shown sets and trials, and the three rule cases. Everything else that the scope works out is run and compared.
use mathlib.Core.Path.{◌≡◌, refl}
use mathlib.Core.Option.{Option, none, some}
use mathlib.Core.Bool.{Bool, true, false}
use mathlib.Core.List.{List, [], ◌∷◌, map}
use Prim.Native.Nat.{ℕ}
use lib.ListN.{replicate}
use Rattle.sets.specs.Lists.{from, upto, keep, all, any}
use Rattle.sets.specs.Sets.{has, count, set_from, size, members, within, meets, sets}
use Rattle.sets.specs.Stored.{number, stored, no_people}
use Rattle.games.specs.Walks.{plus, or_else, seek, try, if_none, mark, tally, too_few, present, tries, desk, plan, static, decremental, one_shot, dynamic}
use Rattle.games.specs.Limit.{Ended, limit, ended, cut}
use Rattle.cases.specs.declared.Case.{Case}
use Rattle.cases.specs.Case.{people, entry, roles_held, roles_for, row, rules, zero_step, zero_rule}
use Rattle.cases.specs.Rules.{related, steps_in, needed, filled, kept, rules_hold}
use Rattle.cases.specs.Plans.{may, holds}
use Rattle.cases.specs.Chain.{offers, place, plan_of, static_of, decremental_of, one_shot_of, dynamic_of}

-- ---- The two cases

-- Three people with roles {0}, {0,1}, {1}; step 0 for role 0; step 1 for role 1 and after step 0; one rule: form 1, "different person", s = 1, X = {0}.
abbrev pub campfire : Case
campfire =
    record {
      counts = record { people = 3; steps = 2; roles = 2; tables = 0; rules = 1 };
      people = 1 ∷ 3 ∷ 2 ∷ replicate 29 0;
      steps = record { roles = 1; before = 0; spare = 0 } ∷ record { roles = 2; before = 1; spare = 0 } ∷ replicate 6 zero_step;
      rows = replicate 192 no_people;
      rules = record { form = 1; relation = 1; step = record { 0 = 1 }; group = 1 } ∷ replicate 31 zero_rule;
    }

-- Three people, three steps and one table, {(0,1)}; one rule of a form: that table, s = 2, X = {0,1}.
abbrev pub one_table : ℕ → Case
one_table form =
    record {
      counts = record { people = 3; steps = 3; roles = 0; tables = 1; rules = 1 };
      people = replicate 32 0;
      steps = replicate 8 zero_step;
      rows = stored 2 ∷ replicate 191 no_people;
      rules = record { form = form; relation = 2; step = record { 0 = 2 }; group = 3 } ∷ replicate 31 zero_rule;
    }

-- ---- What is asked, and what is said

-- a question of the campfire at t, under a limit of 1000; or whether a position keeps the rule of a form
pub data Asked : Type 0 where
  plan? static? decremental? one_shot? dynamic? : ℕ → Asked
  keeps? : ℕ → List ℕ → Asked

-- a plan's persons or a shown set's, and the trials; "limit" and its count
pub data Said : Type 0 where
  planned showing : List ℕ → ℕ → Said
  wins unplanned stops : ℕ → Said
  keeps breaks : Said

pub say_plan : Ended (Option (List ℕ)) → ℕ → Said
say_plan limit n = stops n
say_plan (ended none) n = unplanned n
say_plan (ended (some q)) n = planned q n

pub say_verdict : Ended (Option ℕ) → ℕ → Said
say_verdict limit n = stops n
say_verdict (ended none) n = wins n
say_verdict (ended (some A)) n = showing (members (people campfire) A) n

pub say_rule : Bool → Said
say_rule true = keeps
say_rule false = breaks

pub answer : Asked → Said
unfolding
    from upto keep all any has count set_from size members within meets sets number
    plus or_else seek try if_none mark tally too_few present tries desk plan static decremental one_shot dynamic cut
    entry roles_held roles_for row rules related steps_in needed filled kept rules_hold may holds offers place
    say_plan say_verdict say_rule
answer (plan? t) = let a = cut 1000 (plan_of campfire) in say_plan a.out a.count
answer (static? t) = let a = cut 1000 (static_of campfire t) in say_verdict a.out a.count
answer (decremental? t) = let a = cut 1000 (decremental_of campfire t) in say_verdict a.out a.count
answer (one_shot? t) = let a = cut 1000 (one_shot_of campfire t) in say_verdict a.out a.count
answer (dynamic? t) = let a = cut 1000 (dynamic_of campfire t) in say_verdict a.out a.count
answer (keeps? form p) = say_rule (holds (one_table form) p)

-- ---- The table

pub record Entry : Type 0 where
  pub asked : Asked
  pub said : Said

infix 40 ◌▸◌
abbrev pub ◌▸◌ : Asked → Said → Entry
q ▸ a = record { asked = q; said = a }

pub entries : List Entry
entries =
    (plan? 0 ▸ planned (0 ∷ 1 ∷ []) 2) ∷ (static? 0 ▸ wins 2) ∷ (decremental? 0 ▸ wins 2) ∷ (one_shot? 0 ▸ wins 5) ∷ (dynamic? 0 ▸ wins 2)
    ∷ (plan? 1 ▸ planned (0 ∷ 1 ∷ []) 2) ∷ (static? 1 ▸ wins 9) ∷ (decremental? 1 ▸ wins 12) ∷ (one_shot? 1 ▸ wins 15) ∷ (dynamic? 1 ▸ showing (0 ∷ []) 6)
    ∷ (plan? 2 ▸ planned (0 ∷ 1 ∷ []) 2) ∷ (static? 2 ▸ showing (0 ∷ 1 ∷ []) 7) ∷ (decremental? 2 ▸ showing [] 15) ∷ (one_shot? 2 ▸ showing [] 18) ∷ (dynamic? 2 ▸ showing [] 6)
    ∷ (keeps? 3 (1 ∷ 1 ∷ 0 ∷ []) ▸ keeps)
    ∷ (keeps? 3 (1 ∷ 2 ∷ 0 ∷ []) ▸ breaks) ∷ (keeps? 2 (1 ∷ 2 ∷ 0 ∷ []) ▸ keeps)
    ∷ (keeps? 2 (0 ∷ 0 ∷ 1 ∷ []) ▸ breaks)
    ∷ []

-- every entry says what the definitions come to
pub worked : map (λ e. answer e.asked) entries ≡ map (λ e. e.said) entries
unfolding answer entries
worked = refl
