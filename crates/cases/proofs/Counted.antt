-- Nothing above a count matters: two cases with the same counts and the same entries below them have the same chain, and so the same walks.
use mathlib.Core.Path.{◌≡◌, refl, sym, ap, ap₂, ◌∙◌, fun_ext}
use mathlib.Core.Bool.{Bool, not, ◌||◌}
use mathlib.Core.List.{List, [], ◌∷◌, ◌++◌, map}
use Prim.Native.Nat.{ℕ, zero, suc, ◌+◌, ◌-◌, ◌*◌, ◌≤◌, ◌<◌}
use native.Mathlib.Decide.{dec_lt}
use native.Mathlib.Nat.{lt_of_lt_of_le, mul-le-mul}
use native.Mathlib.Omega.{arith}
use lib.Dec.{ltb}
use lib.ListN.{length, get_or}
use Rattle.sets.specs.Lists.{pick, only_if, cons_if, upto, all}
use Rattle.sets.specs.Sets.{has, meets}
use Rattle.sets.specs.Stored.{number, no_people}
use Rattle.sets.proofs.Lists.{upto-in, all-cong}
use Rattle.games.specs.Walks as walks
use Rattle.cases.specs.declared.Counts.{Counts}
use Rattle.cases.specs.declared.Rule.{Rule}
use Rattle.cases.specs.declared.Case.{Case}
use Rattle.cases.specs.Case.{most_people, most_steps, most_tables, most_rules, zero_step, zero_rule, entry, people, steps, tables, roles_held, roles_for, row, rules, zeroed, SameBelow}
use Rattle.cases.specs.Rules.{related, steps_in, filled, kept, rules_hold}
use Rattle.cases.specs.Plans.{may, holds}
use Rattle.cases.specs.Chain.{offers, place, chain, person_of, plan_of, static_of, decremental_of, one_shot_of, dynamic_of, advice_at, away_at}
use Rattle.cases.proofs.Positions.{map-cong, upto-at}
use Rattle.cases.proofs.Rules.{needed-cong}
use Rattle.cases.proofs.Rounds.{entry_at, entry_past}

-- what is read of two lists that agree below the count
pub entry-same : {A : Type 0} (z : A) (n : ℕ) (l m : List A) → ((i : ℕ) → i < n → get_or l i z ≡ get_or m i z) → (i : ℕ) → entry z n l i ≡ entry z n m i
entry-same z n l m h i = go (dec_lt i n)
  where
    go : Dec (i < n) → entry z n l i ≡ entry z n m i
    go (yes k) = entry_at z n l i k ∙ h i k ∙ sym (entry_at z n m i k)
    go (no k) = entry_past z n l i (omega arith) ∙ sym (entry_past z n m i (omega arith))

module _ (c d : Case) (s : SameBelow c d) where
  abbrev same : c.counts ≡ d.counts
  same = s.counts

  pub held_same : (u : ℕ) → roles_held c u ≡ roles_held d u
  unfolding roles_held
  held_same u = entry-same 0 (people c) c.people d.people s.people u ∙ ap (λ (n : Counts). entry 0 n.people d.people u) same

  pub for-same : (x : ℕ) → roles_for c x ≡ roles_for d x
  unfolding roles_for
  for-same x =
      ap (λ e. e.roles) (entry-same zero_step (steps c) c.steps d.steps s.steps x ∙ ap (λ (n : Counts). entry zero_step n.steps d.steps x) same)

  row_same : (k u : ℕ) → row c k u ≡ row d k u
  unfolding row
  row_same k u =
      ap (λ e. pick (ltb u (people c)) (number e) 0) (entry-same no_people (tables c * people c) c.rows d.rows s.rows (k * people c + u))
      ∙ ap (λ (n : Counts). pick (ltb u n.people) (number (entry no_people (n.tables * n.people) d.rows (k * n.people + u))) 0) same

  rules-same : rules c ≡ rules d
  unfolding rules
  rules-same =
      map-cong (λ i. get_or c.rules i zero_rule) (λ i. get_or d.rules i zero_rule) (upto c.counts.rules) (λ i m. s.rules i (upto-in c.counts.rules i m))
      ∙ ap (λ (n : Counts). map (λ i. get_or d.rules i zero_rule) (upto n.rules)) same

  pub may-same : (u x : ℕ) → may c u x ≡ may d u x
  unfolding may
  may-same u x = ap₂ (meets 16) (held_same u) (for-same x)

  related_same : (k u v : ℕ) → related c k u v ≡ related d k u v
  unfolding related
  related_same zero u v = refl
  related_same (suc zero) u v = refl
  related_same (suc (suc k)) u v = ap (λ (x : ℕ). has x v) (row_same k u)

  kept_same : (r : Rule) (who : ℕ → ℕ) → kept c r who ≡ kept d r who
  unfolding kept
  kept_same r who = needed-cong r.form _ _ (steps_in r.group) (λ x m. related_same r.relation _ _)

  hold-same : (f : ℕ → Bool) (who : ℕ → ℕ) → rules_hold c f who ≡ rules_hold d f who
  unfolding rules_hold
  hold-same f who =
      all-cong (λ r. not (filled r f) || kept c r who) (λ r. not (filled r f) || kept d r who) (rules c) (λ r m. ap (λ (b : Bool). not (filled r f) || b) (kept_same r who))
      ∙ ap (all (λ r. not (filled r f) || kept d r who)) rules-same

  pub holds_same : (p : List ℕ) → holds c p ≡ holds d p
  unfolding holds
  holds_same p = hold-same (λ i. ltb i (length p)) (λ i. get_or p i 0)

  pub chain_same : chain c ≡ chain d
  unfolding offers place
  chain_same = λ i.
      record {
        Pos = List ℕ;
        Move = ℕ;
        people = (same i).people;
        moves = fun_ext (λ p. fun_ext (λ u. ap (λ (b : Bool). cons_if b u []) (may-same u (length p)))) i;
        after = fun_ext (λ p. fun_ext (λ u. ap (λ (b : Bool). only_if b (p ++ (u ∷ []))) (holds_same (p ++ (u ∷ []))))) i;
      }

-- The walks of every question, and those of play at every position, are the same.
pub record SameWalks (c d : Case) : Type 0 where
  pub plan : plan_of c ≡ plan_of d
  pub static : (t : ℕ) → static_of c t ≡ static_of d t
  pub decremental : (t : ℕ) → decremental_of c t ≡ decremental_of d t
  pub one_shot : (t : ℕ) → one_shot_of c t ≡ one_shot_of d t
  pub dynamic : (t : ℕ) → dynamic_of c t ≡ dynamic_of d t
  pub advice : (t A : ℕ) (p : List ℕ) → advice_at c t A p ≡ advice_at d t A p
  pub away : (t : ℕ) (p : List ℕ) → away_at c t p ≡ away_at d t p

pub nothing-above-counts : (c d : Case) → SameBelow c d → SameWalks c d
unfolding chain_same
nothing-above-counts c d s =
    record {
      plan = λ i. walks.plan (chain_same c d s i) 0 (s.counts i).steps [];
      static = λ t i. walks.static (chain_same c d s i) t (s.counts i).steps [];
      decremental = λ t i. walks.decremental (chain_same c d s i) t (s.counts i).steps 0 [];
      one_shot = λ t i. walks.one_shot (chain_same c d s i) t (s.counts i).steps [];
      dynamic = λ t i. walks.dynamic (chain_same c d s i) t (s.counts i).steps [];
      advice = λ t A p i. record {
        got = person_of (walks.advice (chain_same c d s i) t ((s.counts i).steps - length p) A p).got;
        trials = (walks.advice (chain_same c d s i) t ((s.counts i).steps - length p) A p).trials;
      };
      away = λ t p i. walks.away (chain_same c d s i) t ((s.counts i).steps - length p) p;
    }

-- no count is above its limit
pub record Within (n : Counts) : Type 0 where
  pub people : n.people ≤ most_people
  pub steps : n.steps ≤ most_steps
  pub tables : n.tables ≤ most_tables
  pub rules : n.rules ≤ most_rules

-- a case within its limits agrees, below its counts, with itself with zero above them
pub zeroed-same : (c : Case) → Within c.counts → SameBelow (zeroed c) c
unfolding zeroed
zeroed-same c w =
    record {
      counts = refl;
      people = λ i h. read 0 (people c) most_people c.people w.people i h;
      steps = λ i h. read zero_step (steps c) most_steps c.steps w.steps i h;
      rows = λ i h. read no_people (tables c * people c) (most_tables * most_people) c.rows (mul-le-mul w.tables w.people) i h;
      rules = λ i h. read zero_rule c.counts.rules most_rules c.rules w.rules i h;
    }
  where
    read : {A : Type 0} (z : A) (n most : ℕ) (l : List A) → n ≤ most → (i : ℕ) → i < n → get_or (map (entry z n l) (upto most)) i z ≡ get_or l i z
    read z n most l w i h = upto-at (entry z n l) most i z (lt_of_lt_of_le h w) ∙ entry_at z n l i h
