-- Positions that agree at the steps looked at: the same steps are ready, the same rules are due, and the tests that asked for these steps alone end the same.
use mathlib.Core.Path.{◌≡◌, refl, sym, ap, ap₂, ◌∙◌}
use mathlib.Core.Bool.{Bool, true, false, ◌||◌, true≢false}
use mathlib.Core.List.{List}
use Prim.Native.Nat.{ℕ, ◌≤◌, ◌<◌}
use native.Mathlib.Decide.{dec_lt, ℕ_discrete}
use native.Mathlib.Omega.{arith}
use borrow.Author.Tests.{eq-eqb, lt-ltb, le-ltb}
use lib.Dec.{eqb, ltb}
use lib.ListN.{length, length-set, get_or, set, get_or-eq_default}
use lib.Seq.{get_or-set_same, get_or-set_other, ext_get_or}
use Rattle.sets.specs.Lists.{pick}
use Rattle.sets.specs.Sets.{has, set_of, members, joined, with}
use Rattle.sets.specs.Stored.{width, set_at}
use Rattle.sets.proofs.Lists.{true-or}
use Rattle.sets.proofs.Counting.{has-set_of}
use Rattle.sets.proofs.Members.{members-in}
use Rattle.cases.specs.declared.Filled.{Filled}
use Rattle.cases.specs.declared.Person.{Person}
use Rattle.cases.specs.declared.Rule.{Rule}
use Rattle.cases.specs.Case.{most_steps}
use Rattle.cases.specs.Positions.{zero_person}
use Rattle.cases.specs.Rules.{steps_in}
use Rattle.cases.specs.Filled.{who_in}
use Rattle.cases.proofs.Rules.{needed-cong}
use Rattle.boards.specs.Board.{row_place, column_place, loops_place, ready_on, full_on, due_on, pair_on, kept_on}
use Rattle.boards.specs.Arena.{put_on}
use Rattle.boards.specs.Looked.{Agree}

pub agree_same : (L : ℕ) (p : Filled) → Agree L p p
agree_same L p = record { steps = refl; room = refl; who = λ x l. refl }

-- ---- fewer steps looked at

module _ {L M : ℕ} {p q : Filled} where
  pub agree-within : ((x : ℕ) → x < most_steps → has L x ≡ true → has M x ≡ true) → Agree M p q → Agree L p q
  agree-within i a = record { steps = a.steps; room = a.room; who = λ x l. a.who x (λ k. i x k (l k)) }

module _ {K : ℕ} {p q : Filled} (L M : ℕ) (e : K ≡ joined most_steps L M) (a : Agree K p q) where
  in_either : (x : ℕ) → x < most_steps → has L x || has M x ≡ true → has K x ≡ true
  in_either x k h = ap (λ (z : ℕ). has z x) e ∙ has-set_of (λ w. has L w || has M w) most_steps x k ∙ h

  pub agree_left : Agree L p q
  agree_left = agree-within (λ x k l. in_either x k (ap (λ (b : Bool). b || has M x) l)) a

  pub agree_right : Agree M p q
  agree_right = agree-within (λ x k l. in_either x k (true-or (has L x) (has M x) l)) a

-- ---- a step more is filled

module _ (p : Filled) (u s : ℕ) where
  pub put-steps : (put_on p u s).steps ≡ pick (ltb s most_steps) (with most_steps p.steps s) p.steps
  unfolding put_on
  put-steps = go (ltb s most_steps)
    where
      go : (c : Bool) → (pick c (record { who = set p.who s (record { 0 = u }); steps = with most_steps p.steps s }) p).steps ≡ pick c (with most_steps p.steps s) p.steps
      go true = refl
      go false = refl

  put-room : length (put_on p u s).who ≡ length p.who
  unfolding put_on
  put-room = go (ltb s most_steps)
    where
      go : (c : Bool) → length (pick c (record { who = set p.who s (record { 0 = u }); steps = with most_steps p.steps s }) p).who ≡ length p.who
      go true = length-set p.who s (record { 0 = u })
      go false = refl

  -- the other steps' people stay
  put_other : (x : ℕ) → (x ≡ s → ⊥) → who_in (put_on p u s) x ≡ who_in p x
  unfolding put_on who_in
  put_other x d = go (ltb s most_steps)
    where
      go : (c : Bool) → (get_or (pick c (record { who = set p.who s (record { 0 = u }); steps = with most_steps p.steps s }) p).who x zero_person).0 ≡ (get_or p.who x zero_person).0
      go true = ap (λ v. v.0) (get_or-set_other p.who s x (record { 0 = u }) zero_person d)
      go false = refl

  -- whom the step has, where there is such a step: by how many people there is room for
  put-here : s < most_steps → who_in (put_on p u s) s ≡ pick (ltb s (length p.who)) u 0
  unfolding put_on who_in
  put-here l = ap (λ (c : Bool). (get_or (pick c (record { who = set p.who s (record { 0 = u }); steps = with most_steps p.steps s }) p).who s zero_person).0) (lt-ltb s most_steps l) ∙ go (dec_lt s (length p.who))
    where
      go : Dec (s < length p.who) → (get_or (set p.who s (record { 0 = u })) s zero_person).0 ≡ pick (ltb s (length p.who)) u 0
      go (yes k) = ap (λ v. v.0) (get_or-set_same p.who s (record { 0 = u }) zero_person k) ∙ sym (ap (λ (c : Bool). pick c u 0) (lt-ltb s (length p.who) k))
      go (no k) =
          let long : length (set p.who s (record { 0 = u })) ≤ s = omega (arith, length-set p.who s (record { 0 = u })) in
          ap (λ v. v.0) (get_or-eq_default (set p.who s (record { 0 = u })) zero_person long)
          ∙ sym (ap (λ (c : Bool). pick c u 0) (le-ltb s (length p.who) (omega arith)))

  put-nowhere : most_steps ≤ s → put_on p u s ≡ p
  unfolding put_on
  put-nowhere l = ap (λ (c : Bool). pick c (record { who = set p.who s (record { 0 = u }); steps = with most_steps p.steps s }) p) (le-ltb s most_steps l)

module _ {L : ℕ} {p q : Filled} (a : Agree L p q) (s : ℕ) where
  put-agree : (u v : ℕ) → (s < most_steps → has L s ≡ true → who_in (put_on q v s) s ≡ who_in (put_on p u s) s) → Agree L (put_on p u s) (put_on q v s)
  put-agree u v here =
      record {
        steps = put-steps q v s ∙ ap (λ (f : ℕ). pick (ltb s most_steps) (with most_steps f s) f) a.steps ∙ sym (put-steps p u s);
        room = put-room q v s ∙ a.room ∙ sym (put-room p u s);
        who = λ x l. go x l (ℕ_discrete x s) (dec_lt s most_steps);
      }
    where
      go : (x : ℕ) → (x < most_steps → has L x ≡ true) → Dec (x ≡ s) → Dec (s < most_steps) → who_in (put_on q v s) x ≡ who_in (put_on p u s) x
      go x l (no d) r = put_other q v s x d ∙ a.who x l ∙ sym (put_other p u s x d)
      go x l (yes e) (yes k) = ap (who_in (put_on q v s)) e ∙ here k (ap (has L) (sym e) ∙ l (omega (arith, e))) ∙ ap (who_in (put_on p u s)) (sym e)
      go x l (yes e) (no k) =
          ap (λ f. who_in f x) (put-nowhere q v s (omega arith)) ∙ a.who x l ∙ ap (λ f. who_in f x) (sym (put-nowhere p u s (omega arith)))

  -- by the same person
  pub agree-put : (u : ℕ) → Agree L (put_on p u s) (put_on q u s)
  agree-put u = put-agree u u (λ k l. put-here q u s k ∙ ap (λ (n : ℕ). pick (ltb s n) u 0) a.room ∙ sym (put-here p u s k))

  -- by another, where the step was not looked at
  pub agree-other : has L s ≡ false → (u v : ℕ) → Agree L (put_on p u s) (put_on q v s)
  agree-other o u v = put-agree u v (λ k l. absurd (true≢false (sym l ∙ o)))

-- ---- all steps looked at

-- as many as there are
pub agree-all : (L : ℕ) (p q : Filled) → ((x : ℕ) → x < most_steps → has L x ≡ true) → Agree L p q → q ≡ p
agree-all L p q every a = ap₂ (λ l n. record { who = l; steps = n }) (ext_get_or zero_person q.who p.who a.room (λ x k. person (get_or q.who x zero_person) (get_or p.who x zero_person) (told x))) a.steps
  where
    told : (x : ℕ) → (get_or q.who x zero_person).0 ≡ (get_or p.who x zero_person).0
    told x = unfold who_in in a.who x (every x)

    person : (u v : Person) → u.0 ≡ v.0 → u ≡ v
    person u v e = ap (λ (n : ℕ). record { 0 = n }) e

-- ---- what is read off a board

module _ (b : List ℕ) {L : ℕ} {p q : Filled} (a : Agree L p q) where
  pub ready-agree : ready_on b q ≡ ready_on b p
  unfolding ready_on
  ready-agree = ap (λ (f : ℕ). ready_on b (record { who = p.who; steps = f })) a.steps

  pub due-agree : (s : ℕ) → due_on b q s ≡ due_on b p s
  unfolding due_on full_on
  due-agree s = ap (λ (f : ℕ). due_on b (record { who = p.who; steps = f }) s) a.steps

  -- a rule all of whose steps were looked at is kept with the same people
  pub kept-agree : (s : ℕ) (r : Rule) → ((x : ℕ) → x < most_steps → has (with most_steps r.group r.step.0) x ≡ true → has L x ≡ true) → (u : ℕ)
      → kept_on b q s r u ≡ kept_on b p s r u
  unfolding kept_on pair_on steps_in
  kept-agree s r inside u =
      needed-cong r.form _ _ (members most_steps r.group)
      (λ z m. ap₂ (λ (i j : ℕ). has (pick (eqb y s)
      (pick (eqb z s) (set_at b (loops_place k)) (set_at b (column_place k j)))
      (pick (eqb z s) (set_at b (row_place k i)) (set_of (λ w. has (set_at b (row_place k i)) j) width))) u)
      (a.who y (λ l. inside y l (has-set_of member most_steps y l ∙ true-or (has r.group y) (eqb y y) (eq-eqb y y refl))))
      (let i = members-in most_steps r.group z m in
      a.who z (λ l. inside z l (has-set_of member most_steps z l ∙ ap (λ (c : Bool). c || eqb z y) i.1))))
    where
      y : ℕ
      y = r.step.0

      k : ℕ
      k = r.relation

      member : ℕ → Bool
      member w = has r.group w || eqb w y
