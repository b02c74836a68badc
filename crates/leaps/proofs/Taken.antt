-- The loop over those who were met: what it holds, what each of its turns adds, and what it says at its end.
use mathlib.Core.Path.{◌≡◌, refl, sym, ap, ap₂, subst, subst₂, ◌∙◌}
use mathlib.Core.Bool.{Bool, true, false, not, ◌&&◌, true≢false}
use mathlib.Core.Option.{Option, none, some}
use mathlib.Core.List.{List}
use Prim.Native.Nat.{ℕ, suc, ◌+◌, ◌*◌, ◌^◌, ◌≤◌, ◌<◌}
use native.Mathlib.Nat.{lt_of_lt_of_le}
use native.Mathlib.Decide.{ℕ_discrete}
use native.Mathlib.Omega.{arith}
use borrow.Author.Tests.{ne_eqb}
use lib.Dec.{eqb}
use lib.Pow.{pow_mono}
use Rattle.sets.specs.Lists.{pick}
use Rattle.sets.specs.Sets.{has, size, lowest, with, without, difference}
use Rattle.sets.specs.Stored.{width, number}
use Rattle.sets.specs.declared.People.{People}
use Rattle.sets.proofs.Lists.{and-true, and-true-end}
use Rattle.sets.proofs.Counting.{has-set_of, set-ext}
use Rattle.sets.proofs.Members.{lowest-nobody, lowest-some, lowest-size}
use Rattle.games.specs.Walks.{Search, lacking, if_none, plan}
use Rattle.games.proofs.Cuts.{finished}
use Rattle.cases.specs.declared.Filled.{Filled}
use Rattle.boards.specs.Arena.{board_arena}
use Rattle.tries.specs.declared.Planned.{Planned}
use Rattle.tries.specs.declared.PlanEnd.TheVariants as plan_end
use Rattle.tries.specs.Outcomes.{plan_ended, SameAway, PlanTold}
use Rattle.tries.proofs.Away.{has-off, same_self}
use Rattle.sums.specs.declared.Absences.{Absences}
use Rattle.sums.specs.Sums.{but, only_below, Reached, how_many, capped, Summed}
use Rattle.sums.specs.Arrays.{entry, weight_of, staying, JoinedBy}
use Rattle.sums.proofs.Sums.{over-nobody}
use Rattle.sums.proofs.Joins.{joined-lt, with-joined}
use Rattle.sums.proofs.Splits.{but-self, but-other, reached-full}
use Rattle.sums.proofs.Counts.{staying-weights}
use Rattle.sums.proofs.Completed.{summed-alike, reached-apart, Completing, completing-start, completing-next, completing-never, completing-end}
use Rattle.leaps.proofs.Bounds.{below_one, below-known}

-- ---- a walk that found a plan

-- S where there is no plan without S
abbrev pub planless : List ℕ → ℕ → ℕ → Filled → ℕ → Search ℕ
planless b n k p S = if_none S (plan (board_arena b n) S k p)

module _ {b : List ℕ} {n A k l : ℕ} {p : Filled} {r : Planned} (told : PlanTold b n A k l p r) (c : ℕ) (found : r.end ≡ plan_end.Yes c) where
  -- it comes to the same without others too
  pub planned : (S : ℕ) → SameAway (number r.met) A S → planless b n k p S ≡ record { got = none; trials = c }
  unfolding if_none
  planned S s =
      let d = finished l (plan (board_arena b n) S k p) (some r.plan) c (sym (ap (plan_ended l r.plan) found) ∙ told.own S s) in
      ap₂ (λ (o : Option Filled) (m : ℕ). record { got = lacking S o; trials = m }) d.got d.trials

  module _ (few : n ≤ width) (fits : A < 2 ^ n) where
    -- its trials are within its limit
    pub planned-within : c ≤ l
    planned-within = (finished l (plan (board_arena b n) A k p) (some r.plan) c (sym (ap (plan_ended l r.plan) found) ∙ told.own A (same_self (number r.met) A (lt_of_lt_of_le fits (pow_mono few))))).within

    here : planless b n k p A ≡ record { got = none; trials = c }
    here = planned A (same_self (number r.met) A (lt_of_lt_of_le fits (pow_mono few)))

    -- where nobody may join there is one set
    pub planned-alone : (w : ℕ → ℕ) (m : ℕ) → c < 2 ^ 32 → m ≡ 0 → Summed (planless b n k p) n w m A c
    planned-alone w m small z =
        subst (λ (i : ℕ). Summed (planless b n k p) n w i A c) (sym z)
        (record {
          holds = λ S left i. ap (λ (x : ℕ). (planless b n k p x).got) (same S left i) ∙ ap (λ (o : Search ℕ). o.got) here;
          sum = all ∙ ap capped (sym (over-nobody (λ S left. (planless b n k p S).trials) w n A));
        })
      where
        same : (S left : ℕ) → Reached n w n 0 A S left → S ≡ A
        same S left i = set-ext n S A i.fits fits (λ u q. at u q (has A u) refl)
          where
            at : (u : ℕ) → u < n → (x : Bool) → has A u ≡ x → has S u ≡ has A u
            at u q true e = i.holds u e ∙ sym e
            at u q false e = reached-full n w u A q fits e i ∙ sym e

        all : c ≡ capped (planless b n k p A).trials
        all = omega (arith, small, ap (λ (o : Search ℕ). o.trials) here)

    -- where nobody who was met may join, all sets are alike
    pub planned-all : (w : ℕ → ℕ) (m i x : ℕ) → ((u : ℕ) → u < n → has (number r.met) u ≡ true → has A u ≡ false → w u ≡ 0)
        → i ≡ capped (how_many w n m A) → x ≡ capped (c * i) → Summed (planless b n k p) n w m A x
    planned-all w m i x none-joins e q =
        summed-alike (planless b n k p) n w m A c i x fits (ap (λ (o : Search ℕ). o.got) here) (ap (λ (o : Search ℕ). o.trials) here)
        (λ S left z. planned S (like S left z) ∙ sym here) e q
      where
        like : (S left : ℕ) → Reached n w n m A S left → SameAway (number r.met) A S
        like S left z = record { fits = lt_of_lt_of_le z.fits (pow_mono few); same = λ u h o. reached-apart (number r.met) none-joins z u o }

-- ---- the loop

-- what the loop holds: `first` may be taken, and `rest` are still to be; whoever was taken stays
pub record Taking (b : List ℕ) (n k : ℕ) (p : Filled) (sets : Absences) (first rest : People) (stay : Absences) (sum : ℕ) : Type 0 where
  pub held : stay.held ≡ sets.held
  pub room : stay.room ≡ sets.room
  pub completing : Completing (planless b n k p) n (weight_of sets) sets.room (number sets.held) (weight_of stay) sum
  pub small : (u : ℕ) → u < width → weight_of stay u ≤ only_below n u
  pub apart : (u : ℕ) → u < width → has (number rest) u ≡ true → has (number sets.held) u ≡ false
  pub taken : (u : ℕ) → u < width → has (number first) u ≡ true → has (number rest) u ≡ false → weight_of stay u ≡ 0

pub taking-start : (b : List ℕ) (n k : ℕ) (p : Filled) (sets : Absences) (met first : People) → number first ≡ difference width (number met) (number sets.held)
    → ((u : ℕ) → u < width → weight_of sets u ≤ only_below n u) → Taking b n k p sets first first sets 0
taking-start b n k p sets met first e small =
    record {
      held = refl;
      room = refl;
      completing = completing-start (planless b n k p) n (weight_of sets) sets.room (number sets.held);
      small = small;
      apart = λ u l h. not_there (has (number sets.held) u) (and-true (has (number met) u) (not (has (number sets.held) u)) (sym (off u l) ∙ h)).1;
      taken = λ u l f g. absurd (true≢false (sym f ∙ g));
    }
  where
    off : (u : ℕ) → u < width → has (number first) u ≡ has (number met) u && not (has (number sets.held) u)
    off u l = ap (λ (x : ℕ). has x u) e ∙ has-off (number met) (number sets.held) u l

    not_there : (x : Bool) → not x ≡ true → x ≡ false
    not_there true h = sym h
    not_there false h = refl

-- person v is the first who is still to be taken
module _ {b : List ℕ} {n k : ℕ} {p : Filled} {sets : Absences} {first rest : People} {stay : Absences} {sum : ℕ}
    (g : Taking b n k p sets first rest stay sum) (v : ℕ) (low : lowest width (number rest) ≡ some v) where
  abbrev A : ℕ
  A = number sets.held

  pub known : v < width
  known = (lowest-some width (number rest) v low).0

  outside : has A v ≡ false
  outside = g.apart v known (lowest-some width (number rest) v low).1

  weight_is : (x : ℕ) → x ≡ pick (has (number stay.held) v) 0 (weight_of stay v) → weight_of stay v ≡ x
  weight_is x e =
      sym (e ∙ ap (λ (i : Bool). pick i 0 (weight_of stay v)) (ap (λ (s : People). has (number s) v) g.held ∙ outside))

  module _ (rest' : People) (less : number rest' ≡ without width (number rest) v) where
    -- one fewer is still to be taken
    pub taken-fewer : size width (number rest') < size width (number rest)
    taken-fewer = omega (arith, ap (size width) less, lowest-size width (number rest) v low)

    module _ (st : Absences) (stays : st ≡ staying stay v) where
      weights : weight_of st ≡ but (weight_of stay) v
      weights = ap weight_of stays ∙ staying-weights stay v

      taken-v : {sum' : ℕ} → Completing (planless b n k p) n (weight_of sets) sets.room A (but (weight_of stay) v) sum' → Taking b n k p sets first rest' st sum'
      taken-v {sum'} c =
          record {
            held = ap (λ (s : Absences). s.held) stays ∙ g.held;
            room = ap (λ (s : Absences). s.room) stays ∙ g.room;
            completing = subst (λ (w : ℕ → ℕ). Completing (planless b n k p) n (weight_of sets) sets.room A w sum') (sym weights) c;
            small = λ u l. omega (arith, g.small u l, ap (λ (w : ℕ → ℕ). w u) weights, but-le u (eqb u v));
            apart = λ u l h. g.apart u l (and-true (has (number rest) u) (not (eqb u v)) (sym (off u l) ∙ h)).0;
            taken = λ u l f h. ap (λ (w : ℕ → ℕ). w u) weights ∙ gone u l f h (ℕ_discrete u v);
          }
        where
          off : (u : ℕ) → u < width → has (number rest') u ≡ has (number rest) u && not (eqb u v)
          off u l = ap (λ (x : ℕ). has x u) less ∙ has-set_of (λ w. has (number rest) w && not (eqb w v)) width u l

          but-le : (u : ℕ) (x : Bool) → pick x 0 (weight_of stay u) ≤ weight_of stay u
          but-le u true = omega arith
          but-le u false = omega arith

          gone : (u : ℕ) → u < width → has (number first) u ≡ true → has (number rest') u ≡ false → Dec (u ≡ v) → but (weight_of stay) v u ≡ 0
          gone u l f h (yes d) = ap (but (weight_of stay) v) d ∙ but-self (weight_of stay) v
          gone u l f h (no d) =
              but-other (weight_of stay) v u d
              ∙ g.taken u l f (sym (and-true-end (has (number rest) u)) ∙ ap (λ (x : Bool). has (number rest) u && not x) (sym (ne_eqb u v d)) ∙ sym (off u l) ∙ h)

      -- v does not join
      pub taken-never : (x : ℕ) → x ≡ pick (has (number stay.held) v) 0 (weight_of stay v) → (x ≡ 1 → ⊥) → Taking b n k p sets first rest' st sum
      taken-never x e z =
          let nothing : weight_of stay v ≡ 0 = omega (arith, weight_is x e, below_one n v (weight_of stay v) (g.small v known), z) in
          taken-v (completing-never v nothing g.completing)

      -- v joins once, and the sets with v are summed
      module _ (few : n ≤ width) (fits : A < 2 ^ n) (x : ℕ) (e : x ≡ pick (has (number stay.held) v) 0 (weight_of stay v)) (one : x ≡ 1) (on : Absences) (joins : JoinedBy stay v on) where
        listed : v < n
        listed = below-known n v (weight_of stay v) (g.small v known) (weight_is x e ∙ one)

        with-v : number on.held ≡ A + 2 ^ v
        with-v = joins.held ∙ ap (λ (s : People). with width (number s) v) g.held ∙ with-joined n A v few listed fits outside

        pub on_fits : number on.held < 2 ^ n
        on_fits = omega (arith, with-v, joined-lt n v A listed fits outside)

        pub on_room : sets.room ≡ suc on.room
        on_room = sym g.room ∙ joins.room

        pub on-small : (u : ℕ) → u < width → weight_of on u ≤ only_below n u
        on-small u l = omega (arith, g.small u l, ap (λ (w : List ℕ). entry w u) joins.weights)

        pub taken-on : (more sum' : ℕ) → Summed (planless b n k p) n (weight_of on) on.room (number on.held) more → sum' ≡ capped (sum + capped (1 * capped (more + 0)))
            → Taking b n k p sets first rest' st sum'
        taken-on more sum' s q =
            taken-v
            (subst (λ (m : ℕ). Completing (planless b n k p) n (weight_of sets) m A (but (weight_of stay) v) sum') (sym on_room)
            (completing-next v more sum' listed fits outside (weight_is x e ∙ one)
            (subst (λ (m : ℕ). Completing (planless b n k p) n (weight_of sets) m A (weight_of stay) sum) on_room g.completing)
            (subst₂ (λ (w : List ℕ) (B : ℕ). Summed (planless b n k p) n (entry w) on.room B more) joins.weights with-v s)
            (omega (arith, q, s.sum))))

-- nobody is still to be taken: whoever was met and may join has been
pub taking-end : {b : List ℕ} {n k l : ℕ} {p : Filled} {sets : Absences} {first rest : People} {stay : Absences} {sum : ℕ} {r : Planned} (c : ℕ) → Taking b n k p sets first rest stay sum
    → lowest width (number rest) ≡ none → n ≤ width → number sets.held < 2 ^ n → PlanTold b n (number sets.held) k l p r → r.end ≡ plan_end.Yes c
    → number first ≡ difference width (number r.met) (number sets.held) → (i x : ℕ) → i ≡ capped (how_many (weight_of stay) n stay.room (number stay.held))
    → x ≡ capped (sum + capped (c * capped (i + 0))) → Summed (planless b n k p) n (weight_of sets) sets.room (number sets.held) x
taking-end {b} {n} {k} {l} {p} {sets} {first} {rest} {stay} {sum} {r} c g low few fits told found e i x m q =
    completing-end x (capped (c * i)) g.completing
    (planned-all told c found few fits (weight_of stay) sets.room i (capped (c * i)) gone many refl)
    (q ∙ ap (λ (y : ℕ). capped (sum + capped (c * y))) same)
  where
    many : i ≡ capped (how_many (weight_of stay) n sets.room (number sets.held))
    many = m ∙ ap₂ (λ (z : ℕ) (s : People). capped (how_many (weight_of stay) n z (number s))) g.room g.held

    same : capped (i + 0) ≡ i
    same = omega (arith, m)

    gone : (u : ℕ) → u < n → has (number r.met) u ≡ true → has (number sets.held) u ≡ false → weight_of stay u ≡ 0
    gone u h o f =
        let j : u < width = omega (arith, h, few) in
        g.taken u j (ap (λ (y : ℕ). has y u) e ∙ has-off (number r.met) (number sets.held) u j ∙ ap₂ (λ (y z : Bool). y && not z) o f) (lowest-nobody width (number rest) low u j)
