-- The loop over those who fit, as the code has it.
use mathlib.Core.Path.{◌≡◌, refl, sym, ap, ap₂, ◌∙◌, subst, subst₂}
use mathlib.Core.Option.{some}
use mathlib.Core.Bool.{Bool, true, false, not, ◌&&◌}
use mathlib.Core.List.{List}
use Prim.Native.Nat.{ℕ, suc, ◌+◌, ◌-◌, ◌*◌, ◌^◌, ◌≤◌, ◌<◌}
use native.Mathlib.Omega.{arith}
use lib.Dec.{eqb}
use Rattle.sets.specs.Lists.{pick}
use Rattle.sets.specs.Sets.{has, size, lowest, without, difference}
use Rattle.sets.specs.Stored.{width, number}
use Rattle.sets.specs.declared.People.{People}
use Rattle.sets.proofs.Counting.{has-set_of}
use Rattle.sets.proofs.Members.{lowest-size}
use Rattle.games.specs.Walks.{decremental}
use Rattle.cases.specs.declared.Filled.{Filled}
use Rattle.boards.specs.Arena.{put_on, board_arena}
use Rattle.tries.specs.Trying.{step_on, Alone, InLine}
use Rattle.sums.specs.declared.Absences.{Absences}
use Rattle.sums.specs.Sums.{but, how_many, how_many_miss, capped, Summed}
use Rattle.sums.specs.Arrays.{entry, weight_of, staying, JoinedBy, Raised}
use Rattle.sums.proofs.Sums.{over_nothing}
use Rattle.sums.proofs.Counts.{staying-weights}
use Rattle.reckoning.specs.Reckoned.{turn_on}
use Rattle.reckoning.proofs.Turns.{next-summed}
use Rattle.reckoning.proofs.Reckons.{Going, going_start, known, outside, going-stays, going-full, going-never, going_next}

-- of the first n people, with `left` steps left: from the sets that are asked for the loop has come to the sets `away`
pub record Reckoning (b : List ℕ) (n left : ℕ) (p : Filled) (sets : Absences) (fit missed rest : People) (away : Absences) (sum scale : ℕ) : Type 0 where
  pub going : Going b n (left - 1) p (weight_of sets) sets.room (number sets.held) (number fit) (number missed) (number rest) away.room (number away.held) sum scale
  pub same : away.weights ≡ sets.weights
  pub some_left : suc (left - 1) ≡ left

pub reckoning-start : (b : List ℕ) (n left : ℕ) (p : Filled) (sets : Absences) (tried fit missed : People) → (left ≡ 0 → ⊥) → Alone b p → n ≤ width
    → number sets.held < 2 ^ n → InLine b n (number sets.held) p (number tried) (number fit) → number missed ≡ difference width (number tried) (number fit)
    → Reckoning b n left p sets fit missed fit sets 0 1
reckoning-start b n left p sets tried fit missed z one few fits line e =
    record {
      going = going_start b n (left - 1) p (weight_of sets) sets.room (number sets.held) (number tried) (number fit) (number missed)
          (record { one = one; few = few; line = line; missed = λ u l. ap (λ (x : ℕ). has x u) e ∙ has-set_of (λ w. has (number tried) w && not (has (number fit) w)) width u l }) fits;
      same = refl;
      some_left = omega arith;
    }

-- person v is the first who still fits, and stays
module _ {b : List ℕ} {n left : ℕ} {p : Filled} {sets : Absences} {fit missed rest : People} {away : Absences} {sum scale : ℕ}
    (h : Reckoning b n left p sets fit missed rest away sum scale) (v : ℕ) (low : lowest width (number rest) ≡ some v) where
  pub placed-known : v < width
  placed-known = known h.going v low

  -- how often v counts
  pub placed-weight : (x : ℕ) → x ≡ pick (has (number away.held) v) 0 (weight_of away v) → x ≡ weight_of sets v
  placed-weight x e = e ∙ ap (λ (i : Bool). pick i 0 (weight_of away v)) (outside h.going v low) ∙ ap (λ (l : List ℕ). entry l v) h.same

  module _ (st : Absences) (stays : st ≡ staying away v) where
    stays-weights : weight_of st ≡ but (weight_of sets) v
    stays-weights = ap weight_of stays ∙ staying-weights away v ∙ ap (λ (l : List ℕ). but (entry l) v) h.same

    but-le : (w : ℕ → ℕ) (u : ℕ) → but w v u ≤ w u
    but-le w u = at (eqb u v)
      where
        at : (i : Bool) → pick i 0 (w u) ≤ w u
        at true = omega arith
        at false = omega arith

    -- no weight is too large
    pub stays-small : ((u : ℕ) → u < width → weight_of sets u + left < 256) → (u : ℕ) → u < width → weight_of st u < 255
    stays-small f u l = omega (arith, f u l, h.some_left, ap (λ (w : ℕ → ℕ). w u) stays-weights, but-le (weight_of sets) u)

    pub stays-room : st.room ≤ sets.room
    stays-room = omega (arith, ap (λ (s : Absences). s.room) stays, h.going.room)

    module _ (up : Absences) (raised : Raised st up) where
      pub up_small : ((u : ℕ) → u < width → weight_of sets u + left < 256) → (u : ℕ) → u < width → weight_of up u + (left - 1) < 256
      up_small f u l = omega (arith, f u l, h.some_left, raised.weights u l, ap (λ (w : ℕ → ℕ). w u) stays-weights, but-le (weight_of sets) u)

      up-held : up.held ≡ away.held
      up-held = raised.held ∙ ap (λ (s : Absences). s.held) stays

      up_room : up.room ≡ away.room
      up_room = raised.room ∙ ap (λ (s : Absences). s.room) stays

      pub up_fits : number up.held < 2 ^ n
      up_fits = subst (λ (x : People). number x < 2 ^ n) (sym up-held) h.going.fits

-- v's turn: what follows with v placed is reckoned, the trials until v is tried are counted, and both are added
pub record Turned (b : List ℕ) (n left : ℕ) (p : Filled) (sets : Absences) (fit missed rest : People) (away : Absences) (sum scale v y : ℕ) : Type 0 where
  pub was : Reckoning b n left p sets fit missed rest away sum scale
  pub low : lowest width (number rest) ≡ some v
  pub st : Absences
  pub stays : st ≡ staying away v
  pub up : Absences
  pub raised : Raised st up
  pub q : Filled
  pub put : q ≡ put_on p v (step_on b p)
  pub more : ℕ
  pub says : Summed (turn_on b n (up.room + size n (number up.held)) (left - 1) q) n (weight_of up) up.room (number up.held) more
  pub here : ℕ
  pub told : here ≡ capped (how_many (weight_of st) n st.room (number st.held) + how_many_miss (weight_of st) n st.room (number st.held) (number missed) v)
  pub adds : y ≡ capped (sum + capped (scale * capped (here + more)))

module _ {b : List ℕ} {n left : ℕ} {p : Filled} {sets : Absences} {fit missed rest : People} {away : Absences} {sum scale v y : ℕ}
    (d : Turned b n left p sets fit missed rest away sum scale v y) where
  abbrev w : ℕ → ℕ
  w = weight_of sets

  abbrev r : ℕ
  r = away.room

  abbrev A : ℕ
  A = number away.held

  abbrev t : ℕ
  t = sets.room + size n (number sets.held)

  abbrev h : Reckoning b n left p sets fit missed rest away sum scale
  h = d.was

  weights : weight_of d.st ≡ but w v
  weights = stays-weights h v d.low d.st d.stays

  follows : Summed (λ S. decremental (board_arena b n) t (left - 1) S (put_on p v (step_on b p))) n (but w v) r A d.more
  follows =
      subst₂ (λ (x : ℕ) (q : Filled). Summed (λ S. decremental (board_arena b n) x (left - 1) S q) n (but w v) r A d.more) h.going.many d.put
      (next-summed b n (left - 1) d.q (weight_of d.up) (but w v) r A h.going.fits d.more
      (λ u l. d.raised.weights u (omega (arith, l, h.going.lined.few)) ∙ ap (λ (i : ℕ → ℕ). i u + 1) weights)
      (subst₂ (λ (x : ℕ) (q : People). Summed (turn_on b n (x + size n (number q)) (left - 1) d.q) n (weight_of d.up) x (number q) d.more)
      (up_room h v d.low d.st d.stays d.up d.raised) (up-held h v d.low d.st d.stays d.up d.raised) d.says))

  counted : d.here ≡ capped (how_many (but w v) n r A + how_many_miss (but w v) n r A (number missed) v)
  counted =
      d.told
      ∙ ap₂ (λ (i : ℕ → ℕ) (s : Absences). capped (how_many i n s.room (number s.held) + how_many_miss i n s.room (number s.held) (number missed) v)) weights d.stays

  all : Summed (turn_on b n t (suc (left - 1)) p) n (but w v) r A (capped (d.here + d.more))
  all = going-stays h.going v d.low d.here d.more (capped (d.here + d.more)) counted follows refl

  whole : Summed (turn_on b n t (suc (left - 1)) p) n w sets.room (number sets.held) y → Summed (turn_on b n t left p) n w sets.room (number sets.held) y
  whole s = subst (λ (k : ℕ). Summed (turn_on b n t k p) n w sets.room (number sets.held) y) h.some_left s

  -- v cannot be away: that is all
  pub turned-never : (x : ℕ) → x ≡ pick (has A v) 0 (weight_of away v) → x ≡ 0 → Summed (turn_on b n t left p) n w sets.room (number sets.held) y
  turned-never x e z = whole (going-never h.going v d.low all d.adds (sym (placed-weight h v d.low x e) ∙ z))

  pub turned-full : away.room ≡ 0 → Summed (turn_on b n t left p) n w sets.room (number sets.held) y
  turned-full e = whole (going-full h.going v d.low all d.adds e)

  -- v may be away: on to the sets with v
  pub turned_on : (x : ℕ) (on : Absences) (rest' : People) (scale' : ℕ) → x ≡ pick (has A v) 0 (weight_of away v) → JoinedBy away v on → number rest' ≡ without width (number rest) v
      → scale' ≡ capped (scale * x) → Reckoning b n left p sets fit missed rest' on y scale'
  turned_on x on rest' scale' e j f c =
      record {
        going = going_next h.going v d.low all d.adds on.room (number on.held) (number rest') scale' j.room j.held f
            (c ∙ ap (λ (i : ℕ). capped (scale * i)) (placed-weight h v d.low x e));
        same = j.weights ∙ h.same;
        some_left = h.some_left;
      }

  -- one fewer still fits
  pub turned-fewer : (rest' : People) → number rest' ≡ without width (number rest) v → size width (number rest') < size width (number rest)
  turned-fewer rest' f = omega (arith, ap (size width) f, lowest-size width (number rest) v d.low)

-- with no step left there is no trial
pub reckoned-none : (b : List ℕ) (n t left : ℕ) (p : Filled) (w : ℕ → ℕ) (r A : ℕ) → left ≡ 0 → Summed (turn_on b n t left p) n w r A 0
unfolding turn_on
reckoned-none b n t left p w r A e = subst (λ (k : ℕ). Summed (turn_on b n t k p) n w r A 0) (sym e) (record { holds = λ S l z. refl; sum = ap capped (sym (over_nothing w n r A)) })
