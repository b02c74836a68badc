-- Positions of a search: from the start, by people who fit, none but sound ones come; and where steps are filled as listed, the next is the only
-- one that is ready.
use mathlib.Core.Path.{◌≡◌, refl, sym, ap, ap₂, ◌∙◌}
use mathlib.Core.Bool.{Bool, true, false, not, ◌&&◌, ◌||◌, true≢false}
use Prim.Native.Nat.{ℕ, ◌≤◌, ◌<◌}
use native.Mathlib.Decide.{dec_lt, ℕ_discrete}
use native.Mathlib.Omega.{arith}
use borrow.Author.Tests.{eq-eqb, ne_eqb, lt-ltb, le-ltb, ltb-true}
use lib.Dec.{eqb, ltb}
use lib.ListN.{length, length-set, length-replicate}
use lib.Pow.{pow_pos}
use Rattle.sets.specs.Lists.{pick, value_or, all}
use Rattle.sets.specs.Sets.{has, set_of, members, lowest}
use Rattle.sets.proofs.Lists.{and-true, and-false-end, mem-all, all-mem}
use Rattle.sets.proofs.Bits.{has-empty, has-beyond}
use Rattle.sets.proofs.Counting.{set_of-lt, has-set_of}
use Rattle.sets.proofs.Members.{members-in, members-mem, lowest-is}
use Rattle.cases.specs.declared.Person.{Person}
use Rattle.cases.specs.declared.Case.{Case}
use Rattle.cases.specs.declared.Filled.{Filled}
use Rattle.cases.specs.Case.{most_steps, people, steps, rules}
use Rattle.cases.specs.Rules.{steps_in, filled, kept, rules_hold}
use Rattle.cases.specs.Positions.{zero_person}
use Rattle.cases.specs.Filled.{start_filled, who_in, placed_at, filled_with, who_with}
use Rattle.cases.proofs.Rules.{hold-fewer}
use Rattle.cases.proofs.Fillings.{placed-there, placed-filled, placed-who}
use Rattle.boards.specs.Board.{ready_on, fits_on}
use Rattle.pieces.specs.declared.Order.{Order}
use Rattle.pieces.specs.declared.Order.TheVariants as order
use Rattle.laying.specs.Laid.{laid_out}
use Rattle.laying.specs.Ready.{Ready}
use Rattle.meaning.specs.Sound.{Formed, Sound}
use Rattle.meaning.proofs.Means.{no_more, ready-means, fits-means}

-- ---- the start

pub formed-start : Formed start_filled
formed-start = record { long = length-replicate most_steps zero_person; small = pow_pos most_steps }

pub sound-start : (c : Case) → Sound c start_filled
unfolding rules_hold filled
sound-start c =
    record {
      listed = pow_pos (steps c);
      known = λ x e. absurd (true≢false (sym e ∙ has-empty x));
      kept = mem-all (λ r. not (filled r (has 0)) || kept c r (who_in start_filled)) (rules c) (λ r m. rw (has-empty r.step.0));
    }

-- ---- one step more

module _ (p : Filled) (formed : Formed p) (s : ℕ) (v : Person) where
  pub formed-placed : s < most_steps → Formed (placed_at p s v)
  formed-placed room =
      record {
        long = ap (λ q. length q.who) (sym (placed-there p s v room)) ∙ length-set p.who s v ∙ formed.long;
        small = omega (arith, set_of-lt (λ w. has p.steps w || eqb w s) most_steps, ap (λ q. q.steps) (placed-there p s v room));
      }

  module _ (c : Case) (o : Order) (ready : Ready c) (sound : Sound c p) (there : s < steps c) (known : v.0 < people c) where
    room : s < most_steps
    room = omega (arith, ready.counts.steps)

    filled-now : (x : ℕ) → has (placed_at p s v).steps x ≡ filled_with p s x
    filled-now = placed-filled p s v room formed.small

    who-now : (x : ℕ) → who_in (placed_at p s v) x ≡ who_with p s v.0 x
    who-now = placed-who p s v room (omega (arith, formed.long))

    -- placed there, somebody who fits leaves a sound position, and only they do
    pub sound-placed : has (fits_on (laid_out c o) p s) v.0 ≡ true → Sound c (placed_at p s v)
    sound-placed fits =
        record {
          listed = no_more most_steps (steps c) (placed_at p s v).steps ready.counts.steps (formed-placed room).small (λ x h l. none x h);
          known = λ x e. at x (ℕ_discrete x s) (sym (filled-now x) ∙ e);
          kept =
              hold-fewer c (has (placed_at p s v).steps) (filled_with p s) (who_in (placed_at p s v)) (who_with p s v.0)
              (λ x e. (sym (filled-now x) ∙ e, sym (who-now x))) (sym (fits-means c o ready p sound s there v.0 known) ∙ fits);
        }
      where
        none : (x : ℕ) → steps c ≤ x → has (placed_at p s v).steps x ≡ false
        none x h = filled-now x ∙ ap₂ ◌||◌ (has-beyond (steps c) p.steps x sound.listed h) (ne_eqb x s (λ e. omega arith))

        was : (x : ℕ) → (d : Bool) → has p.steps x ≡ d → d || false ≡ true → has p.steps x ≡ true
        was x true q e = q
        was x false q e = absurd (true≢false (sym e))

        at : (x : ℕ) → Dec (x ≡ s) → filled_with p s x ≡ true → who_in (placed_at p s v) x < people c
        at x (yes q) e = omega (arith, known, who-now x ∙ ap (λ (d : Bool). pick d v.0 (who_in p x)) (eq-eqb x s q))
        at x (no n) e =
            let f : has p.steps x || false ≡ true = ap (λ (d : Bool). has p.steps x || d) (sym (ne_eqb x s n)) ∙ e in
            omega (arith, sound.known x (was x (has p.steps x) refl f), who-now x ∙ ap (λ (d : Bool). pick d v.0 (who_in p x)) (ne_eqb x s n))

    pub placed-fits : rules_hold c (has (placed_at p s v).steps) (who_in (placed_at p s v)) ≡ true → has (fits_on (laid_out c o) p s) v.0 ≡ true
    placed-fits holds =
        fits-means c o ready p sound s there v.0 known
        ∙ hold-fewer c (filled_with p s) (has (placed_at p s v).steps) (who_with p s v.0) (who_in (placed_at p s v))
        (λ x e. (filled-now x ∙ e, who-now x)) holds

-- ---- steps as listed

-- with the first n steps filled, the next is the only one that is ready
pub listed-ready : (c : Case) → Ready c → (p : Filled) (n s : ℕ) → ((x : ℕ) → x < most_steps → has p.steps x ≡ ltb x n) → s < most_steps
    → has (ready_on (laid_out c order.Listed) p) s ≡ ltb s (steps c) && eqb s n
unfolding steps_in
listed-ready c ready p n s first l =
    ready-means c order.Listed ready p s l
    ∙ ap (λ (d : Bool). ltb s (steps c) && d) (ap (λ (d : Bool). not d && rest) (first s l) ∙ go (ℕ_discrete s n) (dec_lt s n))
  where
    lower : ℕ
    lower = set_of (λ x. ltb x s) most_steps

    rest : Bool
    rest = all (has p.steps) (members most_steps lower)

    -- all lower steps are filled
    reached : s ≤ n → rest ≡ true
    reached h =
        mem-all (has p.steps) (members most_steps lower)
        (λ x m.
        let k = members-in most_steps lower x m in
        let e = ltb-true x s (sym (has-set_of (λ y. ltb y s) most_steps x k.0) ∙ k.1) in
        first x k.0 ∙ lt-ltb x n (omega (arith, e, h)))

    -- step n is not
    short : n < s → rest ≡ false
    short h = at rest refl
      where
        at : (d : Bool) → rest ≡ d → rest ≡ false
        at false q = q
        at true q =
            let k : n < most_steps = omega (arith, h, l) in
            absurd (true≢false (sym (all-mem (has p.steps) (members most_steps lower) q n
            (members-mem most_steps lower n k (has-set_of (λ y. ltb y s) most_steps n k ∙ lt-ltb n s h))) ∙ first n k ∙ le-ltb n n (omega arith)))

    go : Dec (s ≡ n) → Dec (s < n) → not (ltb s n) && rest ≡ eqb s n
    go (yes e) d = ap₂ (λ (x y : Bool). not x && y) (le-ltb s n (omega arith)) (reached (omega arith)) ∙ sym (eq-eqb s n e)
    go (no e) (yes h) = ap (λ (x : Bool). not x && rest) (lt-ltb s n h) ∙ sym (ne_eqb s n e)
    go (no e) (no h) = ap₂ (λ (x y : Bool). not x && y) (le-ltb s n (omega arith)) (short (omega arith)) ∙ sym (ne_eqb s n e)

-- wherever one comes to, the lowest step that is ready is the only one
pub listed-one : (c : Case) → Ready c → (p : Filled) (s : ℕ) → s < most_steps
    → has (ready_on (laid_out c order.Listed) p) s ≡ true → s ≡ value_or 32 (lowest 32 (ready_on (laid_out c order.Listed) p))
unfolding steps_in
listed-one c ready p s l e = sym (ap (value_or 32) (lowest-is 32 R s (omega arith) e below))
  where
    R : ℕ
    R = ready_on (laid_out c order.Listed) p

    lower : ℕ → ℕ
    lower y = set_of (λ x. ltb x y) most_steps

    -- the steps below one that is ready are filled
    reached : all (has p.steps) (members most_steps (lower s)) ≡ true
    reached = (and-true (not (has p.steps s)) _ (and-true (ltb s (steps c)) _ (sym (ready-means c order.Listed ready p s l) ∙ e)).1).1

    none : (d f g : Bool) → f ≡ true → d && (not f && g) ≡ false
    none d f g q = ap (λ (x : Bool). d && (not x && g)) q ∙ and-false-end d

    below : (y : ℕ) → y < s → has R y ≡ false
    below y h =
        let k : y < most_steps = omega arith in
        ready-means c order.Listed ready p y k
        ∙ none (ltb y (steps c)) (has p.steps y) (all (has p.steps) (members most_steps (lower y)))
        (all-mem (has p.steps) (members most_steps (lower s)) reached y
        (members-mem most_steps (lower s) y k (has-set_of (λ x. ltb x s) most_steps y k ∙ lt-ltb y s h)))
