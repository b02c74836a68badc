-- A round of the chain is what the scope says of a round: the desk puts a present person into the next step, keeping the position valid.
use mathlib.Core.Path.{◌≡◌, refl, sym, ap, ◌∙◌, subst}
use mathlib.Core.Logic.{◌⊎◌, inl, inr, ◌↔◌}
use mathlib.Core.Option.{some}
use mathlib.Core.Bool.{Bool, true, false, true≢false}
use mathlib.Core.List.{List, [], ◌∷◌, ◌++◌, append-nil}
use Prim.Native.Nat.{ℕ, zero, suc, ◌+◌, ◌≤◌, ◌<◌}
use native.Mathlib.Nat.{not-suc-le-zero, add-zero}
use native.Mathlib.Decide.{dec_lt}
use native.Mathlib.Omega.{arith}
use borrow.Author.Tests.{lt-ltb, le-ltb}
use lib.ListN.{length, get_or, length-append, get_or-append}
use lib.Seq.{get_or-append_seam, append_snoc}
use Rattle.sets.specs.Lists.{pick, only_if, ◌∈◌, cons_if}
use Rattle.sets.specs.Sets.{has}
use Rattle.sets.proofs.Lists.{lt-or-eq, only_if-some}
use Rattle.sets.proofs.Listed.{meets-mem}
use Rattle.sets.proofs.Bits.{has-empty}
use Rattle.games.specs.Arena.{Round}
use Rattle.games.specs.Games.{Line, Planned}
use Rattle.cases.specs.declared.Case.{Case}
use Rattle.cases.specs.declared.StepEntry.{StepEntry}
use Rattle.cases.specs.Case.{most_roles, entry, people, steps, roles_held, roles_for, zero_step}
use Rattle.cases.specs.Plans.{may, holds, Valid, Plan, Without}
use Rattle.cases.specs.Questions.{Placed}
use Rattle.cases.specs.Chain.{offers, place, chain}
use Rattle.cases.proofs.Rules.{holds-prefix, holds-start}

-- entries from a count up read as zero
pub entry_past : {A : Type 0} (z : A) (n : ℕ) (l : List A) (i : ℕ) → n ≤ i → entry z n l i ≡ z
unfolding entry
entry_past z n l i h = ap (λ (b : Bool). pick b (get_or l i z) z) (le-ltb i n h)

pub entry_at : {A : Type 0} (z : A) (n : ℕ) (l : List A) (i : ℕ) → i < n → entry z n l i ≡ get_or l i z
unfolding entry
entry_at z n l i h = ap (λ (b : Bool). pick b (get_or l i z) z) (lt-ltb i n h)

module _ (c : Case) where
  -- somebody who may do a step is known, and so is the step
  pub may-known : (u s : ℕ) → may c u s ≡ true → u < people c
  unfolding may roles_held
  may-known u s e = go (dec_lt u (people c)) (meets-mem most_roles (roles_held c u) (roles_for c s) e)
    where
      go : Dec (u < people c) → (r : ℕ) × (r < most_roles) × (has (roles_held c u) r ≡ true) × (has (roles_for c s) r ≡ true) → u < people c
      go (yes h) k = h
      go (no h) k = absurd (true≢false (sym k.2 ∙ ap (λ (x : ℕ). has x k.0) (entry_past 0 (people c) c.people u (omega arith)) ∙ has-empty k.0))

  pub may-step : (u s : ℕ) → may c u s ≡ true → s < steps c
  unfolding may roles_for
  may-step u s e = go (dec_lt s (steps c)) (meets-mem most_roles (roles_held c u) (roles_for c s) e)
    where
      go : Dec (s < steps c) → (r : ℕ) × (r < most_roles) × (has (roles_held c u) r ≡ true) × (has (roles_for c s) r ≡ true) → s < steps c
      go (yes h) k = h
      go (no h) k =
          absurd (true≢false (sym k.3 ∙ ap (λ (x : StepEntry). has x.roles k.0) (entry_past zero_step (steps c) c.steps s (omega arith)) ∙ has-empty k.0))

  pub offered-in : (p : List ℕ) (u m : ℕ) → m ∈ offers c p u → (m ≡ u) × (may c u (length p) ≡ true)
  unfolding offers
  offered-in p u m h = go (may c u (length p)) refl h
    where
      go : (b : Bool) → may c u (length p) ≡ b → m ∈ cons_if b u [] → (m ≡ u) × (may c u (length p) ≡ true)
      go true e (inl k) = (k, e)
      go true e (inr k) = absurd k
      go false e k = absurd k

  pub mem-offered : (p : List ℕ) (u : ℕ) → may c u (length p) ≡ true → u ∈ offers c p u
  unfolding offers
  mem-offered p u e = subst (λ b. u ∈ cons_if b u []) (sym e) (inl refl)

  -- ---- valid positions

  pub start-valid : Valid c []
  start-valid = record { able = λ i h. absurd (not-suc-le-zero h); kept = holds-start c }

  -- what holds of each person of p, and of u, holds of each person of p with u
  pub snoc-each : (P : ℕ → ℕ → Type 0) (p : List ℕ) (u : ℕ) → ((i : ℕ) → i < length p → P (get_or p i 0) i) → P u (length p)
      → (i : ℕ) → i < length (p ++ (u ∷ [])) → P (get_or (p ++ (u ∷ [])) i 0) i
  snoc-each P p u f h i l = go (lt-or-eq i (length p) (omega (arith, length-append p (u ∷ []))))
    where
      go : (i ≡ length p) ⊎ (i < length p) → P (get_or (p ++ (u ∷ [])) i 0) i
      go (inl e) = rw (e, get_or-append_seam p u [] 0) h
      go (inr k) = rw (get_or-append p (u ∷ []) 0 i k) (f i k)

  -- the other way round: the last person, and the beginning
  pub last-able : (p : List ℕ) (u : ℕ) → Valid c (p ++ (u ∷ [])) → may c u (length p) ≡ true
  last-able p u v = subst (λ x. may c x (length p) ≡ true) (get_or-append_seam p u [] 0) (v.able (length p) (omega (arith, length-append p (u ∷ []))))

  pub prefix-valid : (p us : List ℕ) → Valid c (p ++ us) → Valid c p
  prefix-valid p us v =
      record {
        able = λ i h. subst (λ x. may c x i ≡ true) (get_or-append p us 0 i h) (v.able i (omega (arith, length-append p us)));
        kept = holds-prefix c p us v.kept;
      }

  pub valid-short : (p : List ℕ) → Valid c p → length p ≤ steps c
  valid-short p v = go (length p) refl
    where
      go : (n : ℕ) → length p ≡ n → n ≤ steps c
      go zero e = omega arith
      go (suc n) e = may-step (get_or p n 0) n (v.able n (omega arith))

  -- ---- rounds

  pub round-placed : (A : ℕ) (p q : List ℕ) → Valid c p → Round (chain c) A p q → Placed c A p q
  unfolding place
  round-placed A p q v r =
      let o = offered-in p r.person r.move r.offered in
      let e = only_if-some (holds c (p ++ (r.move ∷ []))) (p ++ (r.move ∷ [])) q r.leaves in
      record {
        person = r.move;
        present = subst (λ u. has A u ≡ false) (sym o.0) r.present;
        next = sym e.1;
        valid = subst (Valid c) e.1
            (record { able = snoc-each (λ x i. may c x i ≡ true) p r.move v.able (subst (λ u. may c u (length p) ≡ true) (sym o.0) o.1); kept = e.0 });
      }

  pub placed-round : (A : ℕ) (p q : List ℕ) → Placed c A p q → Round (chain c) A p q
  unfolding place
  placed-round A p q s =
      let u : ℕ = s.person in
      let v : Valid c (p ++ (u ∷ [])) = subst (Valid c) s.next s.valid in
      let m = last-able p u v in
      record {
        person = u;
        listed = may-known u (length p) m;
        present = s.present;
        move = u;
        offered = mem-offered p u m;
        leaves = ap (λ b. only_if b (p ++ (u ∷ []))) v.kept ∙ ap some (sym s.next);
      }

  -- both keep the person
  pub round-placed-person : (A : ℕ) (p q : List ℕ) (v : Valid c p) (r : Round (chain c) A p q) → (round-placed A p q v r).person ≡ r.person
  unfolding round-placed
  round-placed-person A p q v r = (offered-in p r.person r.move r.offered).0

  pub placed-round-person : (A : ℕ) (p q : List ℕ) (s : Placed c A p q) → (placed-round A p q s).person ≡ s.person
  unfolding placed-round
  placed-round-person A p q s = refl

  -- ---- plans

  -- k rounds with A away lead from a valid position to a valid one, k persons longer, none of whom is in A
  pub line-valid : (A k : ℕ) (p q : List ℕ) → Valid c p → Without A p → Line (people c) (Round (chain c)) A k p q → Valid c q × Without A q × (length q ≡ length p + k)
  line-valid A zero p q v w l = (subst (Valid c) l v, subst (Without A) l w, ap length (sym l) ∙ sym (add-zero (length p)))
  line-valid A (suc k) p q v w l =
      let s = round-placed A p l.0 v l.1 in
      let here : Without A l.0 = subst (Without A) (sym s.next) (snoc-each (λ x i. has A x ≡ false) p s.person w s.present) in
      let r = line-valid A k l.0 q s.valid here l.2 in
      (r.0, r.1, omega (arith, r.2, ap length s.next, length-append p (s.person ∷ [])))

  pub valid-line : (A : ℕ) (us p : List ℕ) → Valid c (p ++ us) → Without A (p ++ us) → Line (people c) (Round (chain c)) A (length us) p (p ++ us)
  valid-line A [] p v w = sym (append-nil p)
  valid-line A (u ∷ us) p v w =
      let e : p ++ (u ∷ []) ++ us ≡ p ++ u ∷ us = append_snoc p u us in
      let here : has A u ≡ false = subst (λ x. has A x ≡ false) (get_or-append_seam p u us 0) (w (length p) (omega (arith, length-append p (u ∷ us)))) in (
        p ++ (u ∷ []),
        placed-round A p (p ++ (u ∷ [])) (record { person = u; present = here; next = refl; valid = prefix-valid (p ++ (u ∷ [])) us (subst (Valid c) (sym e) v) }),
        subst (λ x. Line (people c) (Round (chain c)) A (length us) (p ++ (u ∷ [])) x) e (valid-line A us (p ++ (u ∷ [])) (subst (Valid c) (sym e) v) (subst (Without A) (sym e) w)),
      )

  pub without-start : (A : ℕ) → Without A []
  without-start A i h = absurd (not-suc-le-zero h)

  -- the game's "there is a plan with A away" is the scope's
  pub planned-plan : (A : ℕ) → Planned (people c) (Round (chain c)) A (steps c) [] ↔ ((q : List ℕ) × Plan c q × Without A q)
  planned-plan A = (
    λ l. let r = line-valid A (steps c) [] l.0 start-valid (without-start A) l.1 in (l.0, record { valid = r.0; whole = omega (arith, r.2) }, r.1),
    λ q. (q.0, subst (λ k. Line (people c) (Round (chain c)) A k [] q.0) q.1.whole (valid-line A q.0 [] q.1.valid q.2)),
  )
