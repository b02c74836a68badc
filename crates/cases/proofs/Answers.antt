-- The answers of a case's walks, in the scope's own words: plans are lists of persons, each allowed, every rule kept; the games are those of the
-- five questions.
use mathlib.Core.Path.{◌≡◌, refl, sym, ap, ap₂, ◌∙◌, subst, subst₂}
use mathlib.Core.Logic.{◌⊎◌, inl, inr, ◌↔◌}
use mathlib.Core.Option.{Option, none, some, none-ne-some}
use mathlib.Core.List.{List, [], ◌∷◌, ◌++◌, append-nil}
use Prim.Native.Nat.{ℕ, zero, suc, ◌+◌, ◌-◌, ◌≤◌, ◌<◌}
use native.Mathlib.Decide.{dec_lt}
use native.Mathlib.Omega.{arith}
use lib.ListN.{length, get_or, take, drop, length-append, length-drop, take-append-drop}
use lib.Seq.{take_all, take-suc, take-append_seam, drop-cons, get_or-append_seam, append_snoc}
use Rattle.sets.proofs.Lists.{lt-or-eq}
use Rattle.sets.proofs.Bits.{has-empty}
use Rattle.games.specs.Arena.{Round}
use Rattle.games.specs.Walks.{Search, Yes, No, decremental, one_shot}
use Rattle.games.specs.Games.{Absent, Line, Decremental, OneShot, Dynamic}
use Rattle.games.specs.Good.{First}
use Rattle.games.proofs.Verdicts.{nobody, contains-empty, plan-exactly, plan-first, static-exactly, StaticShown, static-shown, decremental-exactly, decremental-shown}
use Rattle.games.proofs.Good.{dynamic-exactly}
use Rattle.games.proofs.Chain.{dynamic→decremental, decremental→one_shot, one_shot→static, static→planned}
use Rattle.games.proofs.Strikes.{PassAnswered, OneShotShown, one_shot-exactly, one_shot-shown, empty-is-pass}
use Rattle.games.proofs.Matched.{Matches, decremental-matched, one_shot-matched, dynamic-matched}
use Rattle.cases.specs.declared.Case.{Case}
use Rattle.cases.specs.Case.{people, steps}
use Rattle.cases.specs.Plans.{Valid, Plan, Without, FirstPlan}
use Rattle.cases.specs.Questions.{HasPlan, StaticYes, Placed, DecrementalYes, OneShotYes, DynamicYes}
use Rattle.cases.specs.Shown.{StaticNo, Answers, DecrementalNo, AnswersPass, FirstStrike, OneShotNo}
use Rattle.cases.specs.Chain.{chain, plan_of, static_of, decremental_of, one_shot_of, dynamic_of}
use Rattle.cases.proofs.Rounds.{start-valid, prefix-valid, round-placed, placed-round, round-placed-person, placed-round-person, line-valid, valid-line, without-start, planned-plan}

-- ---- the two notions of a round give the same games

abbrev Same : Case → List ℕ → List ℕ → Type 0
Same c p s = (p ≡ s) × Valid c p

to-placed : (c : Case) → Matches (Round (chain c)) (Placed c) (Same c)
to-placed c A p q s h r = let k = round-placed c A p q h.1 r in (q, subst (λ x. Placed c A x q) h.0 k, (refl, k.valid))

to-round : (c : Case) → Matches (Placed c) (Round (chain c)) (Same c)
to-round c A p q s h k = (q, subst (λ x. Round (chain c) A x q) h.0 (placed-round c A p q k), (refl, k.valid))

module _ (c : Case) where
  -- from a valid position the arena's games are the scope's
  pub decremental-same : (t k a : ℕ) (p : List ℕ) → Valid c p
      → Decremental (people c) (Round (chain c)) t k a p ↔ Decremental (people c) (Placed c) t k a p
  decremental-same t k a p v = (
    decremental-matched (people c) (Round (chain c)) (Placed c) (Same c) (to-placed c) t k a p p (refl, v),
    decremental-matched (people c) (Placed c) (Round (chain c)) (Same c) (to-round c) t k a p p (refl, v),
  )

  pub one_shot-same : (t k : ℕ) (p : List ℕ) → Valid c p → OneShot (people c) (Round (chain c)) t k p ↔ OneShot (people c) (Placed c) t k p
  one_shot-same t k p v = (
    one_shot-matched (people c) (Round (chain c)) (Placed c) (Same c) (to-placed c) t k p p (refl, v),
    one_shot-matched (people c) (Placed c) (Round (chain c)) (Same c) (to-round c) t k p p (refl, v),
  )

  pub dynamic-same : (t k : ℕ) (p : List ℕ) → Valid c p → Dynamic (people c) (Round (chain c)) t k p ↔ Dynamic (people c) (Placed c) t k p
  dynamic-same t k p v = (
    dynamic-matched (people c) (Round (chain c)) (Placed c) (Same c) (to-placed c) t k p p (refl, v),
    dynamic-matched (people c) (Placed c) (Round (chain c)) (Same c) (to-round c) t k p p (refl, v),
  )

  -- ---- plan

  without-nobody : (q : List ℕ) → Without 0 q
  without-nobody q i h = has-empty (get_or q i 0)

  -- a plan is got exactly if there is one
  pub plan-exact : ((q : List ℕ) × ((plan_of c).got ≡ some q)) ↔ HasPlan c
  plan-exact =
      let e = plan-exactly (chain c) 0 (steps c) [] in
      let f = planned-plan c 0 in (
        λ q. let r = f.0 (e.0 q) in (r.0, r.1),
        λ q. e.1 (f.1 (q.0, q.1, without-nobody q.0)),
      )

  line-extends : (A k : ℕ) (p q : List ℕ) → Valid c p → Line (people c) (Round (chain c)) A k p q → (us : List ℕ) × (q ≡ p ++ us)
  line-extends A zero p q v l = ([], sym l ∙ sym (append-nil p))
  line-extends A (suc k) p q v l =
      let s = round-placed c A p l.0 v l.1 in
      let r = line-extends A k l.0 q s.valid l.2 in
      (s.person ∷ r.0, r.1 ∙ ap (λ (x : List ℕ). x ++ r.0) s.next ∙ append_snoc p s.person r.0)

  first-line : (k : ℕ) (p q : List ℕ) → First (chain c) 0 k p q → Line (people c) (Round (chain c)) 0 k p q
  first-line zero p q f = f
  first-line (suc k) p q f = (f.0, f.1, first-line k f.0 q f.3)

  module _ (k : ℕ) (p q : List ℕ) (f : First (chain c) 0 (suc k) p q) (v : Valid c p) where
    abbrev placed : Placed c 0 p f.0
    placed = round-placed c 0 p f.0 v f.1

    rest : (us : List ℕ) × (q ≡ f.0 ++ us)
    rest = line-extends 0 k f.0 q placed.valid (first-line k f.0 q f.3)

    split : q ≡ p ++ (placed.person ∷ rest.0)
    split = rest.1 ∙ ap (λ (x : List ℕ). x ++ rest.0) placed.next ∙ append_snoc p placed.person rest.0

    longer : length f.0 ≡ suc (length p)
    longer = omega (arith, ap length placed.next, length-append p (placed.person ∷ []))

    -- a plan that goes on from p with v has no lower person there than the first plan
    lower-here : (u : ℕ) (us : List ℕ) → Valid c (p ++ (u ∷ us)) → length us ≡ k → placed.person ≤ u
    lower-here u us w l = go (dec_lt u placed.person)
      where
        e : p ++ (u ∷ []) ++ us ≡ p ++ u ∷ us
        e = append_snoc p u us

        line : Line (people c) (Round (chain c)) 0 k (p ++ (u ∷ [])) (p ++ u ∷ us)
        line =
            subst₂ (λ j x. Line (people c) (Round (chain c)) 0 j (p ++ (u ∷ [])) x) l e
            (valid-line c 0 us (p ++ (u ∷ [])) (subst (Valid c) (sym e) w) (without-nobody (p ++ (u ∷ []) ++ us)))

        step : Placed c 0 p (p ++ (u ∷ []))
        step = record { person = u; present = has-empty u; next = refl; valid = prefix-valid c (p ++ (u ∷ [])) us (subst (Valid c) (sym e) w) }

        go : Dec (u < placed.person) → placed.person ≤ u
        go (no n) = omega arith
        go (yes y) =
            let lower = f.2.lower (p ++ (u ∷ [])) (placed-round c 0 p (p ++ (u ∷ [])) step) in
            absurd (lower (omega (arith, placed-round-person c 0 p (p ++ (u ∷ [])) step, round-placed-person c 0 p f.0 v f.1)) (p ++ u ∷ us, line))

  -- a plan that begins as the first one does goes on with no lower person
  no_lower : (k : ℕ) (p q r : List ℕ) (i : ℕ) → First (chain c) 0 k p q → Valid c p → Valid c r → length r ≡ length p + k
      → length p ≤ i → i < length p + k → take i r ≡ take i q → get_or q i 0 ≤ get_or r i 0
  no_lower zero p q r i f v w l lo hi e = let z : ⊥ = omega arith in absurd z
  no_lower (suc k) p q r i f v w l lo hi e =
      let n = longer k p q f v in
      go (λ h. no_lower k f.0 q r i f.3 (placed k p q f v).valid w (omega arith) (omega arith) (omega arith) e) (lt-or-eq (length p) i lo)
    where
      begins : length p ≡ i → take i r ≡ p
      begins h = e ∙ ap₂ take (sym h) (split k p q f v) ∙ take-append_seam p _

      other : length p ≡ i → r ≡ p ++ (get_or r i 0 ∷ drop (suc i) r)
      other h = sym (take-append-drop i r) ∙ ap₂ ◌++◌ (begins h) (drop-cons r i 0 (omega arith))

      here : length p ≡ i → get_or q i 0 ≡ (placed k p q f v).person
      here h = ap₂ (λ (x : List ℕ) (j : ℕ). get_or x j 0) (split k p q f v) (sym h) ∙ get_or-append_seam p (placed k p q f v).person (rest k p q f v).0 0

      go : (length p < i → get_or q i 0 ≤ get_or r i 0) → (length p ≡ i) ⊎ (length p < i) → get_or q i 0 ≤ get_or r i 0
      go f' (inr h) = f' h
      go f' (inl h) =
          let low = lower-here k p q f v (get_or r i 0) (drop (suc i) r) (subst (Valid c) (other h) w) (omega (arith, length-drop (suc i) r)) in
          omega (arith, here h)

  plan-got : (q : List ℕ) → (plan_of c).got ≡ some q → Plan c q × FirstPlan c q
  plan-got q e =
      let f = plan-first (chain c) 0 (steps c) [] q e in
      let l = line-valid c 0 (steps c) [] q (start-valid c) (without-start c 0) (first-line (steps c) [] q f) in (
        record { valid = l.0; whole = omega (arith, l.2) },
        λ r s i h b. no_lower (steps c) [] q r i f (start-valid c) s.valid (omega (arith, s.whole)) (omega arith) (omega arith) b,
      )

  -- two first plans are one
  first-once : (q r : List ℕ) → Plan c q → FirstPlan c q → Plan c r → FirstPlan c r → q ≡ r
  first-once q r p f p' f' =
      sym (take_all (steps c) q (omega (arith, p.whole))) ∙ agree (steps c) (omega arith) ∙ take_all (steps c) r (omega (arith, p'.whole))
    where
      agree : (i : ℕ) → i ≤ steps c → take i q ≡ take i r
      agree zero h = refl
      agree (suc i) h =
          let e = agree i (omega arith) in
          let low = f r p' i h (sym e) in
          let high = f' q p i h e in
          let same : get_or q i 0 ≡ get_or r i 0 = omega arith in
          take-suc q i 0 (omega (arith, p.whole)) ∙ ap₂ (λ (l : List ℕ) (x : ℕ). l ++ (x ∷ [])) e same ∙ sym (take-suc r i 0 (omega (arith, p'.whole)))

  -- the plan got is the first in the walk's order
  pub plan-first-got : (q : List ℕ) → ((plan_of c).got ≡ some q) ↔ (Plan c q × FirstPlan c q)
  plan-first-got q = (plan-got q, back)
    where
      back : Plan c q × FirstPlan c q → (plan_of c).got ≡ some q
      back h =
          let g = plan-exact.1 (q, h.0) in
          let k = plan-got g.0 g.1 in
          g.1 ∙ ap some (first-once g.0 q k.0 k.1 h.0 h.1)

  -- ---- what a no shows is the first of its kind, so there is one

  -- a walk that says yes exactly if Y, and that shows an A with N A, shows A exactly if N A
  shown-exactly : (w : Search ℕ) {Y : Type 0} (N : ℕ → Type 0) → (Yes w → Y) → ((A : ℕ) → No w A → N A)
      → ((A : ℕ) → N A → Y → ⊥) → ((A B : ℕ) → N A → N B → A < B → ⊥) → (A : ℕ) → No w A ↔ N A
  shown-exactly w N yes' shows clash order A = (shows A, λ n. go n w.got refl)
    where
      same : N A → (B : ℕ) → N B → Dec (A < B) → Dec (B < A) → B ≡ A
      same n B m (yes l) d = absurd (order A B n m l)
      same n B m (no l) (yes g) = absurd (order B A m n g)
      same n B m (no l) (no g) = omega arith

      go : N A → (o : Option ℕ) → w.got ≡ o → w.got ≡ some A
      go n none e = absurd (clash A n (yes' e))
      go n (some B) e = e ∙ ap some (same n B (shows B e) (dec_lt A B) (dec_lt B A))

  -- ---- static

  -- yes exactly if for every set of at most t people there is a plan using none of them
  pub static-exact : (t : ℕ) → Yes (static_of c t) ↔ StaticYes c t
  static-exact t =
      let e = static-exactly (chain c) t (steps c) [] in (
        λ x A a. (planned-plan c A).0 (e.0 x A a),
        λ g. e.1 (λ A a. (planned-plan c A).1 (g A a)),
      )

  -- a set shown is the first set, in ascending number, of at most t people without whom there is no plan
  without-plan : (t A : ℕ) → StaticShown (chain c) t (steps c) [] A → StaticNo c t A
  without-plan t A s =
      record {
        absent = s.absent;
        unplanned = λ q p w. s.unplanned ((planned-plan c A).1 (q, p, w));
        first = λ B l a. (planned-plan c B).0 (s.first B l a);
      }

  static-shows : (t A : ℕ) → No (static_of c t) A → StaticNo c t A
  static-shows t A e = without-plan t A (static-shown (chain c) t (steps c) [] A e)

  -- not both: every set has a plan, and some set has none; and of two first sets without one neither is lower
  static-clash : (t A : ℕ) → StaticNo c t A → StaticYes c t → ⊥
  static-clash t A n y = let q = y A n.absent in n.unplanned q.0 q.1 q.2

  static-order : (t A B : ℕ) → StaticNo c t A → StaticNo c t B → A < B → ⊥
  static-order t A B n m l = let q = m.first A l n.absent in n.unplanned q.0 q.1 q.2

  pub static-no : (t A : ℕ) → No (static_of c t) A ↔ StaticNo c t A
  static-no t =
      shown-exactly (static_of c t) (StaticNo c t) (static-exact t).0 (static-shows t) (static-clash t) (static-order t)

  -- ---- decremental

  -- yes exactly if the desk wins
  pub decremental-exact : (t : ℕ) → Yes (decremental_of c t) ↔ DecrementalYes c t
  decremental-exact t =
      let e = decremental-exactly (chain c) t (steps c) 0 [] in
      let s = decremental-same t (steps c) 0 [] (start-valid c) in
      (λ x. s.0 (e.0 x), λ g. e.1 (s.1 g))

  -- a no shows the first set, in ascending number, that beats the desk when named before the first step
  decremental-shows : (t A : ℕ) → No (decremental_of c t) A → DecrementalNo c t A
  decremental-shows t A e = go (steps c) refl e
    where
      go : (k : ℕ) → steps c ≡ k → (decremental (chain c) t k 0 []).got ≡ some A → DecrementalNo c t A
      go zero h x = absurd (none-ne-some A (unfold decremental in x))
      go (suc k) h x =
          let s = decremental-shown (chain c) t k 0 [] A x in
          let left : steps c - 1 ≡ k = omega arith in
          record {
            step = omega arith;
            absent = s.absent;
            beats = λ g.
                let v = g.1.valid in
                s.beats (g.0, placed-round c A [] g.0 g.1, (decremental-same t k A g.0 v).1 (subst (λ j. Decremental (people c) (Placed c) t j A g.0) left g.2));
            first = λ B l a.
                let g = s.first B l a (contains-empty (people c) B) in
                let q = round-placed c B [] g.0 (start-valid c) g.1 in
                (g.0, q, subst (λ j. Decremental (people c) (Placed c) t j B g.0) (sym left) ((decremental-same t k B g.0 q.valid).0 g.2));
          }

  pub decremental-no : (t A : ℕ) → No (decremental_of c t) A ↔ DecrementalNo c t A
  decremental-no t =
      shown-exactly (decremental_of c t) (DecrementalNo c t) (decremental-exact t).0 (decremental-shows t)
      (λ A n y. n.beats (answer A n y))
      (λ A B n m l. n.beats (m.first A l n.absent))
    where
      answer : (A : ℕ) → DecrementalNo c t A → DecrementalYes c t → Answers c t A
      answer A n y = go (steps c) refl y
        where
          go : (k : ℕ) → steps c ≡ k → Decremental (people c) (Placed c) t k 0 [] → Answers c t A
          go zero h g = let s = n.step in let z : ⊥ = omega arith in absurd z
          go (suc k) h g =
              let left : k ≡ steps c - 1 = omega arith in
              let r = g A n.absent (contains-empty (people c) A) in
              (r.0, r.1, subst (λ j. Decremental (people c) (Placed c) t j A r.0) left r.2)

  -- ---- one-shot

  -- yes exactly if the desk wins
  pub one_shot-exact : (t : ℕ) → Yes (one_shot_of c t) ↔ OneShotYes c t
  one_shot-exact t =
      let e = one_shot-exactly (chain c) t (steps c) [] in
      let s = one_shot-same t (steps c) [] (start-valid c) in
      (λ x. s.0 (e.0 x), λ g. e.1 (s.1 g))

  -- one-shot yes gives static yes
  pub one_shot-static : (t : ℕ) → Yes (one_shot_of c t) → Yes (static_of c t)
  one_shot-static t e =
      (static-exactly (chain c) t (steps c) []).1 (one_shot→static (people c) (Round (chain c)) t (steps c) [] ((one_shot-exactly (chain c) t (steps c) []).0 e))

  -- with k steps left after the first, the arena's answer to a pass is the scope's
  pass_same : (t k : ℕ) → steps c ≡ suc k → PassAnswered (chain c) t k [] ↔ AnswersPass c t
  pass_same t k h =
      let left : steps c - 1 ≡ k = omega arith in (
        λ g.
            let q = round-placed c 0 [] g.0 (start-valid c) g.1 in
            (g.0, q, subst (λ j. OneShot (people c) (Placed c) t j g.0) (sym left) ((one_shot-same t k g.0 q.valid).0 g.2)),
        λ g. (g.0, placed-round c 0 [] g.0 g.1, (one_shot-same t k g.0 g.1.valid).1 (subst (λ j. OneShot (people c) (Placed c) t j g.0) left g.2)),
      )

  -- a no shows nobody for a pass that beats the desk, else the first set that beats it when struck before the first step
  one_shot-shows : (t A : ℕ) → No (one_shot_of c t) A → OneShotNo c t A
  one_shot-shows t A e = go (steps c) refl e
    where
      go : (k : ℕ) → steps c ≡ k → (one_shot (chain c) t k []).got ≡ some A → OneShotNo c t A
      go zero h x = absurd (none-ne-some A (unfold one_shot in x))
      go (suc k) h x = at (one_shot-shown (chain c) t k [] A x)
        where
          at : OneShotShown (chain c) t k [] A → OneShotNo c t A
          at (inl s) =
              record {
                step = omega arith;
                absent = subst (Absent (people c) t) (sym s.0) (nobody (people c) t);
                beats = inl (s.0, λ g. s.1 ((pass_same t k h).1 g));
              }
          at (inr s) =
              let n = without-plan t A (subst (λ j. StaticShown (chain c) t j [] A) (sym h) s.1) in
              record { step = omega arith; absent = n.absent; beats = inr ((pass_same t k h).0 s.0, n) }

  pub one_shot-no : (t A : ℕ) → No (one_shot_of c t) A ↔ OneShotNo c t A
  one_shot-no t = shown-exactly (one_shot_of c t) (OneShotNo c t) (one_shot-exact t).0 (one_shot-shows t) clash (λ A B n m l. order A B n.beats m.beats l)
    where
      -- a yes answers the pass and every strike
      answers : (0 < steps c) → OneShotYes c t → AnswersPass c t
      answers z y = go (steps c) refl y
        where
          go : (k : ℕ) → steps c ≡ k → OneShot (people c) (Placed c) t k [] → AnswersPass c t
          go zero h g = let n : ⊥ = omega arith in absurd n
          go (suc k) h g =
              let left : k ≡ steps c - 1 = omega arith in
              let r = g.0 in
              (r.0, r.1, subst (λ j. OneShot (people c) (Placed c) t j r.0) left r.2)

      clash : (A : ℕ) → OneShotNo c t A → OneShotYes c t → ⊥
      clash A n y = at n.beats
        where
          at : FirstStrike c t A → ⊥
          at (inl h) = h.1 (answers n.step y)
          at (inr h) = static-clash t A h.1 ((static-exact t).0 (one_shot-static t ((one_shot-exact t).1 y)))

      order : (A B : ℕ) → FirstStrike c t A → FirstStrike c t B
          → A < B → ⊥
      order A B n (inl m) l = let e = m.0 in omega arith
      order A B (inl n) (inr m) l = n.1 m.0
      order A B (inr n) (inr m) l = static-order t A B n.1 m.1 l

  -- nobody is shown exactly if a pass beats the desk: an empty strike never does where a pass does not
  pub one_shot-pass : (t A : ℕ) → OneShotNo c t A → (A ≡ 0) ↔ (AnswersPass c t → ⊥)
  one_shot-pass t A n = (λ e g. go (steps c) A refl e ((one_shot-no t A).1 n) g, λ f. back f n.beats)
    where
      go : (k B : ℕ) → steps c ≡ k → B ≡ 0 → (one_shot (chain c) t k []).got ≡ some B → AnswersPass c t → ⊥
      go zero B h e x g = none-ne-some B (unfold one_shot in x)
      go (suc k) B h e x g = empty-is-pass (chain c) t k [] B e (one_shot-shown (chain c) t k [] B x) ((pass_same t k h).1 g)

      back : (AnswersPass c t → ⊥) → FirstStrike c t A → A ≡ 0
      back f (inl h) = h.0
      back f (inr h) = absurd (f h.0)

  -- ---- dynamic

  -- yes exactly if the desk wins
  pub dynamic-exact : (t : ℕ) → Yes (dynamic_of c t) ↔ DynamicYes c t
  dynamic-exact t =
      let e = dynamic-exactly (chain c) t (steps c) [] in
      let s = dynamic-same t (steps c) [] (start-valid c) in
      (λ x. s.0 (e.0 x), λ g. e.1 (s.1 g))

  -- ---- dynamic yes gives decremental yes, that gives one-shot yes, that gives static yes, and that a plan

  pub dynamic-decremental : (t : ℕ) → Yes (dynamic_of c t) → Yes (decremental_of c t)
  dynamic-decremental t e =
      (decremental-exactly (chain c) t (steps c) 0 []).1 (dynamic→decremental (people c) (Round (chain c)) t (steps c) 0 [] ((dynamic-exactly (chain c) t (steps c) []).0 e))

  pub decremental-one_shot : (t : ℕ) → Yes (decremental_of c t) → Yes (one_shot_of c t)
  decremental-one_shot t e =
      (one_shot-exactly (chain c) t (steps c) []).1 (decremental→one_shot (people c) (Round (chain c)) t (steps c) [] ((decremental-exactly (chain c) t (steps c) 0 []).0 e))

  pub static-plan : (t : ℕ) → Yes (static_of c t) → (q : List ℕ) × ((plan_of c).got ≡ some q)
  static-plan t e =
      (plan-exactly (chain c) 0 (steps c) []).1 (static→planned (people c) (Round (chain c)) t (steps c) [] ((static-exactly (chain c) t (steps c) []).0 e))
