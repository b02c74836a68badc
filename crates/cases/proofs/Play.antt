-- Playing the dynamic game for a case: what the verdict counts, what advice and away name at any position, and that a yes and a no can be played.
use mathlib.Core.Path.{◌≡◌, refl, sym, ap, ◌∙◌, subst}
use mathlib.Core.Logic.{◌↔◌}
use mathlib.Core.Option.{Option, none, some, none-ne-some, some-ne-none, some-injective}
use mathlib.Core.Bool.{Bool, true, false, true≢false}
use mathlib.Core.List.{List, [], ◌∷◌, ◌++◌}
use Prim.Native.Nat.{ℕ, zero, suc, ◌+◌, ◌-◌, ◌^◌, ◌≤◌, ◌<◌}
use native.Mathlib.Nat.{not-suc-le-zero}
use native.Mathlib.Decide.{dec_lt}
use native.Mathlib.Omega.{arith}
use lib.ListN.{length, get_or, take, drop, length-append, length-take, take-append-drop}
use lib.Seq.{take-suc, take-length, get_or_at, append_snoc}
use Rattle.sets.specs.Sets.{has, size}
use Rattle.sets.proofs.Bits.{has-empty}
use Rattle.sets.proofs.Counting.{has-set_of, size-set_of, set_of-lt, count-ext, set-ext}
use Rattle.games.specs.Walks.{Search, Yes, No, dynamic, advice, away}
use Rattle.games.specs.Arena.{Round}
use Rattle.games.specs.Games.{Absent, Dynamic}
use Rattle.games.specs.Good.{can_leave, good, good_count, good_people}
use Rattle.games.specs.Play.{AllAbsent}
use Rattle.games.proofs.Searches.{can_leave-round, round-can_leave}
use Rattle.games.proofs.Good.{dynamic-exactly, dynamic-bad, dynamic-shown, good-exactly, good_more, good-few, good-away, good_people-absent}
use Rattle.games.proofs.Play.{advice-some, advice-none, good-advised, away-some, away-none}
use Rattle.cases.specs.declared.Case.{Case}
use Rattle.cases.specs.Case.{people, steps}
use Rattle.cases.specs.Plans.{Valid, Plan}
use Rattle.cases.specs.Questions.{Placed}
use Rattle.cases.specs.Chain.{chain, person_of, dynamic_of, advice_at, away_at}
use Rattle.cases.specs.Play.{WinsFrom, LeavesGood, GoodSet, Names, onward, follow, Dodges, Present}
use Rattle.cases.proofs.Rounds.{offered-in, start-valid, prefix-valid, valid-short, round-placed, placed-round, round-placed-person, placed-round-person, snoc-each}
use Rattle.cases.proofs.Answers.{dynamic-same}

-- two tests that hold together are equal
both_ways : (a b : Bool) → (a ≡ true → b ≡ true) → (b ≡ true → a ≡ true) → a ≡ b
both_ways true b f h = sym (f refl)
both_ways false true f h = h refl
both_ways false false f h = refl

module _ (c : Case) where
  -- a valid position is good, by the walk's count, exactly if the desk wins from it
  pub good-wins : (t k : ℕ) (p : List ℕ) → Valid c p → (good (chain c) t k p ≡ true) ↔ Dynamic (people c) (Placed c) t k p
  good-wins t k p v =
      let e = good-exactly (chain c) t k p in
      let s = dynamic-same c t k p v in
      (λ x. s.0 (e.0 x), λ g. e.1 (s.1 g))

  -- ---- one position, not full

  module _ (t k : ℕ) (p : List ℕ) (v : Valid c p) (left : steps c ≡ length p + suc k) where
    after_one : (u : ℕ) → steps c - length (p ++ (u ∷ [])) ≡ k
    after_one u = omega (arith, length-append p (u ∷ []))

    abbrev leaves : ℕ → Bool
    leaves u = can_leave (chain c) (good (chain c) t k) p u

    leaves-good : (u : ℕ) → u < people c → (leaves u ≡ true) ↔ LeavesGood c t p u
    leaves-good u h = (there, back)
      where
        there : leaves u ≡ true → LeavesGood c t p u
        there e =
            let r = can_leave-round (chain c) (good (chain c) t k) 0 p u h (has-empty u) e in
            let s = round-placed c 0 p r.0 v r.1 in
            let q : r.0 ≡ p ++ (u ∷ []) = s.next ∙ ap (λ (x : ℕ). p ++ (x ∷ [])) (round-placed-person c 0 p r.0 v r.1 ∙ r.3) in
            let w : Valid c (p ++ (u ∷ [])) = subst (Valid c) q s.valid in
            (w, subst (λ j. Dynamic (people c) (Placed c) t j (p ++ (u ∷ []))) (sym (after_one u)) ((good-wins t k (p ++ (u ∷ [])) w).0 (ap (good (chain c) t k) (sym q) ∙ r.2)))

        back : LeavesGood c t p u → leaves u ≡ true
        back g =
            let s : Placed c 0 p (p ++ (u ∷ [])) = record { person = u; present = has-empty u; next = refl; valid = g.0 } in
            let r = placed-round c 0 p (p ++ (u ∷ [])) s in
            let good-after = (good-wins t k (p ++ (u ∷ [])) g.0).1 (subst (λ j. Dynamic (people c) (Placed c) t j (p ++ (u ∷ []))) (after_one u) g.1) in
            ap leaves (sym (placed-round-person c 0 p (p ++ (u ∷ [])) s)) ∙ round-can_leave (chain c) (good (chain c) t k) 0 p (p ++ (u ∷ [])) r good-after

    -- the set of all good people is what the walk counts
    pub good_people-set : GoodSet c t p (good_people (chain c) t k p)
    unfolding good_people
    good_people-set u h =
        let e = has-set_of leaves (people c) u h in
        let g = leaves-good u h in
        (λ x. g.0 (sym e ∙ x), λ x. e ∙ g.1 x)

    good_people-size : size (people c) (good_people (chain c) t k p) ≡ good_count (chain c) t k p
    unfolding good_people
    good_people-size = size-set_of leaves (people c)

    -- any set of exactly the good people has as many members
    set-size : (S : ℕ) → GoodSet c t p S → size (people c) S ≡ good_count (chain c) t k p
    unfolding size
    set-size S g = count-ext (has S) leaves (people c) (λ u h. both_ways (has S u) (leaves u) (λ x. (leaves-good u h).1 ((g u h).0 x)) (λ x. (g u h).1 ((leaves-good u h).0 x)))

    -- and is that set
    good-set : (S : ℕ) → S < 2 ^ people c → GoodSet c t p S → S ≡ good_people (chain c) t k p
    unfolding good_people
    good-set S h g =
        set-ext (people c) S (good_people (chain c) t k p) h (set_of-lt leaves (people c))
        (λ u l. both_ways (has S u) (leaves u) (λ x. (leaves-good u l).1 ((g u l).0 x)) (λ x. (g u l).1 ((leaves-good u l).0 x)) ∙ sym (has-set_of leaves (people c) u l))

    -- The count of good people agrees with the game over every set of at most t absentees before every step, at every position.
    pub counted : Dynamic (people c) (Placed c) t (suc k) p ↔ ((S : ℕ) × GoodSet c t p S × (t < size (people c) S))
    counted = (
      λ g. (good_people (chain c) t k p, good_people-set, rw good_people-size ((good_more (chain c) t k p).0 ((good-wins t (suc k) p v).1 g))),
      λ s. (good-wins t (suc k) p v).0 ((good_more (chain c) t k p).1 (rw (set-size s.0 s.1) at s.2)),
    )

    -- the walks at p, by the steps left
    away-left : away_at c t p ≡ away (chain c) t (suc k) p
    away-left = ap (λ (j : ℕ). away (chain c) t j p) (omega arith)

    advice-left : (A : ℕ) → (advice_at c t A p).got ≡ person_of (advice (chain c) t (suc k) A p).got
    advice-left A = ap (λ (j : ℕ). person_of (advice (chain c) t j A p).got) (omega arith)

    -- Away names all people whose placing leaves a good position, exactly if they are at most t.
    pub away-names : (A : ℕ) → ((away_at c t p).got ≡ some A) ↔ (Absent (people c) t A × GoodSet c t p A)
    unfolding away
    away-names A = (there, back)
      where
        there : (away_at c t p).got ≡ some A → Absent (people c) t A × GoodSet c t p A
        there e =
            let s = dynamic-shown (chain c) t k p A (ap (λ (w : Search ℕ). w.got) (sym away-left) ∙ e) in
            (s.absent, subst (GoodSet c t p) (sym s.all) good_people-set)

        back : Absent (people c) t A × GoodSet c t p A → (away_at c t p).got ≡ some A
        back h =
            let n = set-size A h.1 in
            let e : A ≡ good_people (chain c) t k p = good-set A h.0.known h.1 in
            ap (λ (w : Search ℕ). w.got) away-left ∙ (away-some (chain c) t k p).1 (omega (arith, h.0.few)) ∙ ap some (sym e)

    -- and "none" exactly if they are more
    pub away-none-more : ((away_at c t p).got ≡ none) ↔ ((S : ℕ) × GoodSet c t p S × (t < size (people c) S))
    away-none-more =
        let e = away-none (chain c) t k p in (
          λ x. (good_people (chain c) t k p, good_people-set, rw good_people-size (e.0 (ap (λ (w : Search ℕ). w.got) (sym away-left) ∙ x))),
          λ s. ap (λ (w : Search ℕ). w.got) away-left ∙ e.1 (rw (set-size s.0 s.1) at s.2),
        )

    -- Advice names the lowest present person whose placing leaves a good position.
    advised-names : (A : ℕ) (a : ℕ × ℕ) → (advice (chain c) t (suc k) A p).got ≡ some a → (a.1 ≡ a.0) × Names c t p A a.0
    advised-names A a e =
        let d = advice-some (chain c) t k A p a e in
        let o = offered-in c p a.0 a.1 d.offered in
        let r : Round (chain c) A p d.to = record { person = a.0; listed = d.listed; present = d.present; move = a.1; offered = d.offered; leaves = d.leaves } in (
          o.0,
          record {
            listed = d.listed;
            present = d.present;
            wins = (leaves-good a.0 d.listed).0 (round-can_leave (chain c) (good (chain c) t k) A p d.to r d.wins);
            lowest = λ w l h g. true≢false (sym ((leaves-good w (omega (arith, d.listed))).1 g) ∙ d.lowest w l h);
          },
        )

    pub advice-names : (A u : ℕ) → ((advice_at c t A p).got ≡ some u) ↔ Names c t p A u
    advice-names A u = (λ e. there (advice (chain c) t (suc k) A p).got refl (sym (advice-left A) ∙ e), λ n. advice-left A ∙ back n (advice (chain c) t (suc k) A p).got refl)
      where
        there : (o : Option (ℕ × ℕ)) → (advice (chain c) t (suc k) A p).got ≡ o → person_of (advice (chain c) t (suc k) A p).got ≡ some u → Names c t p A u
        there none q e = absurd (none-ne-some u (sym (ap person_of q) ∙ e))
        there (some a) q e = subst (Names c t p A) (some-injective a.0 u (sym (ap person_of q) ∙ e)) (advised-names A a q).1

        same : (w : ℕ) → Names c t p A w → Names c t p A u → Dec (w < u) → Dec (u < w) → w ≡ u
        same w m n (yes l) d = absurd (n.lowest w l m.present m.wins)
        same w m n (no l) (yes g) = absurd (m.lowest u g n.present n.wins)
        same w m n (no l) (no g) = omega arith

        back : Names c t p A u → (o : Option (ℕ × ℕ)) → (advice (chain c) t (suc k) A p).got ≡ o → person_of (advice (chain c) t (suc k) A p).got ≡ some u
        back n none q =
            absurd (true≢false (sym ((leaves-good u n.listed).1 n.wins) ∙ (advice-none (chain c) t k A p).0 q u n.listed n.present))
        back n (some a) q = ap person_of q ∙ ap some (same a.0 (advised-names A a q).1 n (dec_lt a.0 u) (dec_lt u a.0))

    -- and "none" exactly if there is none
    pub advice-names-none : (A : ℕ) → ((advice_at c t A p).got ≡ none) ↔ ((u : ℕ) → u < people c → has A u ≡ false → LeavesGood c t p u → ⊥)
    advice-names-none A =
        let e = advice-none (chain c) t k A p in (
          λ x u l h g. true≢false (sym ((leaves-good u l).1 g) ∙ e.0 (nobody (advice (chain c) t (suc k) A p).got (sym (advice-left A) ∙ x)) u l h),
          λ f. advice-left A ∙ ap person_of (e.1 (λ u l h. not-leaves u l (f u l h))),
        )
      where
        nobody : (o : Option (ℕ × ℕ)) → person_of o ≡ none → o ≡ none
        nobody none x = refl
        nobody (some a) x = absurd (some-ne-none a.0 x)

        not-leaves : (u : ℕ) → u < people c → (LeavesGood c t p u → ⊥) → leaves u ≡ false
        not-leaves u l f = go (leaves u) refl
          where
            go : (b : Bool) → leaves u ≡ b → b ≡ false
            go true q = absurd (f ((leaves-good u l).0 q))
            go false q = refl

    -- at a position from which the desk wins it names somebody, and the desk wins on
    win-advised : (A : ℕ) → good (chain c) t (suc k) p ≡ true → Absent (people c) t A → (u : ℕ) × ((advice_at c t A p).got ≡ some u) × Names c t p A u
    win-advised A g a =
        let x = good-advised (chain c) t k A p g a in
        (x.0.0, advice-left A ∙ ap person_of x.1, (advised-names A x.0 x.1).1)

  -- ---- the verdict

  -- at every valid position the walk's verdict is the game's
  pub away-none-wins : (t : ℕ) (p : List ℕ) → Valid c p → Yes (away_at c t p) ↔ WinsFrom c t p
  unfolding away
  away-none-wins t p v =
      let e = dynamic-exactly (chain c) t (steps c - length p) p in
      let s = dynamic-same c t (steps c - length p) p v in
      (λ x. (v, s.0 (e.0 x)), λ g. e.1 (s.1 g.1))

  -- a no shows exactly the good people at the start, at most t of them
  pub dynamic_no : (t A : ℕ) → No (dynamic_of c t) A ↔ ((0 < steps c) × Absent (people c) t A × GoodSet c t [] A)
  unfolding dynamic away
  dynamic_no t A = go (steps c) refl
    where
      go : (k : ℕ) → steps c ≡ k → ((dynamic (chain c) t k []).got ≡ some A) ↔ ((0 < steps c) × Absent (people c) t A × GoodSet c t [] A)
      go zero h = (λ x. absurd (none-ne-some A x), λ y. let z : ⊥ = omega arith in absurd z)
      go (suc k) h =
          let left : steps c ≡ length {A = ℕ} [] + suc k = omega arith in
          let n = away-names t k [] (start-valid c) left A in
          let w : (away_at c t []).got ≡ (away (chain c) t (suc k) []).got = ap (λ (w : Search ℕ). w.got) (away-left t k [] (start-valid c) left) in (
            λ x. let r = n.0 (w ∙ x) in (omega arith, r.0, r.1),
            λ y. sym w ∙ n.1 (y.1, y.2),
          )

  -- ---- a yes is played

  played : (t : ℕ) (As Bs : List ℕ) (p : List ℕ) → WinsFrom c t p → AllAbsent (chain c) t As → Present (Bs ++ As) p → length p ≡ length Bs → steps c ≡ length p + length As
      → (q : List ℕ) × (follow c t As p ≡ some q) × Plan c q × Present (Bs ++ As) q
  unfolding follow
  played t [] Bs p w a h l e = (p, refl, record { valid = w.0; whole = omega arith }, h)
  played t (A ∷ As) Bs p w a h l e =
      let left : steps c - length p ≡ suc (length As) = omega arith in
      let g = (good-wins t (suc (length As)) p w.0).1 (subst (λ k. Dynamic (people c) (Placed c) t k p) left w.1) in
      let x = win-advised t (length As) p w.0 e A g a.0 in
      let u : ℕ = x.0 in
      let there : get_or (Bs ++ A ∷ As) (length p) 0 ≡ A = get_or_at Bs A As 0 (length p) (sym l) in
      let here : Present (Bs ++ A ∷ As) (p ++ (u ∷ [])) =
      snoc-each c (λ v i. has (get_or (Bs ++ A ∷ As) i 0) v ≡ false) p u h (ap (λ (B : ℕ). has B u) there ∙ x.2.present) in
      let one : Bs ++ (A ∷ []) ++ As ≡ Bs ++ A ∷ As = append_snoc Bs A As in
      let r = played t As (Bs ++ (A ∷ [])) (p ++ (u ∷ [])) x.2.wins a.1 (subst (λ Xs. Present Xs (p ++ (u ∷ []))) (sym one) here)
      (omega (arith, length-append p (u ∷ []), length-append Bs (A ∷ []))) (omega (arith, length-append p (u ∷ []))) in
      (r.0, ap (onward c t (λ v. follow c t As (p ++ (v ∷ [])))) x.1 ∙ r.1, r.2, subst (λ Xs. Present Xs r.0) one r.3)

  -- A yes can be played: under any absences of at most t people, one set a round, following the advice gives a valid plan in as many rounds as
  -- steps, everybody present in their round.
  pub yes-is-played : (t : ℕ) (As : List ℕ) → Yes (dynamic_of c t) → AllAbsent (chain c) t As → length As ≡ steps c
      → (q : List ℕ) × (follow c t As [] ≡ some q) × Plan c q × Present As q
  yes-is-played t As e a l =
      let all_left : steps c ≡ steps c - 0 = omega arith in
      let g = (dynamic-same c t (steps c) [] (start-valid c)).0 ((dynamic-exactly (chain c) t (steps c) []).0 e) in
      played t As [] [] (start-valid c, subst (λ k. Dynamic (people c) (Placed c) t k []) all_left g) a (λ i x. absurd (not-suc-le-zero x)) refl (omega arith)

  -- ---- a no is played

  -- each beginning of a position that a desk comes to against away is not good
  stays-bad : (t : ℕ) (q : List ℕ) → good (chain c) t (steps c) [] ≡ false → Valid c q → Dodges c t q → (i : ℕ) → i ≤ length q
      → good (chain c) t (steps c - i) (take i q) ≡ false
  stays-bad t q e v d zero h = subst (λ k. good (chain c) t k [] ≡ false) (omega arith) e
  stays-bad t q e v d (suc i) h = one_more (steps c - suc i) (omega (arith, short)) (stays-bad t q e v d i (omega arith))
    where
      u : ℕ
      u = get_or q i 0

      short : length q ≤ steps c
      short = valid-short c q v

      prefix : (j : ℕ) → Valid c (take j q)
      prefix j = prefix-valid c (take j q) (drop j q) (subst (Valid c) (sym (take-append-drop j q)) v)

      grown : take (suc i) q ≡ take i q ++ (u ∷ [])
      grown = take-suc q i 0 h

      one_more : (k : ℕ) → steps c - i ≡ suc k → good (chain c) t (steps c - i) (take i q) ≡ false → good (chain c) t k (take (suc i) q) ≡ false
      one_more k left b =
          let few = (good-few (chain c) t k (take i q)).0 (subst (λ j. good (chain c) t j (take i q) ≡ false) left b) in
          let named : (away_at c t (take i q)).got ≡ some (good_people (chain c) t k (take i q)) =
          ap (λ (j : ℕ). (away (chain c) t j (take i q)).got) (omega (arith, length-take i q)) ∙ (away-some (chain c) t k (take i q)).1 few in
          let s : Placed c (good_people (chain c) t k (take i q)) (take i q) (take (suc i) q) =
          record { person = u; present = d i h (good_people (chain c) t k (take i q)) named; next = grown; valid = prefix (suc i) } in
          good-away (chain c) t k (take i q) (take (suc i) q) (placed-round c (good_people (chain c) t k (take i q)) (take i q) (take (suc i) q) s)

  -- A no can be played: whatever valid position a desk comes to with the people that away names away in each round, it is short of a plan, and
  -- away again names a set of at most t people there.
  pub no-is-played : (t A : ℕ) (q : List ℕ) → No (dynamic_of c t) A → Valid c q → Dodges c t q
      → (length q < steps c) × ((B : ℕ) × ((away_at c t q).got ≡ some B) × Absent (people c) t B)
  no-is-played t A q e v d = go (steps c - length q) refl bad
    where
      bad : good (chain c) t (steps c - length q) q ≡ false
      bad =
          subst (λ x. good (chain c) t (steps c - length q) x ≡ false) (take-length q)
          (stays-bad t q (dynamic-bad (chain c) t (steps c) [] A e) v d (length q) (omega arith))

      go : (k : ℕ) → steps c - length q ≡ k → good (chain c) t k q ≡ false
          → (length q < steps c) × ((B : ℕ) × ((away_at c t q).got ≡ some B) × Absent (people c) t B)
      go zero h b = absurd (true≢false (unfold good in b))
      go (suc k) h b =
          let few = (good-few (chain c) t k q).0 b in (
            omega arith,
            (good_people (chain c) t k q, ap (λ (j : ℕ). (away (chain c) t j q).got) h ∙ (away-some (chain c) t k q).1 few, good_people-absent (chain c) t k q few),
          )

  -- so no valid plan comes through
  pub no-plan-dodges : (t A : ℕ) (q : List ℕ) → No (dynamic_of c t) A → Plan c q → Dodges c t q → ⊥
  no-plan-dodges t A q e p d = let l = (no-is-played t A q e p.valid d).0 in let w = p.whole in omega arith
