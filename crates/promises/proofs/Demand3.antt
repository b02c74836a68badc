-- Demand 3: a verdict can be acted on, step by step, with the public calls.
use mathlib.Core.Path.{◌≡◌, refl, sym, ap, ◌∙◌, subst}
use mathlib.Core.Logic.{◌↔◌}
use mathlib.Core.Option.{Option, none, some}
use mathlib.Core.Bool.{false}
use mathlib.Core.List.{List, [], ◌∷◌, ◌++◌, map, append_assoc}
use Prim.Native.Nat.{ℕ, suc, ◌-◌, ◌+◌, ◌^◌, ◌<◌}
use native.Mathlib.Nat.{not-suc-le-zero}
use native.Mathlib.Omega.{arith}
use lib.ListN.{length, get_or, take, drop, length-append, length-map, length-take, take-append-drop}
use lib.Seq.{get_or_at}
use Rattle.sets.specs.Sets.{has, size}
use Rattle.sets.specs.Stored.{width}
use Rattle.games.specs.Games.{Absent, Dynamic}
use Rattle.cases.specs.declared.Case.{Case}
use Rattle.cases.specs.Case.{people, steps}
use Rattle.cases.specs.Plans.{Valid, Plan}
use Rattle.cases.specs.Questions.{Placed}
use Rattle.cases.specs.Play.{WinsFrom, LeavesGood, GoodSet, Names, Dodges}
use Rattle.cases.specs.Chain.{advice_at, away_at}
use Rattle.cases.proofs.Rounds.{may-known, start-valid, snoc-each, last-able, prefix-valid, valid-short}
use Rattle.cases.proofs.Positions.{map-append}
use Rattle.cases.proofs.Answers.{dynamic-exact, dynamic-decremental, decremental-one_shot, one_shot-static, static-plan}
use Rattle.cases.proofs.Play.{away-names, away-none-more, advice-names, advice-names-none, away-none-wins}
use Rattle.cases.proofs.Play as play
use Rattle.refusals.specs.Refusals.{Good}
use Rattle.asking.specs.Asking.{judged_question, judged_advice, judged_away}
use Rattle.asking.proofs.Accepted.{GoodPosition}
use Rattle.asking.proofs.Calls.{advice-good, away-good}
use Rattle.planner.specs.declared.Question.TheVariants.{Static, Decremental, OneShot, Dynamic as Dyn}
use Rattle.planner.specs.Calls.{plan_call, static_call, decremental_call, one_shot_call, dynamic_call, advice_call, away_call}
use Rattle.planner.specs.Told.{plan_told, verdict_told, advice_told, away_told}
use Rattle.promises.specs.Ends.{Ends}
use Rattle.promises.specs.Rounds.{Round, AllAbsent, Advises, AdvisedWithin, EachWithin, Followed, AwayWithin, Dodged, AllPresent}
use Rattle.promises.proofs.Telling.{ends-within, advice-told, away-told}
use Rattle.promises.proofs.Accepting.{good-position, absent-word, advice-accepts, away-accepts}
use Rattle.promises.proofs.Demand2.{plan-came, question-came, advice-came, away-came}

module _ (c : Case) (t : ℕ) where
  -- a call of advice or away that ends is at a valid position that is not full
  left_over : (p : List ℕ) → GoodPosition c p → steps c ≡ length p + suc (steps c - length p - 1)
  left_over p g = omega (arith, g.short)

  -- ---- whom advice names, and when it is "none"

  pub advice-names-lowest : (p : List ℕ) (A l u : ℕ) → A < 2 ^ width → Ends (advice_told (advice_call c p t A l)) (some u) → Names c t p A u
  advice-names-lowest p A l u w e =
      let k = advice-came c p t A l (some u) e.0 e.1 in
      let g = (advice-good c p t A w k.accepted).2 in
      (advice-names c t (steps c - length p - 1) p g.valid (left_over p g) A u).0 k.got

  pub advice-none-exactly : (p : List ℕ) (A l : ℕ) (b : Option ℕ) → A < 2 ^ width → Ends (advice_told (advice_call c p t A l)) b
      → (b ≡ none) ↔ ((u : ℕ) → u < people c → has A u ≡ false → LeavesGood c t p u → ⊥)
  advice-none-exactly p A l b w e =
      let k = advice-came c p t A l b e.0 e.1 in
      let g = (advice-good c p t A w k.accepted).2 in
      let x = advice-names-none c t (steps c - length p - 1) p g.valid (left_over p g) A in
      (λ y. x.0 (k.got ∙ y), λ f. sym k.got ∙ x.1 f)

  -- ---- whom away names, and when it is "none"

  pub away-names-good : (p : List ℕ) (l A : ℕ) → Ends (away_told (away_call c p t l)) (some A) → Absent (people c) t A × GoodSet c t p A
  away-names-good p l A e =
      let k = away-came c p t l (some A) e.0 e.1 in
      let g = (away-good c p t k.accepted).2 in
      (away-names c t (steps c - length p - 1) p g.valid (left_over p g) A).0 k.got

  pub away-none-exactly : (p : List ℕ) (l : ℕ) (b : Option ℕ) → Ends (away_told (away_call c p t l)) b
      → (b ≡ none) ↔ ((S : ℕ) × GoodSet c t p S × (t < size (people c) S))
  away-none-exactly p l b e =
      let k = away-came c p t l b e.0 e.1 in
      let g = (away-good c p t k.accepted).2 in
      let x = away-none-more c t (steps c - length p - 1) p g.valid (left_over p g) in
      (λ y. x.0 (k.got ∙ y), λ f. sym k.got ∙ x.1 f)

  -- the count of good people agrees with the game, at every position that away accepts
  pub away-none-agrees : (p : List ℕ) (l : ℕ) (b : Option ℕ) → Ends (away_told (away_call c p t l)) b → (b ≡ none) ↔ WinsFrom c t p
  away-none-agrees p l b e =
      let k = away-came c p t l b e.0 e.1 in
      let g = (away-good c p t k.accepted).2 in
      let x = away-none-wins c t p g.valid in
      (λ y. x.0 (k.got ∙ y), λ f. sym k.got ∙ x.1 f)

  -- ---- A yes can be played

  -- at a position from which the desk wins, and which is not full, a call of advice with at most t absentees that does not stop at its limit names
  -- somebody, and the desk wins on
  win-advised : judged_question c t ≡ Good → (p : List ℕ) (r : Round) → Absent (people c) t r.absent → AdvisedWithin c t p r → WinsFrom c t p → length p < steps c
      → (u : ℕ) × Advises c t p r (some u) × Names c t p r.absent u
  win-advised good p r a f h s = at (advice_at c t r.absent p).got ended
    where
      g : GoodPosition c p
      g = good-position c p h.0 s

      ended : Ends (advice_told (advice_call c p t r.absent r.limit)) (advice_at c t r.absent p).got
      ended =
          ends-within _ (judged_advice c p t r.absent) r.limit (advice_at c t r.absent p) (advice-told c p t r.absent r.limit)
          (advice-accepts c t p r.absent good g a) f

      at : (b : Option ℕ) → Ends (advice_told (advice_call c p t r.absent r.limit)) b → (u : ℕ) × Advises c t p r (some u) × Names c t p r.absent u
      at (some u) e = (u, e, advice-names-lowest p r.absent r.limit u (absent-word c t r.absent good a) e)
      at none e =
          let left : steps c - length p ≡ suc (steps c - length p - 1) = omega arith in
          let x = subst (λ n. Dynamic (people c) (Placed c) t n p) left h.1 r.absent a in
          let u : ℕ = x.1.person in
          let v : Valid c (p ++ (u ∷ [])) = subst (Valid c) x.1.next x.1.valid in
          let on : steps c - length p - 1 ≡ steps c - length (p ++ (u ∷ [])) = omega (arith, length-append p (u ∷ [])) in
          let won : Dynamic (people c) (Placed c) t (steps c - length (p ++ (u ∷ []))) (p ++ (u ∷ [])) =
          subst (λ n. Dynamic (people c) (Placed c) t n (p ++ (u ∷ []))) on (subst (Dynamic (people c) (Placed c) t (steps c - length p - 1)) x.1.next x.2) in
          absurd ((advice-none-exactly p r.absent r.limit none (absent-word c t r.absent good a) e).0 refl u
          (may-known c u (length p) (last-able c p u v)) x.1.present (v, won))

  played : judged_question c t ≡ Good → (rs Rs : List Round) (p : List ℕ) → WinsFrom c t p → AllAbsent c t rs → EachWithin c t rs p → AllPresent (Rs ++ rs) p
      → length p ≡ length Rs → length p + length rs ≡ steps c
      → (q : List ℕ) × Followed c t rs p q × Plan c q × AllPresent (Rs ++ rs) q
  played good [] Rs p h n e a m l = (p, refl, record { valid = h.0; whole = omega arith }, a)
  played good (r ∷ rs) Rs p h n e a m l =
      let x = win-advised good p r n.0 e.0 h (omega arith) in
      let u : ℕ = x.0 in
      let one : Rs ++ (r ∷ []) ++ rs ≡ Rs ++ (r ∷ rs) = append_assoc Rs (r ∷ []) rs in
      let there : get_or (map (λ z. z.absent) (Rs ++ (r ∷ rs))) (length p) 0 ≡ r.absent =
      ap (λ l. get_or l (length p) 0) (map-append (λ z. z.absent) Rs (r ∷ rs))
      ∙ get_or_at (map (λ z. z.absent) Rs) r.absent (map (λ z. z.absent) rs) 0 (length p) (length-map Rs (λ z. z.absent) ∙ sym m) in
      let here : AllPresent (Rs ++ (r ∷ rs)) (p ++ (u ∷ [])) =
      snoc-each c (λ v i. has (get_or (map (λ z. z.absent) (Rs ++ (r ∷ rs))) i 0) v ≡ false) p u a (ap (λ (B : ℕ). has B u) there ∙ x.2.present) in
      let y = played good rs (Rs ++ (r ∷ [])) (p ++ (u ∷ [])) x.2.wins n.1 (e.1 u x.1) (subst (λ Xs. AllPresent Xs (p ++ (u ∷ []))) (sym one) here)
      (omega (arith, length-append p (u ∷ []), length-append Rs (r ∷ []))) (omega (arith, length-append p (u ∷ []))) in
      (y.0, (u, x.1, y.1), y.2, subst (λ Xs. AllPresent Xs y.0) one y.3)

  -- If the dynamic call ends within its limit and says yes, then following the advice call, under any absences of at most t people, one set a round, each
  -- call within its limit, never says "none", and gives a valid plan after as many rounds as steps, everybody present in their round.
  pub yes-is-played : (l : ℕ) (rs : List Round) → Ends (verdict_told (dynamic_call c t l)) none → length rs ≡ steps c → AllAbsent c t rs → EachWithin c t rs []
      → (q : List ℕ) × Followed c t rs [] q × Plan c q × AllPresent rs q
  yes-is-played l rs e m n each =
      let k = question-came Dyn c t l none e.0 e.1 in
      let all_left : steps c ≡ steps c - 0 = omega arith in
      played k.accepted rs [] [] (start-valid c, subst (λ n. Dynamic (people c) (Placed c) t n []) all_left ((dynamic-exact c t).0 k.got)) n each
      (λ i x. absurd (not-suc-le-zero x)) refl (omega (arith, m))

  -- ---- A no can be played

  -- a call of away at a valid position that is not full, under a limit at which it does not stop, ends as its walk does
  away-ended : judged_question c t ≡ Good → (p : List ℕ) (l : ℕ) → Valid c p → length p < steps c → AwayWithin c t p l
      → Ends (away_told (away_call c p t l)) (away_at c t p).got
  away-ended good p l v s f =
      ends-within _ (judged_away c p t) l (away_at c t p) (away-told c p t l) (away-accepts c t p good (good-position c p v s)) f

  dodges : judged_question c t ≡ Good → (q : List ℕ) → Valid c q → Dodged c t q → Dodges c t q
  dodges good q v d i h A e =
      let x = d i h in
      let w : Valid c (take i q) = prefix-valid c (take i q) (drop i q) (subst (Valid c) (sym (take-append-drop i q)) v) in
      let s : length (take i q) < steps c = omega (arith, length-take i q, valid-short c q v) in
      x.2 A (subst (Ends (away_told (away_call c (take i q) t x.0))) e (away-ended good (take i q) x.0 w s x.1))

  -- If the dynamic call ends within its limit and says no, then whatever valid position a desk comes to against away, it is short of a plan, and a call of
  -- away there, under a limit at which it does not stop, names a set of at most t people again.
  pub no-is-played : (l A : ℕ) (q : List ℕ) → Ends (verdict_told (dynamic_call c t l)) (some A) → Valid c q → Dodged c t q
      → (length q < steps c) × ((m : ℕ) → AwayWithin c t q m → (B : ℕ) × Ends (away_told (away_call c q t m)) (some B) × Absent (people c) t B)
  no-is-played l A q e v d =
      let k = question-came Dyn c t l (some A) e.0 e.1 in
      let x = play.no-is-played c t A q k.got v (dodges k.accepted q v d) in
      (x.0, λ m f. (x.1.0, subst (Ends (away_told (away_call c q t m))) x.1.1 (away-ended k.accepted q m v x.0 f), x.1.2))

  -- so no sequence of present placements reaches a valid plan
  pub no-plan-comes-through : (l A : ℕ) (q : List ℕ) → Ends (verdict_told (dynamic_call c t l)) (some A) → Plan c q → Dodged c t q → ⊥
  no-plan-comes-through l A q e p d =
      let k = question-came Dyn c t l (some A) e.0 e.1 in
      play.no-plan-dodges c t A q k.got p (dodges k.accepted q p.valid d)

  -- ---- Dynamic yes gives decremental yes, that gives one-shot yes, that gives static yes, and that a plan

  pub dynamic-gives-decremental : (l m : ℕ) (b : Option ℕ) → Ends (verdict_told (dynamic_call c t l)) none → Ends (verdict_told (decremental_call c t m)) b → b ≡ none
  dynamic-gives-decremental l m b e f =
      sym (question-came Decremental c t m b f.0 f.1).got ∙ dynamic-decremental c t (question-came Dyn c t l none e.0 e.1).got

  pub decremental-gives-one-shot : (l m : ℕ) (b : Option ℕ) → Ends (verdict_told (decremental_call c t l)) none → Ends (verdict_told (one_shot_call c t m)) b → b ≡ none
  decremental-gives-one-shot l m b e f =
      sym (question-came OneShot c t m b f.0 f.1).got ∙ decremental-one_shot c t (question-came Decremental c t l none e.0 e.1).got

  pub one-shot-gives-static : (l m : ℕ) (b : Option ℕ) → Ends (verdict_told (one_shot_call c t l)) none → Ends (verdict_told (static_call c t m)) b → b ≡ none
  one-shot-gives-static l m b e f = sym (question-came Static c t m b f.0 f.1).got ∙ one_shot-static c t (question-came OneShot c t l none e.0 e.1).got

  -- and so, from the two before, also where one-shot is not asked
  pub decremental-gives-static : (l m : ℕ) (b : Option ℕ) → Ends (verdict_told (decremental_call c t l)) none → Ends (verdict_told (static_call c t m)) b → b ≡ none
  decremental-gives-static l m b e f =
      sym (question-came Static c t m b f.0 f.1).got ∙ one_shot-static c t (decremental-one_shot c t (question-came Decremental c t l none e.0 e.1).got)

  pub static-gives-plan : (l m : ℕ) (b : Option (List ℕ)) → Ends (verdict_told (static_call c t l)) none → Ends (plan_told (plan_call c m)) b → (q : List ℕ) × (b ≡ some q)
  static-gives-plan l m b e f =
      let x = static-plan c t (question-came Static c t l none e.0 e.1).got in
      (x.0, sym (plan-came c m b f.0 f.1).got ∙ x.1)
