-- The line at a position where one step is ready: it holds the people whom the board's arena lets the desk try, in order; so every walk there is a
-- scan of it.
use mathlib.Core.Path.{◌≡◌, refl, sym, ap, ap₂, ◌∙◌}
use mathlib.Core.Option.{Option, none, some}
use mathlib.Core.Bool.{Bool, true, false, not, ◌&&◌, and_comm}
use mathlib.Core.List.{List, [], ◌∷◌, ◌++◌, map, append-nil}
use Prim.Native.Nat.{ℕ, suc, ◌+◌, ◌-◌, ◌≤◌, ◌<◌, ◌^◌}
use native.Mathlib.Nat.{sub-zero}
use native.Mathlib.Decide.{dec_lt}
use native.Mathlib.Omega.{arith}
use borrow.Author.Tests.{lt-ltb, le-ltb}
use lib.Dec.{ltb, eqb}
use lib.Pow.{pow_pos}
use Rattle.sets.specs.Lists.{pick, cons_if, value_or, from, upto, keep}
use Rattle.sets.specs.Sets.{has, set_of, members, lowest, common, difference, everybody}
use Rattle.sets.specs.Stored.{width}
use Rattle.sets.proofs.Lists.{and-true, and-true-end, and-false-end, keep-keep, keep-cong, keep_append, keep-nothing, keep-everything, upto-in, from-lo, from-hi, from-append}
use Rattle.sets.proofs.Bits.{has-empty}
use Rattle.sets.proofs.Counting.{has-set_of, is-set_of, set_of-ext}
use Rattle.sets.proofs.Members.{members-in, lowest-some}
use Rattle.games.specs.Arena.{Arena}
use Rattle.games.specs.Walks.{Walk, Search, plus, seek, try, lacking, having, if_none, if_some, unbeaten, present, tries, desk, plan, dynamic, advice, tally, too_few}
use Rattle.games.proofs.Walks.{seek-cong, tally-cong}
use Rattle.cases.specs.declared.Filled.{Filled}
use Rattle.cases.specs.Case.{most_steps}
use Rattle.boards.specs.Board.{allowed_on, ready_on, fits_on}
use Rattle.boards.specs.Arena.{Done, by, put_on, board_arena}
use Rattle.tries.specs.Trying.{step_on, Alone, asked, InLine}
use Rattle.tries.proofs.Scans.{Step, stop, go, Hunt, turn, judged, scan, scan-cong, Inside}
use Rattle.games.proofs.Few.{few-start}
use Rattle.tries.proofs.Hunts.{trial, told-once, first, seek-scan, one_more, counting, tally-scan}

-- ---- the same scan, told otherwise

abbrev pub told_step : {R Q S : Type 0} → (R → Q) → Step R S → Step Q S
told_step tell (stop r) = stop (tell r)
told_step tell (go s) = go s

-- each judging takes as many trials in both, and what is done after it is told on
pub record Same {A B R Q S : Type 0} (h : Hunt A R S) (k : Hunt B Q S) (tell : R → Q) : Type 0 where
  pub trials : (u : ℕ) → (h.sub u).trials ≡ (k.sub u).trials
  pub step : (u : ℕ) (s : S) → told_step tell (h.step u (h.sub u).got s) ≡ k.step u (k.sub u).got s
  pub last : (s : S) → tell (h.last s) ≡ k.last s

module _ {A B R Q S : Type 0} (h : Hunt A R S) (k : Hunt B Q S) (tell : R → Q) (same : Same h k tell) where
  abbrev told : Walk R → Walk Q
  told w = record { got = tell w.got; trials = w.trials }

  told-turn : (x : Step R S) (f : S → Walk R) (g : S → Walk Q) → ((s : S) → told (f s) ≡ g s) → told (turn x f) ≡ turn (told_step tell x) g
  told-turn (stop r) f g e = refl
  told-turn (go s) f g e = e s

  pub scan-told : (F : ℕ) (us : List ℕ) (s : S) → told (scan h F us s) ≡ scan k F us s
  unfolding scan plus
  scan-told F [] s = ap (λ (q : Q). record { got = q; trials = 0 }) (same.last s)
  scan-told F (u ∷ us) s = ap (plus 1) (at (has F u) (scan-told F us))
    where
      at : (b : Bool) → ((z : S) → told (scan h F us z) ≡ scan k F us z)
          → told (pick b (judged h u s (scan h F us)) (scan h F us s)) ≡ pick b (judged k u s (scan k F us)) (scan k F us s)
      at true r =
          ap (plus (h.sub u).trials) (told-turn (h.step u (h.sub u).got s) (scan h F us) (scan k F us) r)
          ∙ ap₂ (λ (c : ℕ) (x : Step Q S). plus c (turn x (scan k F us))) (same.trials u) (same.step u s)
      at false r = r s

-- ---- hunts that judge a placing by a verdict: nothing got means that the position is good

-- name the first person whose placing is good, with the move
abbrev pub name_first : {M : Type 0} → (ℕ → M) → ℕ → Option ℕ → Unit {0} → Step (Option (ℕ × M)) (Unit {0})
name_first m u none s = stop (some (u, m u))
name_first m u (some x) s = go tt

abbrev pub naming : {M : Type 0} → (ℕ → M) → (ℕ → Search ℕ) → Hunt (Option ℕ) (Option (ℕ × M)) (Unit {0})
naming m sub = record { sub = sub; step = name_first m; last = λ s. none }

-- A beats the desk where no placing is good
abbrev pub hold_first : Option ℕ → Unit {0} → Step (Option ℕ) (Unit {0})
hold_first none s = stop none
hold_first (some x) s = go tt

abbrev pub beating : ℕ → (ℕ → Search ℕ) → Hunt (Option ℕ) (Option ℕ) (Unit {0})
beating A sub = record { sub = sub; step = λ u a s. hold_first a s; last = λ s. some A }

-- count and show the people whose placing is good, up to t + 1 of them
abbrev pub count_good : ℕ → ℕ → Option ℕ → ℕ × ℕ → Step (Option ℕ) (ℕ × ℕ)
count_good t u none s = pick (eqb s.0 t) (stop none) (go (s.0 + 1, s.1 + 2 ^ u))
count_good t u (some x) s = go s

abbrev pub showing : ℕ → (ℕ → Search ℕ) → Hunt (Option ℕ) (Option ℕ) (ℕ × ℕ)
showing t sub = record { sub = sub; step = count_good t; last = λ s. some s.1 }

naming-same : (m : ℕ → Done) (sub : ℕ → Search ℕ) → Same (first (λ u. if_some (u, m u) (unbeaten (sub u)))) (naming m sub) (λ r. r)
unfolding if_some if_none
naming-same m sub = record { trials = λ u. refl; step = λ u s. at u (sub u).got s; last = λ s. refl }
  where
    at : (u : ℕ) (o : Option ℕ) (s : Unit {0})
        → told_step (λ r. r) ((first (λ v. if_some (v, m v) (unbeaten (sub v)))).step u (having (u, m u) (lacking (tt {0}) o)) s) ≡ name_first m u o s
    at u none s = refl
    at u (some x) s = refl

beating-same : (A : ℕ) (sub : ℕ → Search ℕ) → Same (first (λ u. unbeaten (sub u))) (beating A sub) (lacking A)
unfolding if_none
beating-same A sub = record { trials = λ u. refl; step = λ u s. at u (sub u).got s; last = λ s. refl }
  where
    at : (u : ℕ) (o : Option ℕ) (s : Unit {0}) → told_step (lacking A) ((first (λ v. unbeaten (sub v))).step u (lacking (tt {0}) o) s) ≡ hold_first o s
    at u none s = refl
    at u (some x) s = refl

showing-same : (t : ℕ) (sub : ℕ → Search ℕ) → Same (counting t (λ u. unbeaten (sub u))) (showing t sub) (λ r. r)
unfolding if_none
showing-same t sub = record { trials = λ u. refl; step = λ u s. at u (sub u).got s; last = λ s. refl }
  where
    kept : (x : Step (Option ℕ) (ℕ × ℕ)) → told_step (λ r. r) x ≡ x
    kept (stop r) = refl
    kept (go s) = refl

    at : (u : ℕ) (o : Option ℕ) (s : ℕ × ℕ) → told_step (λ r. r) (one_more {B = Unit {0}} t u (lacking tt o) s) ≡ count_good t u o s
    at u none s = kept (pick (eqb s.0 t) (stop none) (go (s.0 + 1, s.1 + 2 ^ u)))
    at u (some x) s = refl

-- ---- the line

-- what the code makes it of
module _ (b : List ℕ) (n A : ℕ) (p : Filled) (s : ℕ) (e : s ≡ step_on b p) where
  pub line-is : (al di ev T F : ℕ) → s < most_steps → al ≡ allowed_on b s → di ≡ difference width al A → ev ≡ everybody width n → T ≡ common width di ev
      → F ≡ common width T (fits_on b p s) → InLine b n A p T F
  line-is al di ev T F l a d v t g =
      record {
        tried = t ∙ ap₂ (λ x y. common width x y) (d ∙ ap (λ x. difference width x A) (a ∙ sym known)) v;
        fit = g ∙ ap (λ x. common width T (fits_on b p x)) e;
      }
    where
      known : asked b p ≡ allowed_on b s
      known = ap (λ x. pick (ltb x most_steps) (allowed_on b x) 0) (sym e) ∙ ap (λ (x : Bool). pick x (allowed_on b s) 0) (lt-ltb s most_steps l)

  pub line-none : (T F : ℕ) → most_steps ≤ s → T ≡ 0 → F ≡ 0 → InLine b n A p T F
  line-none T F l t f =
      record {
        tried = t ∙ sym (nobody (λ w. has (difference width (asked b p) A) w && has (everybody width n) w)
            (λ w h. ap (λ (x : Bool). x && has (everybody width n) w)
            (has-set_of (λ u. has (asked b p) u && not (has A u)) width w h
            ∙ ap (λ (x : ℕ). has x w && not (has A w)) unknown ∙ ap (λ (x : Bool). x && not (has A w)) (has-empty w))));
        fit = f ∙ sym (nobody (λ w. has T w && has (fits_on b p (step_on b p)) w)
            (λ w h. ap (λ (x : Bool). x && has (fits_on b p (step_on b p)) w) (ap (λ (x : ℕ). has x w) t ∙ has-empty w)));
      }
    where
      unknown : asked b p ≡ 0
      unknown = ap (λ x. pick (ltb x most_steps) (allowed_on b x) 0) (sym e) ∙ ap (λ (x : Bool). pick x (allowed_on b s) 0) (le-ltb s most_steps l)

      nobody : (f : ℕ → Bool) → ((w : ℕ) → w < width → f w ≡ false) → set_of f width ≡ 0
      nobody f h = sym (is-set_of f width 0 (pow_pos width) (λ w l. has-empty w ∙ sym (h w l)))

-- some people are taken off
pub line-without : {b : List ℕ} {n : ℕ} {p : Filled} {T F : ℕ} (A T' F' : ℕ) → InLine b n 0 p T F → T' ≡ difference width T A → F' ≡ difference width F A
    → InLine b n A p T' F'
line-without {b} {n} {p} {T} {F} A T' F' line t f =
    record {
      tried = t ∙ set_of-ext _ _ width (λ u l.
          ap (λ (x : Bool). x && not (has A u)) (ap (λ x. has x u) line.tried ∙ has-set_of _ width u l ∙ ap (λ (x : Bool). x && has (everybody width n) u) (off 0 u l))
          ∙ reorder (has (asked b p) u) (has (everybody width n) u) (not (has A u)) (not (has 0 u)) (ap not (has-empty u))
          ∙ ap (λ (x : Bool). x && has (everybody width n) u) (sym (off A u l)));
      fit = f ∙ set_of-ext _ _ width (λ u l.
          ap (λ (x : Bool). x && not (has A u)) (ap (λ x. has x u) line.fit ∙ has-set_of _ width u l)
          ∙ swap (has T u) (has (fits_on b p (step_on b p)) u) (not (has A u))
          ∙ ap (λ (x : Bool). x && has (fits_on b p (step_on b p)) u) (sym (ap (λ x. has x u) t ∙ has-set_of _ width u l)));
    }
  where
    off : (B u : ℕ) → u < width → has (difference width (asked b p) B) u ≡ has (asked b p) u && not (has B u)
    off B u l = has-set_of (λ w. has (asked b p) w && not (has B w)) width u l

    reorder : (a e x y : Bool) → y ≡ true → ((a && y) && e) && x ≡ (a && x) && e
    reorder true true true y q = rw q
    reorder true true false y q = rw q
    reorder true false true y q = rw q
    reorder true false false y q = rw q
    reorder false e x y q = refl

    swap : (a e x : Bool) → (a && e) && x ≡ (a && x) && e
    swap true true true = refl
    swap true true false = refl
    swap true false true = refl
    swap true false false = refl
    swap false e x = refl

-- the only one below m that passes a test, if it does
keep_one : (test : ℕ → Bool) (m n : ℕ) → n < m → ((s : ℕ) → s < m → (s ≡ n → ⊥) → test s ≡ false) → keep test (upto m) ≡ cons_if (test n) n []
unfolding upto
keep_one test m n h others =
    ap (λ (k : ℕ). keep test (from 0 k)) whole
    ∙ ap (keep test) (from-append 0 n (suc (m - suc n)))
    ∙ keep_append test (from 0 n) (from (0 + n) (suc (m - suc n)))
    ∙ ap₂ ◌++◌ below (ap (λ (k : ℕ). keep test (from k (suc (m - suc n)))) zero-and ∙ here)
  where
    whole : m ≡ n + suc (m - suc n)
    whole = omega arith

    zero-and : 0 + n ≡ n
    zero-and = omega arith

    below : keep test (from 0 n) ≡ []
    below = keep-nothing test (from 0 n) (λ s k. let b = from-hi 0 n s k in others s (omega arith) (λ q. omega arith))

    above : keep test (from (suc n) (m - suc n)) ≡ []
    above = keep-nothing test (from (suc n) (m - suc n)) (λ s k. let a = from-lo (suc n) (m - suc n) s k in let b = from-hi (suc n) (m - suc n) s k in others s (omega arith) (λ q. omega arith))

    here : keep test (from n (suc (m - suc n))) ≡ cons_if (test n) n []
    here = unfold from keep in ap (λ (l : List ℕ). cons_if (test n) n l) above

step_is : (b : List ℕ) (p : Filled) → step_on b p < most_steps → (o : Option ℕ) → lowest 32 (ready_on b p) ≡ o → o ≡ some (step_on b p)
unfolding step_on
step_is b p l none q = let z : value_or 32 (lowest 32 (ready_on b p)) ≡ 32 = ap (value_or 32) q in let w : ⊥ = omega arith in absurd w
step_is b p l (some y) q = ap some (sym (ap (value_or 32) q))

step-ready : (b : List ℕ) (p : Filled) → step_on b p < most_steps → has (ready_on b p) (step_on b p) ≡ true
step-ready b p l = (lowest-some 32 (ready_on b p) (step_on b p) (step_is b p l (lowest 32 (ready_on b p)) refl)).1

pub step-found : (b : List ℕ) (p : Filled) (r s : ℕ) → r ≡ ready_on b p → s ≡ value_or 32 (lowest 32 r) → s ≡ step_on b p
unfolding step_on
step-found b p r s q e = e ∙ ap (λ (x : ℕ). value_or 32 (lowest 32 x)) q

-- a person has one move at most, at the step that is ready
module _ (b : List ℕ) (n : ℕ) (p : Filled) (one : Alone b p) (u : ℕ) where
  abbrev test : ℕ → Bool
  test s = has (ready_on b p) s && has (allowed_on b s) u

  others : (s : ℕ) → s < most_steps → (s ≡ step_on b p → ⊥) → test s ≡ false
  others s l d = ap (λ (x : Bool). x && has (allowed_on b s) u) (false-by (has (ready_on b p) s) (λ e. d (one s l e)))
    where
      false-by : (x : Bool) → (x ≡ true → ⊥) → x ≡ false
      false-by true f = absurd (f refl)
      false-by false f = refl

  pub one-move : (board_arena b n).moves p u ≡ cons_if (has (asked b p) u) (by u (step_on b p)) []
  one-move = go (dec_lt (step_on b p) most_steps)
    where
      moved : (x : Bool) (s : ℕ) → map (by u) (cons_if x s []) ≡ cons_if x (by u s) []
      moved true s = refl
      moved false s = refl

      go : Dec (step_on b p < most_steps) → map (by u) (keep test (upto most_steps)) ≡ cons_if (has (asked b p) u) (by u (step_on b p)) []
      go (yes l) =
          ap (map (by u)) (keep_one test most_steps (step_on b p) l others)
          ∙ moved (test (step_on b p)) (step_on b p)
          ∙ ap (λ (x : Bool). cons_if x (by u (step_on b p)) [])
          (ap (λ (x : Bool). x && has (allowed_on b (step_on b p)) u) (step-ready b p l) ∙ ap (λ (x : ℕ). has x u) (sym (ap (λ (x : Bool). pick x (allowed_on b (step_on b p)) 0) (lt-ltb (step_on b p) most_steps l))))
      go (no l) =
          ap (map (by u)) (keep-nothing test (upto most_steps) (λ s m. others s (upto-in most_steps s m) (λ q. let k = upto-in most_steps s m in omega arith)))
          ∙ ap (λ (x : Bool). cons_if x (by u (step_on b p)) [])
          (sym (ap (λ (x : ℕ). has x u) (ap (λ (x : Bool). pick x (allowed_on b (step_on b p)) 0) (le-ltb (step_on b p) most_steps (omega arith))) ∙ has-empty u))

module _ (b : List ℕ) (n A : ℕ) (p : Filled) (T F : ℕ) (one : Alone b p) (line : InLine b n A p T F) (h : n ≤ width) where
  abbrev G : Arena
  G = board_arena b n

  abbrev al : ℕ
  al = asked b p

  abbrev fi : ℕ
  fi = fits_on b p (step_on b p)

  -- person u's move, and the position that it leaves
  abbrev mv : ℕ → Done
  mv u = by u (step_on b p)

  abbrev put : ℕ → Filled
  put u = put_on p u (step_on b p)

  pub in-tried : (u : ℕ) → u < width → has T u ≡ (has al u && not (has A u)) && ltb u n
  in-tried u l =
      ap (λ s. has s u) line.tried
      ∙ has-set_of (λ w. has (difference width al A) w && has (everybody width n) w) width u l
      ∙ ap₂ ◌&&◌ (has-set_of (λ w. has al w && not (has A w)) width u l) (has-set_of (λ w. ltb w n) width u l)

  pub in-fit : (u : ℕ) → u < width → has F u ≡ has T u && has fi u
  in-fit u l = ap (λ s. has s u) line.fit ∙ has-set_of (λ w. has T w && has fi w) width u l

  pub fit-inside : Inside F T
  fit-inside u l e = (and-true (has T u) (has fi u) (sym (in-fit u l) ∙ e)).0

  line-members : members width T ≡ keep (has al) (keep (λ u. not (has A u)) (upto n))
  unfolding members upto
  line-members =
      ap (keep (has T)) (ap (from 0) whole ∙ from-append 0 n (width - n))
      ∙ keep_append (has T) (from 0 n) (from (0 + n) (width - n))
      ∙ ap₂ ◌++◌ below above
      ∙ append-nil _
      ∙ sym (keep-keep (λ u. not (has A u)) (has al) (from 0 n))
    where
      whole : width ≡ n + (width - n)
      whole = omega arith

      below : keep (has T) (from 0 n) ≡ keep (λ u. not (has A u) && has al u) (from 0 n)
      below =
          keep-cong (has T) (λ u. not (has A u) && has al u) (from 0 n)
          (λ u m. let l = from-hi 0 n u m in
          in-tried u (omega arith) ∙ ap (λ (x : Bool). (has al u && not (has A u)) && x) (lt-ltb u n (omega arith)) ∙ and-true-end (has al u && not (has A u)) ∙ and_comm (has al u) (not (has A u)))

      above : keep (has T) (from (0 + n) (width - n)) ≡ []
      above =
          keep-nothing (has T) (from (0 + n) (width - n))
          (λ u m. let lo = from-lo (0 + n) (width - n) u m in let hi = from-hi (0 + n) (width - n) u m in
          in-tried u (omega arith) ∙ ap (λ (x : Bool). (has al u && not (has A u)) && x) (le-ltb u n (omega arith)) ∙ and-false-end (has al u && not (has A u)))

  -- who fits, among those in line
  line-scan : {B R S : Type 0} (k : Hunt B R S) (s : S) → scan k fi (keep (has al) (keep (λ u. not (has A u)) (upto n))) s ≡ scan k F (members width T) s
  line-scan k s =
      ap (λ l. scan k fi l s) (sym line-members)
      ∙ scan-cong k fi F (members width T)
      (λ u m. let i = members-in width T u m in sym (in-fit u i.0 ∙ ap (λ (x : Bool). x && has fi u) i.1)) s

  -- a turn of the desk
  pub desk-line : {B : Type 0} (judge : Filled → Search B) → desk G judge A p ≡ scan (first (λ u. judge (put u))) F (members width T) tt
  unfolding desk present tries
  desk-line judge =
      seek-cong (tries G judge p) (λ u. trial (has al u) (has fi u) (judge (put u))) (keep (λ u. not (has A u)) (upto n))
      (λ u m. ap (seek (λ m. try judge (G.after p m))) (one-move b n p one u) ∙ told-once (λ m w. w) judge (G.after p) (has al u) (has fi u) (put u) (mv u) refl refl refl)
      ∙ seek-scan al fi (λ u. judge (put u)) (keep (λ u. not (has A u)) (upto n))
      ∙ line-scan (first (λ u. judge (put u))) tt

  pub plan-line : (k : ℕ) → plan G A (suc k) p ≡ scan (first (λ u. plan G A k (put u))) F (members width T) tt
  unfolding plan
  plan-line k = desk-line (plan G A k)

  -- a turn of the desk against the away side's next turn: A where it beats the desk
  pub turn-line : (next : Filled → Search ℕ)
      → if_none A (desk G (λ q. unbeaten (next q)) A p) ≡ scan (beating A (λ u. next (put u))) F (members width T) tt
  unfolding if_none
  turn-line next =
      ap (λ w. record { got = lacking A w.got; trials = w.trials }) (desk-line (λ q. unbeaten (next q)))
      ∙ scan-told (first (λ u. unbeaten (next (put u)))) (beating A (λ u. next (put u))) (lacking A)
      (beating-same A (λ u. next (put u))) F (members width T) tt

  pub advice-line : (t k : ℕ) → advice G t (suc k) A p ≡ scan (naming mv (λ u. dynamic G t k (put u))) F (members width T) tt
  unfolding advice present if_some plus
  advice-line t k =
      seek-cong (λ u. seek (λ m. if_some (u, m) (try (λ q. unbeaten (dynamic G t k q)) (G.after p m))) (G.moves p u))
      (λ u. trial (has al u) (has fi u) (if_some (u, mv u) (unbeaten (dynamic G t k (put u))))) (keep (λ u. not (has A u)) (upto n))
      (λ u m. ap (seek (λ m. if_some (u, m) (try (λ q. unbeaten (dynamic G t k q)) (G.after p m)))) (one-move b n p one u)
      ∙ told-once (λ m w. if_some (u, m) w) (λ q. unbeaten (dynamic G t k q)) (G.after p) (has al u) (has fi u) (put u) (mv u) refl refl refl)
      ∙ seek-scan al fi (λ u. if_some (u, mv u) (unbeaten (dynamic G t k (put u)))) (keep (λ u. not (has A u)) (upto n))
      ∙ line-scan (first (λ u. if_some (u, mv u) (unbeaten (dynamic G t k (put u))))) tt
      ∙ scan-told (first (λ u. if_some (u, mv u) (unbeaten (dynamic G t k (put u))))) (naming mv (λ u. dynamic G t k (put u))) (λ r. r)
      (naming-same mv (λ u. dynamic G t k (put u))) F (members width T) tt

-- everybody is present in the dynamic walk
module _ (b : List ℕ) (n : ℕ) (p : Filled) (T F : ℕ) (one : Alone b p) (line : InLine b n 0 p T F) (h : n ≤ width) where
  everybody-present : keep (λ u. not (has 0 u)) (upto n) ≡ upto n
  everybody-present = keep-everything (λ u. not (has 0 u)) (upto n) (λ u m. ap not (has-empty u))

  pub dynamic-line : (t k : ℕ) → dynamic (board_arena b n) t (suc k) p ≡ scan (showing t (λ u. dynamic (board_arena b n) t k (put_on p u (step_on b p)))) F (members width T) (0, 0)
  unfolding dynamic tries
  dynamic-line t k =
      ap (too_few t)
      (tally-cong (tries (board_arena b n) (λ q. unbeaten (dynamic (board_arena b n) t k q)) p) (λ u. trial (has (asked b p) u) (has (fits_on b p (step_on b p)) u) (sub u)) (upto n) (suc t)
      (λ u m. ap (seek (λ m. try (λ q. unbeaten (dynamic (board_arena b n) t k q)) ((board_arena b n).after p m))) (one-move b n p one u)
      ∙ told-once (λ m w. w) (λ q. unbeaten (dynamic (board_arena b n) t k q)) ((board_arena b n).after p) (has (asked b p) u) (has (fits_on b p (step_on b p)) u) (put_on p u (step_on b p)) (by u (step_on b p)) refl refl refl))
      ∙ ap (λ (w : ℕ). too_few t (tally (λ u. trial (has (asked b p) u) (has (fits_on b p (step_on b p)) u) (sub u)) (upto n) (suc w))) (sym (sub-zero t))
      ∙ few-start t _
      ∙ tally-scan t (asked b p) (fits_on b p (step_on b p)) sub (upto n) 0 0 (omega arith)
      ∙ ap (λ l. scan (counting t sub) (fits_on b p (step_on b p)) (keep (has (asked b p)) l) (0, 0)) (sym everybody-present)
      ∙ line-scan b n 0 p T F one line h (counting t sub) (0, 0)
      ∙ scan-told (counting t sub) (showing t (λ u. dynamic (board_arena b n) t k (put_on p u (step_on b p)))) (λ r. r)
      (showing-same t (λ u. dynamic (board_arena b n) t k (put_on p u (step_on b p)))) F (members width T) (0, 0)
    where
      sub : ℕ → Search (Unit {0})
      sub u = unbeaten (dynamic (board_arena b n) t k (put_on p u (step_on b p)))
