-- On the board of a case that is ready, steps as listed, from a valid position, every walk is the walk of the case: the same answer after the same
-- trials, told through the filled steps.
use mathlib.Core.Path.{◌≡◌, refl, sym, ap, ap₂, ◌∙◌, subst}
use mathlib.Core.Option.{Option, none, some}
use mathlib.Core.Bool.{Bool, true, false, ◌&&◌}
use mathlib.Core.List.{List, [], ◌∷◌, ◌++◌, map}
use Prim.Native.Nat.{ℕ, suc, ◌+◌, ◌-◌, ◌≤◌, ◌<◌}
use native.Mathlib.Decide.{ℕ_discrete}
use native.Mathlib.Omega.{arith}
use borrow.Author.Tests.{eq-eqb, ne_eqb, lt-ltb}
use lib.Dec.{eqb, ltb}
use lib.ListN.{length, length-append}
use Rattle.sets.specs.Lists.{only_if, cons_if, from, upto, keep}
use Rattle.sets.specs.Sets.{has}
use Rattle.sets.proofs.Lists.{only_if-some, and-false-end, keep-cong, keep_append, keep-nothing, upto-in, from-lo, from-hi, from-append}
use Rattle.games.specs.Arena.{Arena}
use Rattle.games.specs.Walks.{Search, plan, static, one_shot, decremental, dynamic, advice, away}
use Rattle.games.proofs.Walks.{mapped, told, Agrees, plan-agree, static-agree, one_shot-agree, decremental-agree, dynamic-agree, advice-agree}
use Rattle.cases.specs.declared.Case.{Case}
use Rattle.cases.specs.declared.Filled.{Filled}
use Rattle.cases.specs.Case.{most_steps, people, steps}
use Rattle.cases.specs.Rules.{rules_hold}
use Rattle.cases.specs.Plans.{may, holds, Valid}
use Rattle.cases.specs.Filled.{start_filled, who_in}
use Rattle.cases.specs.Chain.{offers, place, chain, person_of, plan_of, static_of, decremental_of, one_shot_of, dynamic_of, advice_at, away_at}
use Rattle.cases.proofs.Rounds.{may-step, offered-in, start-valid, snoc-each}
use Rattle.boards.specs.Board.{allowed_on, ready_on, fits_on}
use Rattle.boards.specs.Arena.{Done, by, put_on, board_arena}
use Rattle.pieces.specs.declared.Order.TheVariants as order
use Rattle.pieces.proofs.Tests.{same}
use Rattle.laying.specs.Laid.{laid_out}
use Rattle.laying.specs.Ready.{Ready}
use Rattle.meaning.specs.Listed.{fill_from, filled_by}
use Rattle.meaning.proofs.Means.{allowed-means}
use Rattle.meaning.proofs.Placing.{sound-placed, placed-fits, listed-ready}
use Rattle.meaning.proofs.Listed.{filled-snoc, filled-formed, filled-steps, filled-holds, valid-short, valid-sound}

-- the only one below m that passes a test
keep_one : (test : ℕ → Bool) (m n : ℕ) → n < m → ((s : ℕ) → (s ≡ n → ⊥) → test s ≡ false) → test n ≡ true → keep test (upto m) ≡ n ∷ []
unfolding upto
keep_one test m n h others e =
    ap (λ (k : ℕ). keep test (from 0 k)) whole
    ∙ ap (keep test) (from-append 0 n (suc (m - suc n)))
    ∙ keep_append test (from 0 n) (from (0 + n) (suc (m - suc n)))
    ∙ ap₂ ◌++◌ below (ap (λ (k : ℕ). keep test (from k (suc (m - suc n)))) zero-and ∙ here)
  where
    whole : m ≡ n + suc (m - suc n)
    whole = omega arith

    zero-and : 0 + n ≡ n
    zero-and = omega arith

    below : keep test (from 0 n) ≡ []
    below = keep-nothing test (from 0 n) (λ s k. let b = from-hi 0 n s k in others s (λ q. omega arith))

    above : keep test (from (suc n) (m - suc n)) ≡ []
    above = keep-nothing test (from (suc n) (m - suc n)) (λ s k. let b = from-lo (suc n) (m - suc n) s k in others s (λ q. omega arith))

    here : keep test (from n (suc (m - suc n))) ≡ n ∷ []
    here = unfold from keep in ap₂ (λ (d : Bool) (l : List ℕ). cons_if d n l) e above

pub mapped-only : {A B : Type 0} (f : A → B) (d : Bool) (a : A) → only_if d (f a) ≡ mapped f (only_if d a)
mapped-only f true a = refl
mapped-only f false a = refl

module _ (c : Case) (ready : Ready c) where
  abbrev pub listed_board : List ℕ
  listed_board = laid_out c order.Listed

  abbrev pub on_board : Arena
  on_board = board_arena listed_board (people c)

  -- a person's move in the chain is at the next step
  abbrev pub next_done : List ℕ → ℕ → Done
  next_done p u = by u (length p)

  module _ (p : List ℕ) (v : Valid c p) where
    short : length p ≤ most_steps
    short = omega (arith, valid-short c p v, ready.counts.steps)

    -- the board offers the next step alone
    one-step : (u : ℕ) → keep (λ s. has (ready_on listed_board (filled_by p)) s && has (allowed_on listed_board s) u) (upto 8) ≡ cons_if (may c u (length p)) (length p) []
    one-step u =
        keep-cong (λ s. has (ready_on listed_board (filled_by p)) s && has (allowed_on listed_board s) u) test (upto 8)
        (λ s m.
        let l = upto-in 8 s m in
        ap₂ ◌&&◌ (listed-ready c ready (filled_by p) (length p) s (λ x k. filled-steps p short x) l) (allowed-means c order.Listed ready s u l))
        ∙ go (may c u (length p)) refl
      where
        test : ℕ → Bool
        test = λ s. (ltb s (steps c) && eqb s (length p)) && may c u s

        others : (s : ℕ) → (s ≡ length p → ⊥) → test s ≡ false
        others s d = ap (λ (x : Bool). (ltb s (steps c) && x) && may c u s) (ne_eqb s (length p) d) ∙ ap (λ (x : Bool). x && may c u s) (and-false-end (ltb s (steps c)))

        go : (d : Bool) → may c u (length p) ≡ d → keep test (upto 8) ≡ cons_if d (length p) []
        go true e =
            let l = may-step c u (length p) e in
            keep_one test 8 (length p) (omega (arith, l, ready.counts.steps)) others
            (ap₂ (λ (x y : Bool). (x && y) && may c u (length p)) (lt-ltb (length p) (steps c) l) (eq-eqb (length p) (length p) refl) ∙ e)
        go false e = keep-nothing test (upto 8) (λ s m. at s (ℕ_discrete s (length p)))
          where
            at : (s : ℕ) → Dec (s ≡ length p) → test s ≡ false
            at s (yes q) = ap (λ (x : Bool). (ltb s (steps c) && eqb s (length p)) && x) (ap (may c u) q ∙ e) ∙ and-false-end (ltb s (steps c) && eqb s (length p))
            at s (no q) = others s q

    -- the rules hold with person u at the next step exactly if u fits there
    pub fits_next : (u : ℕ) → length p < steps c → u < people c → has (fits_on listed_board (filled_by p) (length p)) u ≡ holds c (p ++ (u ∷ []))
    unfolding put_on
    fits_next u l k =
        let room : length p < most_steps = omega (arith, l, ready.counts.steps) in
        let long : length (p ++ (u ∷ [])) ≤ most_steps = omega (arith, length-append p (u ∷ []), room) in
        let f = filled-formed p short in
        let s = valid-sound c p v ready in
        let h : (q : Filled) → q ≡ filled_by (p ++ (u ∷ [])) → rules_hold c (has q.steps) (who_in q) ≡ holds c (p ++ (u ∷ [])) =
        λ q z. ap (λ (x : Filled). rules_hold c (has x.steps) (who_in x)) z ∙ filled-holds (p ++ (u ∷ [])) long c in
        let d = h (put_on (filled_by p) u (length p)) (sym (filled-snoc p u)) in
        same (has (fits_on listed_board (filled_by p) (length p)) u) (holds c (p ++ (u ∷ [])))
        (λ x. sym d ∙ (sound-placed (filled_by p) f (length p) (record { 0 = u }) c order.Listed ready s l k x).kept)
        (λ x. placed-fits (filled_by p) f (length p) (record { 0 = u }) c order.Listed ready s l k (d ∙ x))

  agrees : (p : List ℕ) → Valid c p → (u : ℕ) → u < people c → Agrees (chain c) on_board refl filled_by next_done (Valid c) p u
  unfolding offers place
  agrees p v u known =
      record {
        offered = ap (map (by u)) (one-step p v u) ∙ moved (may c u (length p));
        left = λ m h.
            let o = offered-in c p u m h in
            subst (λ (x : ℕ). only_if (has (fits_on listed_board (filled_by p) (length p)) x) (put_on (filled_by p) x (length p)) ≡ mapped filled_by (only_if (holds c (p ++ (x ∷ []))) (p ++ (x ∷ [])))) (sym o.0)
            (ap₂ (λ (d : Bool) (q : Filled). only_if d q) (fits_next p v u (may-step c u (length p) o.1) known) (sym (filled-snoc p u)) ∙ mapped-only filled_by (holds c (p ++ (u ∷ []))) (p ++ (u ∷ [])));
        stays = λ m h q e.
            let o = offered-in c p u m h in
            let k = only_if-some (holds c (p ++ (m ∷ []))) (p ++ (m ∷ [])) q e in
            subst (Valid c) k.1
            (record {
              able = snoc-each c (λ x i. may c x i ≡ true) p m v.able (subst (λ x. may c x (length p) ≡ true) (sym o.0) o.1);
              kept = k.0;
            });
      }
    where
      moved : (d : Bool) → map (by u) (cons_if d (length p) []) ≡ map (next_done p) (cons_if d u [])
      moved true = refl
      moved false = refl

  -- ---- from any valid position

  module _ (p : List ℕ) (v : Valid c p) where
    pub plan-from : (A k : ℕ) → plan on_board A k (filled_by p) ≡ told filled_by (plan (chain c) A k p)
    plan-from A k = sym (plan-agree (chain c) on_board refl filled_by next_done (Valid c) agrees A k p v)

    pub static-from : (t k : ℕ) → static on_board t k (filled_by p) ≡ static (chain c) t k p
    static-from t k = sym (static-agree (chain c) on_board refl filled_by next_done (Valid c) agrees t k p v)

    pub one-shot-from : (t k : ℕ) → one_shot on_board t k (filled_by p) ≡ one_shot (chain c) t k p
    one-shot-from t k = sym (one_shot-agree (chain c) on_board refl filled_by next_done (Valid c) agrees t k p v)

    pub decremental-from : (t k A : ℕ) → decremental on_board t k A (filled_by p) ≡ decremental (chain c) t k A p
    decremental-from t k A = sym (decremental-agree (chain c) on_board refl filled_by next_done (Valid c) agrees t k A p v)

    pub dynamic-from : (t k : ℕ) → dynamic on_board t k (filled_by p) ≡ dynamic (chain c) t k p
    dynamic-from t k = sym (dynamic-agree (chain c) on_board refl filled_by next_done (Valid c) agrees t k p v)

    -- the person that advice names is the move of the chain
    pub advice-from : (t k A : ℕ) → advice on_board t k A (filled_by p) ≡ told (λ (a : ℕ × ℕ). (a.0, next_done p a.1)) (advice (chain c) t k A p)
    advice-from t k A = sym (advice-agree (chain c) on_board refl filled_by next_done (Valid c) agrees t k A p v)

    -- ---- the walks of play

    pub advice-on-board : (t A : ℕ) → told (λ (a : ℕ × Done). a.0) (advice on_board t (steps c - length p) A (filled_by p)) ≡ advice_at c t A p
    advice-on-board t A = ap (told (λ (a : ℕ × Done). a.0)) (advice-from t (steps c - length p) A) ∙ persons (advice (chain c) t (steps c - length p) A p)
      where
        persons : (w : Search (ℕ × ℕ)) → told (λ (a : ℕ × Done). a.0) (told (λ (a : ℕ × ℕ). (a.0, next_done p a.1)) w) ≡ record { got = person_of w.got; trials = w.trials }
        persons w = go w.got w.trials
          where
            go : (o : Option (ℕ × ℕ)) (n : ℕ) → told (λ (a : ℕ × Done). a.0) (told (λ (a : ℕ × ℕ). (a.0, next_done p a.1)) (record { got = o; trials = n })) ≡ record { got = person_of o; trials = n }
            go none n = refl
            go (some a) n = refl

    pub away-on-board : (t : ℕ) → away on_board t (steps c - length p) (filled_by p) ≡ away_at c t p
    unfolding away
    away-on-board t = dynamic-from t (steps c - length p)

  -- ---- the walks of the questions

  starts : filled_by [] ≡ start_filled
  unfolding filled_by fill_from
  starts = refl

  pub plan-on-board : plan on_board 0 (steps c) start_filled ≡ told filled_by (plan_of c)
  plan-on-board = ap (plan on_board 0 (steps c)) (sym starts) ∙ plan-from [] (start-valid c) 0 (steps c)

  pub static-on-board : (t : ℕ) → static on_board t (steps c) start_filled ≡ static_of c t
  static-on-board t = ap (static on_board t (steps c)) (sym starts) ∙ static-from [] (start-valid c) t (steps c)

  pub one-shot-on-board : (t : ℕ) → one_shot on_board t (steps c) start_filled ≡ one_shot_of c t
  one-shot-on-board t = ap (one_shot on_board t (steps c)) (sym starts) ∙ one-shot-from [] (start-valid c) t (steps c)

  pub decremental-on-board : (t : ℕ) → decremental on_board t (steps c) 0 start_filled ≡ decremental_of c t
  decremental-on-board t = ap (decremental on_board t (steps c) 0) (sym starts) ∙ decremental-from [] (start-valid c) t (steps c) 0

  pub dynamic-on-board : (t : ℕ) → dynamic on_board t (steps c) start_filled ≡ dynamic_of c t
  dynamic-on-board t = ap (dynamic on_board t (steps c)) (sym starts) ∙ dynamic-from [] (start-valid c) t (steps c)
