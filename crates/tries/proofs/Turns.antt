-- Where each search's loop starts, what a search answers with no step left, and the position that a placing leaves.
use mathlib.Core.Path.{◌≡◌, refl, sym, ap, ap₂, ◌∙◌}
use mathlib.Core.Option.{Option, none, some}
use mathlib.Core.List.{List, [], ◌∷◌}
use Prim.Native.Nat.{ℕ, suc, ◌-◌, ◌≤◌, ◌<◌, ◌^◌, min}
use native.Mathlib.Nat.{min-eq_left, lt_of_lt_of_le}
use native.Mathlib.Omega.{arith}
use Rattle.sets.specs.Sets.{size, sets, next_set}
use Rattle.sets.specs.Stored.{width, number, no_people, next_number}
use Rattle.std.specs.Prelude as code
use Rattle.sets.specs.declared.People.{People}
use lib.Pow.{pow_mono}
use Rattle.sets.proofs.Counting.{size-width}
use Rattle.sets.proofs.Records.{number-none}
use Rattle.games.specs.Arena.{Arena}
use Rattle.games.specs.Walks.{Search, lacking, if_none, or_else, seek, plan, static, decremental, one_shot, dynamic, advice}
use Rattle.games.specs.Limit.{stopped, whole, cut}
use Rattle.games.proofs.Limits.{cut-past}
use Rattle.games.proofs.Gone.{all-gone}
use Rattle.cases.specs.Filled.{placed_at}
use Rattle.cases.specs.declared.Person.{Person}
use Rattle.cases.specs.declared.Step.{Step}
use Rattle.cases.specs.declared.Filled.{Filled}
use Rattle.boards.specs.Arena.{Done, by, put_on, board_arena}
use Rattle.tries.specs.Outcomes.{beats_on, pass_on}
use Rattle.tries.specs.Trying.{step_on, Alone, InLine}
use Rattle.games.proofs.Cuts.{plus-zero, finished, over, ends}
use Rattle.tries.proofs.Scans.{Hunt, Going, going_start}
use Rattle.tries.proofs.Hunts.{first}
use Rattle.tries.proofs.Lines.{naming, beating, showing, fit-inside, plan-line, turn-line, advice-line, dynamic-line}
use Rattle.tries.proofs.Sweeps.{Sweep, sweep-start}

-- ---- steps that are left

pub above_zero : {left : ℕ} → (left ≡ 0 → ⊥) → 0 < left
above_zero f = omega arith

pub some_left : {left : ℕ} → 0 < left → left ≡ 0 → ⊥
some_left h e = omega arith

-- ---- the position that a placing leaves

pub placed-is : (b : List ℕ) (p q : Filled) (s : Step) (v : Person) → q ≡ placed_at p s.0 v → s.0 ≡ step_on b p → q ≡ put_on p v.0 (step_on b p)
unfolding put_on
placed-is b p q s v e d = e ∙ ap (λ (x : ℕ). placed_at p x v) d

-- nobody, as a number
pub nobody-shown : {s : People} → s ≡ no_people → number s ≡ 0
nobody-shown e = ap number e ∙ number-none

-- ---- what is hunted for at a position

module _ (b : List ℕ) (n : ℕ) where
  abbrev pub plan_hunt : ℕ → ℕ → Filled → Hunt (Option Filled) (Option Filled) (Unit {0})
  plan_hunt A k p = first (λ u. plan (board_arena b n) A k (put_on p u (step_on b p)))

  abbrev pub advice_hunt : ℕ → ℕ → Filled → Hunt (Option ℕ) (Option (ℕ × Done)) (Unit {0})
  advice_hunt t k p = naming (λ u. by u (step_on b p)) (λ u. dynamic (board_arena b n) t k (put_on p u (step_on b p)))

  abbrev pub dynamic_hunt : ℕ → ℕ → Filled → Hunt (Option ℕ) (Option ℕ) (ℕ × ℕ)
  dynamic_hunt t k p = showing t (λ u. dynamic (board_arena b n) t k (put_on p u (step_on b p)))

  abbrev pub desk_hunt : ℕ → ℕ → ℕ → Filled → Hunt (Option ℕ) (Option ℕ) (Unit {0})
  desk_hunt t A k p = beating A (λ u. decremental (board_arena b n) t k A (put_on p u (step_on b p)))

  abbrev pub pass_hunt : ℕ → ℕ → Filled → Hunt (Option ℕ) (Option ℕ) (Unit {0})
  pass_hunt t k p = beating 0 (λ u. one_shot (board_arena b n) t k (put_on p u (step_on b p)))

-- ---- with no step left

seek-nothing : (f : ℕ → Search ℕ) (xs : List ℕ) → ((x : ℕ) → f x ≡ record { got = none; trials = 0 }) → seek f xs ≡ record { got = none; trials = 0 }
unfolding seek or_else
seek-nothing f [] e = refl
seek-nothing f (x ∷ xs) e = ap (λ (w : Search ℕ). or_else w.got w.trials (λ _. seek f xs)) (e x) ∙ plus-zero (seek f xs) ∙ seek-nothing f xs e

module _ (G : Arena) (k : ℕ) (p : G.Pos) (z : k ≡ 0) where
  pub plan-full : (A : ℕ) → plan G A k p ≡ record { got = some p; trials = 0 }
  unfolding plan
  plan-full A = ap (λ (j : ℕ). plan G A j p) z

  pub dynamic-full : (t : ℕ) → dynamic G t k p ≡ record { got = none; trials = 0 }
  unfolding dynamic
  dynamic-full t = ap (λ (j : ℕ). dynamic G t j p) z

  pub decremental-full : (t c : ℕ) → decremental G t k c p ≡ record { got = none; trials = 0 }
  unfolding decremental
  decremental-full t c = ap (λ (j : ℕ). decremental G t j c p) z

  pub advice-full : (t A : ℕ) → advice G t k A p ≡ record { got = none; trials = 0 }
  unfolding advice
  advice-full t A = ap (λ (j : ℕ). advice G t j A p) z

  pub one_shot-full : (t : ℕ) → one_shot G t k p ≡ record { got = none; trials = 0 }
  unfolding one_shot
  one_shot-full t = ap (λ (j : ℕ). one_shot G t j p) z

  -- each set finds a plan at once, in no trial
  pub static-full : (t : ℕ) → static G t k p ≡ record { got = none; trials = 0 }
  unfolding static plan if_none
  static-full t =
      ap (λ (j : ℕ). static G t j p) z
      ∙ seek-nothing (λ A. if_none A (plan G A 0 p)) (sets G.people t 0) (λ A. refl)

-- ---- where a loop starts: k steps are left, at least one

module _ (b : List ℕ) (n k : ℕ) (p : Filled) (limit T F : ℕ) (some_left : k ≡ 0 → ⊥) (h : n ≤ width) (one : Alone b p) where
  one_less : (j : ℕ) → (j ≡ 0 → ⊥) → j ≡ suc (j - 1)
  one_less j f = omega arith

  pub plan-going : (A : ℕ) → InLine b n A p T F → Going (plan_hunt b n A (k - 1) p) (plan (board_arena b n) A k p) limit T F 0 tt
  plan-going A l =
      going_start _ _ limit T F tt (fit-inside b n A p T F one l h)
      (ap (λ (j : ℕ). plan (board_arena b n) A j p) (one_less k some_left) ∙ plan-line b n A p T F one l h (k - 1))

  pub dynamic-going : (t : ℕ) → InLine b n 0 p T F → Going (dynamic_hunt b n t (k - 1) p) (dynamic (board_arena b n) t k p) limit T F 0 (0, 0)
  dynamic-going t l =
      going_start _ _ limit T F (0, 0) (fit-inside b n 0 p T F one l h)
      (ap (λ (j : ℕ). dynamic (board_arena b n) t j p) (one_less k some_left) ∙ dynamic-line b n p T F one l h t (k - 1))

  pub advice-going : (t A : ℕ) → InLine b n A p T F → Going (advice_hunt b n t (k - 1) p) (advice (board_arena b n) t k A p) limit T F 0 tt
  advice-going t A l =
      going_start _ _ limit T F tt (fit-inside b n A p T F one l h)
      (ap (λ (j : ℕ). advice (board_arena b n) t j A p) (one_less k some_left) ∙ advice-line b n A p T F one l h t (k - 1))

pub desk-going : (b : List ℕ) (n k : ℕ) (p : Filled) (limit T F : ℕ) → n ≤ width → Alone b p → (t A : ℕ) → InLine b n A p T F
    → Going (desk_hunt b n t A k p) (beats_on b n t k p A) limit T F 0 tt
unfolding beats_on
desk-going b n k p limit T F h one t A l = going_start _ _ limit T F tt (fit-inside b n A p T F one l h) (turn-line b n A p T F one l h (decremental (board_arena b n) t k A))

pub pass-going : (b : List ℕ) (n k : ℕ) (p : Filled) (limit T F : ℕ) → n ≤ width → Alone b p → (t : ℕ) → InLine b n 0 p T F
    → Going (pass_hunt b n t k p) (pass_on b n t k p) limit T F 0 tt
unfolding pass_on
pass-going b n k p limit T F h one t l = going_start _ _ limit T F tt (fit-inside b n 0 p T F one l h) (turn-line b n 0 p T F one l h (one_shot (board_arena b n) t k))

-- a turn of the away side, and the static walk, go over sets
pub away-going : (b : List ℕ) (n t k c limit : ℕ) (p : Filled) → (k ≡ 0 → ⊥) → c < 2 ^ n → size n c ≤ t
    → Sweep (beats_on b n t (k - 1) p) (decremental (board_arena b n) t k c p) n t c limit c 0
unfolding decremental beats_on
away-going b n t k c limit p f l h =
    let e : k ≡ suc (k - 1) = omega arith in
    sweep-start _ _ n t c limit l h (ap (λ (j : ℕ). decremental (board_arena b n) t j c p) e)

-- a turn of the away side that has not struck: the pass, or else the strikes
pub one_shot-turn : (b : List ℕ) (n t k : ℕ) (p : Filled) → (k ≡ 0 → ⊥)
    → or_else (pass_on b n t (k - 1) p).got (pass_on b n t (k - 1) p).trials (λ _. static (board_arena b n) t k p) ≡ one_shot (board_arena b n) t k p
unfolding one_shot pass_on
one_shot-turn b n t k p f =
    let e : k ≡ suc (k - 1) = omega arith in
    let e' : suc (k - 1) ≡ k = omega arith in
    ap (λ (j : ℕ). or_else (pass_on b n t (k - 1) p).got (pass_on b n t (k - 1) p).trials (λ _. static (board_arena b n) t j p)) e
    ∙ ap (λ (j : ℕ). one_shot (board_arena b n) t j p) e'

-- with all gone who may go, the rest is a plan without them
pub gone-walk : (b : List ℕ) (n t k A z : ℕ) (p : Filled) → n ≤ width → A < 2 ^ n → z ≡ size width A → z ≡ t
    → if_none A (plan (board_arena b n) A k p) ≡ decremental (board_arena b n) t k A p
gone-walk b n t k A z p h l e g =
    sym (all-gone (board_arena b n) t A l (size-width n width A l (lt_of_lt_of_le l (pow_mono h)) ∙ sym e ∙ g) k p)

-- ---- the next set, as the code answers it

pub next-some : {r : code.Option People} {x : People} (n t c s : ℕ) → n ≤ width → r ≡ code.Some x → next_number r ≡ next_set (min n width) t c s → some (number x) ≡ next_set n t c s
unfolding next_number
next-some n t c s h e k = sym (ap next_number e) ∙ k ∙ ap (λ (m : ℕ). next_set m t c s) (min-eq_left h)

pub next-none : {r : code.Option People} (n t c s : ℕ) → n ≤ width → r ≡ code.None → next_number r ≡ next_set (min n width) t c s → none ≡ next_set n t c s
unfolding next_number
next-none n t c s h e k = sym (ap next_number e) ∙ k ∙ ap (λ (m : ℕ). next_set m t c s) (min-eq_left h)

-- ---- A is got exactly if the plan walk gets nothing

module _ {B : Type 0} (l A : ℕ) (w : Search B) where
  pub lacks-limit : stopped l ≡ cut l w → stopped l ≡ cut l (if_none A w)
  unfolding if_none
  lacks-limit e = sym (cut-past l (if_none A w) (over l w e))

  pub lacks-none : (c : ℕ) → whole (record { got = none; trials = c }) ≡ cut l w → whole (record { got = some A; trials = c }) ≡ cut l (if_none A w)
  unfolding if_none
  lacks-none c e =
      let d = finished l w none c e in
      ends l (if_none A w) (some A) c (ap₂ (λ (o : Option B) (k : ℕ). record { got = lacking A o; trials = k }) d.got d.trials) d.within

  pub lacks-some : (b : B) (c : ℕ) → whole (record { got = some b; trials = c }) ≡ cut l w → whole (record { got = none; trials = c }) ≡ cut l (if_none A w)
  unfolding if_none
  lacks-some b c e =
      let d = finished l w (some b) c e in
      ends l (if_none A w) none c (ap₂ (λ (o : Option B) (k : ℕ). record { got = lacking A o; trials = k }) d.got d.trials) d.within
