-- Where the desk may choose its step: every walk there is a scan of the lines at the position; and the position that a move leaves.
use mathlib.Core.Path.{◌≡◌, refl, sym, ap, ◌∙◌, subst}
use mathlib.Core.Option.{Option}
use mathlib.Core.Bool.{Bool, not, ◌&&◌}
use mathlib.Core.List.{List, map}
use Prim.Native.Nat.{ℕ, suc, ◌-◌, ◌≤◌, ◌<◌}
use native.Mathlib.Omega.{arith}
use lib.Dec.{ltb}
use Rattle.sets.specs.Lists.{upto, keep}
use Rattle.sets.specs.Sets.{has, common, everybody}
use Rattle.sets.specs.Stored.{width, number}
use Rattle.sets.proofs.Lists.{and-true-end}
use Rattle.sets.proofs.Bits.{has-empty}
use Rattle.sets.proofs.Counting.{has-set_of}
use Rattle.sets.proofs.Records.{number-stored}
use Rattle.games.specs.Walks.{plan, decremental, one_shot, dynamic, advice}
use Rattle.cases.specs.declared.Filled.{Filled}
use Rattle.cases.specs.Case.{most_steps}
use Rattle.cases.specs.Filled.{placed_at}
use Rattle.boards.specs.Board.{allowed_on, ready_on, fits_on}
use Rattle.boards.specs.Arena.{Done, by, put_on, board_arena}
use Rattle.boards.specs.Looked.{Agree}
use Rattle.boards.proofs.Looked.{agree-put}
use Rattle.lines.specs.declared.Line.{Line}
use Rattle.lines.specs.declared.Lines.{Lines}
use Rattle.lines.specs.declared.Cursor.{Cursor}
use Rattle.lines.specs.Moves.{move, line_at, lines_of, step_of, Without}
use Rattle.lines.proofs.Scans.{Hunt, Going, going_start}
use Rattle.lines.proofs.Hunts.{first, naming_as, beating, showing}
use Rattle.lines.proofs.Lined.{Offers, Lined, lined-without, desk-lined, beats-lined, advice-named, dynamic-lined}
use Rattle.tries.specs.Outcomes.{beats_on, pass_on}
use Rattle.tries.specs.Choices.{tried_at, line_on, lines_on}

-- the lines that the code made
pub lines-ready : (b : List ℕ) (n : ℕ) (p : Filled) (l : Lines) (r : ℕ) → lines_of l ≡ map (line_on b n p) (keep (has r) (upto most_steps)) → r ≡ ready_on b p → lines_of l ≡ lines_on b n p
lines-ready b n p l r e d = e ∙ ap (λ (x : ℕ). map (line_on b n p) (keep (has x) (upto most_steps))) d

-- ---- they are the moves of the board's arena

module _ (b : List ℕ) (n : ℕ) (p : Filled) where
  unfoldable pub offers : Offers (board_arena b n) p (has (ready_on b p)) (allowed_on b) (fits_on b p) (λ u s. put_on p u s)
  offers = record { by = by; moves = λ u. refl; after = λ u s. refl }

  pub lined : (l : Lines) → lines_of l ≡ lines_on b n p → Lined n 0 (has (ready_on b p)) (allowed_on b) (fits_on b p) l
  lined l e =
      record {
        line = line_on b n p;
        lines = e;
        step = λ s. refl;
        tried = λ s u h. in-tried s u h ∙ sym (ap (λ (x : Bool). (has (allowed_on b s) u && ltb u n) && not x) (has-empty u) ∙ and-true-end (has (allowed_on b s) u && ltb u n));
        fitting = λ s u h t. ap (λ x. has x u) (number-stored (common width (tried_at b n p s) (fits_on b p s)))
            ∙ has-set_of (λ w. has (tried_at b n p s) w && has (fits_on b p s) w) width u h
            ∙ ap (λ (x : Bool). x && has (fits_on b p s) u) (sym (ap (λ x. has x u) (number-stored (tried_at b n p s))) ∙ in-tried s u h ∙ t);
      }
    where
      in-tried : (s u : ℕ) → u < width → has (number (line_on b n p s).tried) u ≡ has (allowed_on b s) u && ltb u n
      in-tried s u h =
          ap (λ x. has x u) (number-stored (tried_at b n p s))
          ∙ has-set_of (λ w. has (allowed_on b s) w && has (everybody width n) w) width u h
          ∙ ap (λ (x : Bool). has (allowed_on b s) u && x) (has-set_of (λ w. ltb w n) width u h)

-- ---- what is hunted for

module _ (b : List ℕ) (n : ℕ) (p : Filled) (l : Lines) where
  -- the position that a move leaves
  abbrev pub leaves : Cursor → Filled
  leaves m = put_on p m.person (step_of l m)

  abbrev pub plan_hunt : ℕ → ℕ → Hunt Cursor (Option Filled) (Option Filled) (Unit {0})
  plan_hunt A k = first (λ m. plan (board_arena b n) A k (leaves m))

  abbrev pub advice_hunt : ℕ → ℕ → Hunt Cursor (Option ℕ) (Option (ℕ × Done)) (Unit {0})
  advice_hunt t k = naming_as (λ m. (m.person, by m.person (step_of l m))) (λ m. dynamic (board_arena b n) t k (leaves m))

  abbrev pub dynamic_hunt : ℕ → ℕ → Hunt Cursor (Option ℕ) (Option ℕ) (ℕ × ℕ)
  dynamic_hunt t k = showing (λ m. m.person) t (λ m. dynamic (board_arena b n) t k (leaves m))

  abbrev pub desk_hunt : ℕ → ℕ → ℕ → Hunt Cursor (Option ℕ) (Option ℕ) (Unit {0})
  desk_hunt t A k = beating A (λ m. decremental (board_arena b n) t k A (leaves m))

  abbrev pub pass_hunt : ℕ → ℕ → Hunt Cursor (Option ℕ) (Option ℕ) (Unit {0})
  pass_hunt t k = beating 0 (λ m. one_shot (board_arena b n) t k (leaves m))

-- ---- where a loop starts: k steps are left, at least one

module _ (b : List ℕ) (n k : ℕ) (p : Filled) (limit : ℕ) (l : Lines) (some_left : k ≡ 0 → ⊥) (h : n ≤ width) (few : l.count ≤ most_steps) (e : lines_of l ≡ lines_on b n p) where
  small : (r : Lines) → r.count ≡ l.count → r.count < 256
  small r d = omega (arith, few, d)

  one_less : k ≡ suc (k - 1)
  one_less = omega arith

  pub dynamic-choosing : (t : ℕ) → Going (dynamic_hunt b n p l t (k - 1)) l (dynamic (board_arena b n) t k p) limit (move 0 0) 0 (0, 0)
  dynamic-choosing t =
      going_start _ l _ limit (0, 0) (small l refl)
      (ap (λ (j : ℕ). dynamic (board_arena b n) t j p) one_less
      ∙ dynamic-lined (board_arena b n) p 0 (has (ready_on b p)) (allowed_on b) (fits_on b p) (λ u s. put_on p u s) l (offers b n p) (lined b n p l e) h refl t (k - 1))

  pub pass-choosing : (t : ℕ) → Going (pass_hunt b n p l t (k - 1)) l (pass_on b n t (k - 1) p) limit (move 0 0) 0 tt
  unfolding pass_on
  pass-choosing t =
      going_start _ l _ limit tt (small l refl)
      (beats-lined (board_arena b n) p 0 (has (ready_on b p)) (allowed_on b) (fits_on b p) (λ u s. put_on p u s) l (offers b n p) (lined b n p l e) h (one_shot (board_arena b n) t (k - 1)))

  -- some people are taken off the lines
  module _ (A : ℕ) (r : Lines) (w : Without l A l.count r) where
    pub plan-choosing : Going (plan_hunt b n p r A (k - 1)) r (plan (board_arena b n) A k p) limit (move 0 0) 0 tt
    unfolding plan
    plan-choosing =
        going_start _ r _ limit tt (small r w.count)
        (ap (λ (j : ℕ). plan (board_arena b n) A j p) one_less
        ∙ desk-lined (board_arena b n) p A (has (ready_on b p)) (allowed_on b) (fits_on b p) (λ u s. put_on p u s) r (offers b n p) (lined-without A (lined b n p l e) w) h (plan (board_arena b n) A (k - 1)))

    pub desk-choosing : (t : ℕ) → Going (desk_hunt b n p r t A (k - 1)) r (beats_on b n t (k - 1) p A) limit (move 0 0) 0 tt
    unfolding beats_on
    desk-choosing t =
        going_start _ r _ limit tt (small r w.count)
        (beats-lined (board_arena b n) p A (has (ready_on b p)) (allowed_on b) (fits_on b p) (λ u s. put_on p u s) r (offers b n p) (lined-without A (lined b n p l e) w) h (decremental (board_arena b n) t (k - 1) A))

    pub advice-choosing : (t : ℕ) → Going (advice_hunt b n p r t (k - 1)) r (advice (board_arena b n) t k A p) limit (move 0 0) 0 tt
    unfolding offers
    advice-choosing t =
        going_start _ r _ limit tt (small r w.count)
        (ap (λ (j : ℕ). advice (board_arena b n) t j A p) one_less
        ∙ advice-named (board_arena b n) p A (has (ready_on b p)) (allowed_on b) (fits_on b p) (λ u s. put_on p u s) r (offers b n p) (lined-without A (lined b n p l e) w) h t (k - 1))

-- ---- the position that a move leaves

pub move-leaves : (p p' : Filled) (x : Line) (l : Lines) (m : Cursor) → p' ≡ placed_at p x.step.0 (record { 0 = m.person }) → x ≡ line_at l m.line → p' ≡ put_on p m.person (step_of l m)
unfolding step_of put_on
move-leaves p p' x l m e d = e ∙ ap (λ (y : Line). put_on p m.person y.step.0) d

-- from every position that agrees

pub move-agree : {L : ℕ} {p q : Filled} (a : Agree L p q) (p' : Filled) (x : Line) (l : Lines) (m : Cursor)
    → p' ≡ placed_at p x.step.0 (record { 0 = m.person }) → x ≡ line_at l m.line → Agree L p' (put_on q m.person (step_of l m))
unfolding step_of put_on
move-agree {L} {p} {q} a p' x l m e d =
    subst (λ (y : Filled). Agree L y (put_on q m.person (line_at l m.line).step.0)) (sym e)
    (subst (λ (y : Line). Agree L (put_on p m.person x.step.0) (put_on q m.person y.step.0)) d (agree-put a x.step.0 m.person))
