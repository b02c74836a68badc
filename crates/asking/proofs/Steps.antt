-- What the code's steps come to, over plain values.
use mathlib.Core.Path.{◌≡◌, refl, sym, ap, ap₂, ◌∙◌}
use mathlib.Core.Bool.{Bool, true, false, not, ◌&&◌, ◌||◌}
use mathlib.Core.Option.{some}
use mathlib.Core.List.{List, [], ◌∷◌}
use Prim.Native.Nat.{ℕ, ◌+◌, ◌≤◌, ◌<◌}
use native.Mathlib.Numerals.{add-one}
use native.Mathlib.Decide.{dec_lt}
use native.Mathlib.Omega.{arith}
use borrow.Author.Tests.{lt-ltb, le-ltb, not-false}
use lib.Dec.{ltb}
use lib.ListN.{length, get_or, take, length-take}
use lib.Seq.{take-suc, take_all}
use Rattle.sets.specs.Lists.{pick}
use Rattle.sets.specs.Sets.{has, common, size, past}
use Rattle.sets.specs.Stored.{width}
use Rattle.cases.specs.declared.Position.{Position}
use Rattle.sets.proofs.Bits.{has-beyond}
use Rattle.sets.proofs.Counting.{has-set_of, set_of-lt}
use Rattle.cases.specs.declared.Person.{Person}
use Rattle.cases.specs.declared.Filled.{Filled}
use Rattle.cases.specs.Positions.{persons}
use Rattle.cases.specs.Filled.{start_filled, placed_at}
use Rattle.cases.proofs.Positions.{persons-length}
use Rattle.boards.specs.Board.{allowed_on, fits_on}
use Rattle.boards.specs.Arena.{put_on}
use Rattle.meaning.specs.Listed.{fill_from, filled_by}
use Rattle.meaning.proofs.Listed.{filled-snoc}
use Rattle.refusals.specs.Refusals.{Judged, Good, Refused, refusal, only_check, refusal_at, judged_by, found_first, or_else}
use Rattle.refusals.proofs.Search.{Searched, search-start, search-step, search-hit, search-end}
use Rattle.asking.specs.Asking.{absence_check}
use Rattle.asking.specs.OnBoard.{bad_next, bad_entry_on, position_check_on}

-- ---- An absence set

-- one check of either of two, or a check of each
either_check : (a b : Bool) → judged_by (only_check 14 (a || b) ∷ []) ≡ or_else (judged_by (only_check 14 a ∷ [])) (judged_by (only_check 14 b ∷ []))
unfolding judged_by
either_check true b = refl
either_check false b = refl

pub absent-judged : (n t A : ℕ) (i k : Judged) {p : Bool} {s : ℕ} → p ≡ past width A n → i ≡ judged_by (only_check 14 p ∷ [])
    → s ≡ size width A → k ≡ judged_by (only_check 14 (ltb t s) ∷ []) → or_else i k ≡ judged_by (absence_check n t A ∷ [])
unfolding absence_check
absent-judged n t A i k e f g h =
    ap₂ or_else
    (f ∙ ap (λ (x : Bool). judged_by (only_check 14 x ∷ [])) e)
    (h ∙ ap (λ (x : ℕ). judged_by (only_check 14 (ltb t x) ∷ [])) g)
    ∙ sym (either_check (past width A n) (ltb t (size width A)))

-- ---- The tests of one person

module _ (b : List ℕ) (n : ℕ) (p : Filled) (s v : ℕ) where
  pub next-unknown : n ≤ v → true ≡ bad_next b n p s v
  unfolding bad_next
  next-unknown h = simp (le-ltb v n h)

  pub next-barred : {here : ℕ} {r : Bool} → v < n → here ≡ allowed_on b s → r ≡ has here v → not r ≡ true → true ≡ bad_next b n p s v
  unfolding bad_next
  next-barred h e q t = sym (simp (lt-ltb v n h, ← e, ← q, t))

  -- of those who may do the step, who fits
  fits-there : (here : ℕ) {fit : ℕ} → has here v ≡ true → fit ≡ common width here (fits_on b p s) → has fit v ≡ has (fits_on b p s) v
  unfolding fits_on
  fits-there here e f = ap (λ x. has x v) f ∙ go (dec_lt v width)
    where
      go : Dec (v < width) → has (common width here (fits_on b p s)) v ≡ has (fits_on b p s) v
      go (yes l) = has-set_of (λ u. has here u && has (fits_on b p s) u) width v l ∙ ap (λ (x : Bool). x && has (fits_on b p s) v) e
      go (no l) = has-beyond width _ v (set_of-lt _ width) (omega arith) ∙ sym (has-beyond width _ v (set_of-lt _ width) (omega arith))

  pub next_last : {here fit : ℕ} {r y : Bool} → v < n → here ≡ allowed_on b s → r ≡ has here v → not r ≡ false
      → fit ≡ common width here (fits_on b p s) → y ≡ has fit v → not y ≡ bad_next b n p s v
  unfolding bad_next
  next_last {here} {fit} {r} {y} h e q t f g =
      let there : has here v ≡ true = sym q ∙ not-false r t in
      let k : y ≡ has (fits_on b p s) v = g ∙ fits-there here there f in
      sym (simp (lt-ltb v n h, ← e, ← q, t, ← k))

-- ---- The loops: i entries are passed, and placed

pub record Placed (p : Position) (i : ℕ) (q : Filled) : Type 0 where
  pub upto : i ≤ p.len
  pub same : q ≡ filled_by (take i (persons p))

module _ (p : Position) where
  pub placed-start : {q : Filled} → q ≡ start_filled → Placed p 0 q
  unfolding filled_by fill_from
  placed-start e = record { upto = omega arith; same = e }

  pub placed-step : {i : ℕ} {q o : Filled} {v : Person} → Placed p i q → i < p.len → v.0 ≡ get_or (persons p) i 0 → o ≡ placed_at q i v → Placed p (i + 1) o
  unfolding put_on
  placed-step {i} {q} {o} {v} s l e g =
      record {
        upto = omega arith;
        same =
            g ∙ ap₂ (λ r u. put_on r u i) s.same e
            ∙ ap (put_on (filled_by (take i (persons p))) (get_or (persons p) i 0)) at
            ∙ sym (filled-snoc (take i (persons p)) (get_or (persons p) i 0))
            ∙ ap filled_by (sym (take-suc (persons p) i 0 (omega (arith, persons-length p))) ∙ ap (λ k. take k (persons p)) (sym (add-one i)));
      }
    where
      at : i ≡ length (take i (persons p))
      at = omega (arith, length-take i (persons p), persons-length p)

  pub placed-all : {i : ℕ} {q : Filled} → Placed p i q → p.len ≤ i → q ≡ filled_by (persons p)
  placed-all {i} s l = s.same ∙ ap filled_by (take_all i (persons p) (omega (arith, persons-length p, s.upto)))

-- and none of them failed
pub record Passed (b : List ℕ) (n : ℕ) (p : Position) (i : ℕ) (q : Filled) : Type 0 where
  pub searched : Searched (bad_entry_on b n (persons p)) (length (persons p)) i
  pub placed : Placed p i q

module _ (b : List ℕ) (n : ℕ) (p : Position) where
  pub passed_start : {q : Filled} → q ≡ start_filled → Passed b n p 0 q
  passed_start e = record { searched = search-start _ _; placed = placed-start p e }

  pub passed-test : {i v : ℕ} {q : Filled} {r : Bool} → Passed b n p i q → v ≡ get_or (persons p) i 0 → r ≡ bad_next b n q i v
      → r ≡ bad_entry_on b n (persons p) i
  unfolding bad_entry_on
  passed-test {i} s e t = t ∙ ap₂ (λ q v. bad_next b n q i v) s.placed.same e

  pub passed-step : {i : ℕ} {q o : Filled} {v : Person} {r : Bool} → Passed b n p i q → i < p.len → v.0 ≡ get_or (persons p) i 0
      → r ≡ bad_next b n q i v.0 → r ≡ false → o ≡ placed_at q i v → Passed b n p (i + 1) o
  passed-step {i} {q} s l e t f g =
      record {
        searched = search-step _ _ s.searched (omega (arith, persons-length p)) (passed-test s e t) f;
        placed = placed-step p s.placed l e g;
      }

  -- what the check is: where the position is too long, at the first entry that fails, and where none does
  abbrev Check-is : ℕ → Judged
  Check-is steps = judged_by (position_check_on b n steps (persons p) ∷ [])

  -- where the test of the length comes out as x
  abbrev As : ℕ → Bool → Judged
  As steps x =
      judged_by (pick x (refusal_at 13 (λ i. i) (found_first (bad_entry_on b n (persons p)) (length (persons p)))) (some (refusal 13 steps)) ∷ [])

  shown : (steps : ℕ) → p.len < steps → As steps true ≡ Check-is steps
  unfolding position_check_on
  shown steps h = ap (As steps) (sym (lt-ltb (length (persons p)) steps (omega (arith, persons-length p))))

  pub position-long : (steps : ℕ) → steps ≤ p.len → Refused (refusal 13 steps) ≡ Check-is steps
  unfolding position_check_on judged_by
  position-long steps h = ap (As steps) (sym (le-ltb (length (persons p)) steps (omega (arith, persons-length p))))

  pub position-hit : (steps : ℕ) {i : ℕ} {q : Filled} {v : ℕ} {r : Bool} → p.len < steps → Passed b n p i q → i < p.len → v ≡ get_or (persons p) i 0
      → r ≡ bad_next b n q i v → r ≡ true → Refused (refusal 13 i) ≡ Check-is steps
  unfolding judged_by
  position-hit steps h s l e t f =
      ap (λ o. judged_by (refusal_at 13 (λ i. i) o ∷ [])) (search-hit _ _ s.searched (omega (arith, persons-length p)) (passed-test s e t) f)
      ∙ shown steps h

  pub position-end : (steps : ℕ) {i : ℕ} {q : Filled} → p.len < steps → Passed b n p i q → p.len ≤ i → Good ≡ Check-is steps
  unfolding judged_by
  position-end steps h s l =
      ap (λ o. judged_by (refusal_at 13 (λ i. i) o ∷ [])) (search-end _ _ s.searched (omega (arith, persons-length p))) ∙ shown steps h
