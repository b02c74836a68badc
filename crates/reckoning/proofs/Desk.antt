-- A turn of the desk on a board that the first who fits holds. What is taken from `tries` is taken here.
use mathlib.Core.Path.{◌≡◌, refl, sym, ap, ◌∙◌}
use mathlib.Core.Option.{Option, some}
use mathlib.Core.Bool.{Bool, true, false, not, ◌&&◌, true≢false}
use mathlib.Core.List.{List}
use Prim.Native.Nat.{ℕ, suc, ◌+◌, ◌≤◌, ◌<◌}
use native.Mathlib.Omega.{arith}
use borrow.Author.Tests.{ltb-true, not-true}
use lib.Dec.{ltb}
use Rattle.sets.specs.Sets.{has, count, members, lowest, size_before, common, difference, everybody, after}
use Rattle.sets.specs.Stored.{width}
use Rattle.sets.proofs.Lists.{and-true, and-true-end, and-false-end}
use Rattle.sets.proofs.Counting.{count-ext, count_cut}
use Rattle.sets.proofs.Members.{lowest-is}
use Rattle.games.specs.Walks.{Walk, Search, plus, desk}
use Rattle.cases.specs.declared.Filled.{Filled}
use Rattle.boards.specs.Board.{fits_on}
use Rattle.boards.specs.Arena.{put_on, board_arena}
use Rattle.tries.specs.Trying.{step_on, Alone, asked, InLine}
use Rattle.tries.proofs.Scans.{scan, turn, came-to}
use Rattle.tries.proofs.Hunts.{first, first_found}
use Rattle.tries.proofs.Lines.{in-tried, in-fit, fit-inside, desk-line}

module _ (b : List ℕ) (n A : ℕ) (p : Filled) (T F : ℕ) (one : Alone b p) (line : InLine b n A p T F) (h : n ≤ width) where
  -- whoever fits is one of n people, and present
  fit-tried : (u : ℕ) → u < width → has F u ≡ true → has T u ≡ true
  fit-tried u l e = (and-true (has T u) (has (fits_on b p (step_on b p)) u) (sym (in-fit b n A p T F one line h u l) ∙ e)).0

  pub tried-listed : (u : ℕ) → u < width → has T u ≡ true → (u < n) × (has A u ≡ false)
  tried-listed u l e =
      let k = and-true (has (asked b p) u && not (has A u)) (ltb u n) (sym (in-tried b n A p T F one line h u l) ∙ e) in
      (ltb-true u n k.1, not-true (has A u) (and-true (has (asked b p) u) (not (has A u)) k.0).1)

  pub fit-listed : (u : ℕ) → u < width → has F u ≡ true → (u < n) × (has A u ≡ false)
  fit-listed u l e = tried-listed u l (fit-tried u l e)

  -- with S away, which holds everybody of A, person v is the first of F who is present
  module _ (M S v : ℕ) (missed : (u : ℕ) → u < width → has M u ≡ has T u && not (has F u))
      (more : (u : ℕ) → has A u ≡ true → has S u ≡ true) (known : v < width) (fit : has F v ≡ true) (here : has S v ≡ false)
      (earlier : (u : ℕ) → u < v → has F u ≡ true → has S u ≡ true) where
    abbrev TS : ℕ
    TS = common width (difference width (asked b p) S) (everybody width n)

    abbrev FS : ℕ
    FS = common width TS (fits_on b p (step_on b p))

    line-S : InLine b n S p TS FS
    line-S = record { tried = refl; fit = refl }

    -- among those present, the same people are in line and fit
    same-tried : (u : ℕ) → u < width → has S u ≡ false → has TS u ≡ has T u
    same-tried u l e =
        in-tried b n S p TS FS one line-S h u l
        ∙ ap (λ (x : Bool). (has (asked b p) u && not x) && ltb u n) (e ∙ sym (outside (has A u) refl))
        ∙ sym (in-tried b n A p T F one line h u l)
      where
        outside : (x : Bool) → has A u ≡ x → has A u ≡ false
        outside true q = absurd (true≢false (sym (more u q) ∙ e))
        outside false q = q

    same-fit : (u : ℕ) → u < width → has S u ≡ false → has FS u ≡ has F u
    same-fit u l e =
        in-fit b n S p TS FS one line-S h u l ∙ ap (λ (x : Bool). x && has (fits_on b p (step_on b p)) u) (same-tried u l e) ∙ sym (in-fit b n A p T F one line h u l)

    tried-away : (u : ℕ) → u < width → has S u ≡ true → has TS u ≡ false
    tried-away u l e =
        in-tried b n S p TS FS one line-S h u l
        ∙ ap (λ (x : Bool). (has (asked b p) u && not x) && ltb u n) e
        ∙ ap (λ (x : Bool). x && ltb u n) (and-false-end (has (asked b p) u))

    first-is : lowest width FS ≡ some v
    first-is = lowest-is width FS v known (same-fit v known here ∙ fit) (λ u l. at u l (has S u) refl)
      where
        at : (u : ℕ) → u < v → (x : Bool) → has S u ≡ x → has FS u ≡ false
        at u l true e = in-fit b n S p TS FS one line-S h u (omega arith) ∙ ap (λ (x : Bool). x && has (fits_on b p (step_on b p)) u) (tried-away u (omega arith) e)
        at u l false e = same-fit u (omega arith) e ∙ misfit (has F u) refl
          where
            misfit : (x : Bool) → has F u ≡ x → has F u ≡ false
            misfit true q = absurd (true≢false (sym (earlier u l q) ∙ e))
            misfit false q = q

    -- each of M who is present and before v is tried in vain
    in-vain : size_before width TS v ≡ count (λ u. has M u && not (has S u)) v
    unfolding size_before
    in-vain = count_cut (has TS) v width (omega arith) ∙ count-ext (has TS) (λ u. has M u && not (has S u)) v (λ u l. at u l (has S u) refl)
      where
        at : (u : ℕ) → u < v → (x : Bool) → has S u ≡ x → has TS u ≡ has M u && not x
        at u l true e = tried-away u (omega arith) e ∙ sym (and-false-end (has M u))
        at u l false e =
            same-tried u (omega arith) e
            ∙ sym (and-true-end (has T u))
            ∙ ap (λ (x : Bool). has T u && not x) (sym (misfit (has F u) refl))
            ∙ sym (missed u (omega arith))
            ∙ sym (and-true-end (has M u))
          where
            misfit : (x : Bool) → has F u ≡ x → has F u ≡ false
            misfit true q = absurd (true≢false (sym (earlier u l q) ∙ e))
            misfit false q = q

    pub desk-first : {B : Type 0} (judge : Filled → Search B) (e : B) (d : ℕ) → judge (put_on p v (step_on b p)) ≡ record { got = some e; trials = d }
        → desk (board_arena b n) judge S p ≡ record { got = some e; trials = suc (count (λ u. has M u && not (has S u)) v) + d }
    unfolding plus
    desk-first {B} judge e d q =
        desk-line b n S p TS FS one line-S h judge
        ∙ came-to (first (λ u. judge (put_on p u (step_on b p)))) TS FS tt (fit-inside b n S p TS FS one line-S h) v first-is
        ∙ ap (λ (w : Search B). plus (suc (size_before width TS v)) (plus w.trials (turn (first_found w.got tt) rest))) q
        ∙ ap (λ (k : ℕ). record { got = some e; trials = k }) total
      where
        rest : Unit {0} → Walk (Option B)
        rest = scan (first (λ u. judge (put_on p u (step_on b p)))) (after width FS v) (members width (after width TS v))

        total : suc (size_before width TS v) + (d + 0) ≡ suc (count (λ u. has M u && not (has S u)) v) + d
        total = omega (arith, in-vain)
