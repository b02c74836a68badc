-- People who are all judged alike: one judging tells the rest of the line.
use mathlib.Core.Path.{◌≡◌, refl, sym, ap, ap₂, ◌∙◌, subst}
use mathlib.Core.Option.{none, some}
use mathlib.Core.Bool.{Bool, true, false, ◌&&◌}
use mathlib.Core.List.{List, [], ◌∷◌}
use Prim.Native.Nat.{ℕ, suc, ◌+◌, ◌*◌, ◌≤◌, ◌<◌}
use native.Mathlib.Nat.{suc-mul, mul-le-mul}
use native.Mathlib.Omega.{arith}
use borrow.Author.Tests.{leb-true, leb-false, le-leb, lt-leb}
use lib.ListN.{length}
use Rattle.sets.specs.Lists.{pick, only_if, cons_if, upto, keep}
use Rattle.sets.specs.Sets.{has, size, members}
use Rattle.sets.specs.Stored.{width}
use Rattle.sets.proofs.Lists.{keep-keep, keep-cong, upto-in}
use Rattle.sets.proofs.Counting.{count_most}
use Rattle.sets.proofs.Members.{members-length}
use Rattle.games.specs.Walks.{Walk, plus}
use Rattle.games.specs.Limit.{stopped, whole, cut}
use Rattle.tries.specs.Alike.{all_trials, all_spent}
use Rattle.games.proofs.Cuts.{finished, ends, stops, plus-zero, only-some, only_none}
use Rattle.tries.proofs.Scans.{Step, go, Hunt, turn, judged, scan, Inside, Going}

-- whoever is placed, the judging answers a after c trials
pub record Alike {A R S : Type 0} (h : Hunt A R S) (a : A) (c : ℕ) : Type 0 where
  pub got : (u : ℕ) → (h.sub u).got ≡ a
  pub trials : (u : ℕ) → (h.sub u).trials ≡ c

-- the same line, as the code has it
pub going-as : {A R S : Type 0} {h : Hunt A R S} {total : Walk R} {limit T F used : ℕ} {s : S} (g : Going h total limit T F used s) {T' F' : ℕ} → T' ≡ T → F' ≡ F
    → Going h total limit T' F' used s
going-as {h = h} {total} {limit} {T} {used = used} {s} g {F' = F'} e d =
    subst (λ (x : ℕ). Going h total limit x F' used s) (sym e) (subst (λ (y : ℕ). Going h total limit T y used s) (sym d) g)

-- those of F, who are in T, as they stand in the line
fit-many : (T F : ℕ) → Inside F T → length (keep (has F) (members width T)) ≡ size width F
unfolding members
fit-many T F i =
    ap length (keep-keep (has T) (has F) (upto width) ∙ keep-cong _ (has F) (upto width) (λ u m. only (has T u) (has F u) (i u (upto-in width u m)))) ∙ members-length width F
  where
    only : (x y : Bool) → (y ≡ true → x ≡ true) → x && y ≡ y
    only true y f = refl
    only false true f = f refl
    only false false f = refl

-- ---- a walk that takes the trials of a whole line

module _ {R : Type 0} (limit T F used c : ℕ) (total : Walk R) (r : R) (is : total ≡ record { got = r; trials = all_trials T F used c }) where
  pub spent-stops : none ≡ all_spent T F used c limit → stopped limit ≡ cut limit total
  unfolding all_spent
  spent-stops e = stops limit 0 total _ (is ∙ sym (plus-zero _)) (omega (arith, leb-false (all_trials T F used c) limit (only_none _ _ e)))

  pub spent_ends : (m : ℕ) → some m ≡ all_spent T F used c limit → whole (record { got = r; trials = m }) ≡ cut limit total
  unfolding all_spent
  spent_ends m e =
      let k = only-some _ (all_trials T F used c) m e in
      ends limit total r m (is ∙ ap (λ (x : ℕ). record { got = r; trials = x }) (sym k.1)) (omega (arith, k.1, leb-true (all_trials T F used c) limit k.0))

-- ---- nobody ends the search: each of the line costs a trial, and each of F a judging

module _ {A R S : Type 0} {h : Hunt A R S} {a : A} {c : ℕ} (alike : Alike h a c) {s : S} (on : (u : ℕ) → h.step u a s ≡ go s) where
  scan-alike : (F : ℕ) (us : List ℕ) → scan h F us s ≡ record { got = h.last s; trials = length us + length (keep (has F) us) * c }
  unfolding scan keep plus
  scan-alike F [] = let e : 0 ≡ 0 + 0 * c = omega arith in ap (λ (k : ℕ). record { got = h.last s; trials = k }) e
  scan-alike F (u ∷ us) = at (has F u) (scan-alike F us)
    where
      Rest : Type 0
      Rest = scan h F us s ≡ record { got = h.last s; trials = length us + length (keep (has F) us) * c }

      at : (d : Bool) → Rest → plus 1 (pick d (judged h u s (scan h F us)) (scan h F us s)) ≡ record { got = h.last s; trials = suc (length us) + length (cons_if d u (keep (has F) us)) * c }
      at true r =
          let e : 1 + (c + (length us + length (keep (has F) us) * c)) ≡ suc (length us) + suc (length (keep (has F) us)) * c = omega (arith, suc-mul (length (keep (has F) us)) c) in
          ap₂ (λ (k : ℕ) (o : A). plus 1 (plus k (turn (h.step u o s) (scan h F us)))) (alike.trials u) (alike.got u)
          ∙ ap (λ (x : Step R S). plus 1 (plus c (turn x (scan h F us)))) (on u)
          ∙ ap (λ (w : Walk R). plus 1 (plus c w)) r
          ∙ ap (λ (k : ℕ). record { got = h.last s; trials = k }) e
      at false r =
          let e : 1 + (length us + length (keep (has F) us) * c) ≡ suc (length us) + length (keep (has F) us) * c = omega arith in
          ap (plus 1) r ∙ ap (λ (k : ℕ). record { got = h.last s; trials = k }) e

  module _ {total : Walk R} {limit T F used : ℕ} (g : Going h total limit T F used s) where
    pub all-tried : total ≡ record { got = h.last s; trials = all_trials T F used c }
    unfolding plus
    all-tried =
        g.rest ∙ ap (plus used) (scan-alike F (members width T))
        ∙ ap₂ (λ (m k : ℕ). record { got = h.last s; trials = used + (m + k * c) }) (members-length width T) (fit-many T F g.inside)

    pub alike-limit : none ≡ all_spent T F used c limit → stopped limit ≡ cut limit total
    alike-limit e = spent-stops limit T F used c total (h.last s) all-tried e

    pub alike_all : (m : ℕ) → some m ≡ all_spent T F used c limit → whole (record { got = h.last s; trials = m }) ≡ cut limit total
    alike_all m e = spent_ends limit T F used c total (h.last s) all-tried m e

-- ---- the sum, as the code makes it

module _ (T F used c limit : ℕ) {a m : ℕ} (e : a ≡ size width T) (d : m ≡ size width F) where
  sum_is : used + (a + m * c) ≡ all_trials T F used c
  sum_is = ap₂ (λ (x y : ℕ). used + (x + y * c)) e d

  pub spent-over : limit < used + (a + m * c) → none ≡ all_spent T F used c limit
  unfolding all_spent
  spent-over h = sym (ap (λ (b : Bool). only_if b (all_trials T F used c)) (lt-leb (all_trials T F used c) limit (omega (arith, sum_is))))

  pub spent-within : used + (a + m * c) ≤ limit → some (used + (a + m * c)) ≡ all_spent T F used c limit
  unfolding all_spent
  spent-within h = ap some sum_is ∙ sym (ap (λ (b : Bool). only_if b (all_trials T F used c)) (le-leb (all_trials T F used c) limit (omega (arith, sum_is))))

-- ---- where the step was not looked at: what one judging answers, all do

pub alike-by : {A R S : Type 0} (h : Hunt A R S) (l : ℕ) (a : A) (c : ℕ) → ((u : ℕ) → whole (record { got = a; trials = c }) ≡ cut l (h.sub u)) → Alike h a c
alike-by h l a c e = record { got = λ u. (finished l (h.sub u) a c (e u)).got; trials = λ u. (finished l (h.sub u) a c (e u)).trials }
