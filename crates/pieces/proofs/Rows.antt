-- The rows, from the words of the tables' rows; and a set that is collected among the first n.
use mathlib.Core.Path.{◌≡◌, sym, ap, ap₂, ◌∙◌}
use mathlib.Core.Bool.{Bool, not, ◌&&◌, ◌||◌}
use mathlib.Core.List.{List}
use Prim.Native.Nat.{ℕ, suc, ◌+◌, ◌-◌, ◌*◌, ◌≤◌, ◌<◌}
use native.Mathlib.Nat.{mul-le-mul}
use native.Mathlib.Decide.{ℕ_discrete}
use native.Mathlib.Omega.{arith}
use borrow.Author.Tests.{eq-eqb, ne_eqb, lt-ltb, le-ltb}
use lib.Dec.{eqb, ltb}
use Rattle.sets.specs.Lists.{pick}
use Rattle.sets.specs.Sets.{has, set_of, with, without, common, everybody}
use Rattle.sets.specs.Stored.{width, set_at}
use Rattle.sets.proofs.Bits.{has-empty}
use Rattle.sets.proofs.Counting.{has-set_of, set_of-ext}
use Rattle.pieces.specs.Pieces.{Collected, related_in, row_in}
use Rattle.pieces.proofs.Collecting.{collect-start, collect-step, collect-end}

-- a product of two bytes
pub most : (a b : ℕ) → a ≤ 255 → b ≤ 255 → a * b ≤ 65025
most a b h g = mul-le-mul h g

-- ---- a relation's row

pub eqb-turned : (m n : ℕ) → eqb m n ≡ eqb n m
eqb-turned m n = go (ℕ_discrete m n)
  where
    go : Dec (m ≡ n) → eqb m n ≡ eqb n m
    go (yes e) = eq-eqb m n e ∙ sym (eq-eqb n m (sym e))
    go (no e) = ne_eqb m n e ∙ sym (ne_eqb n m (λ q. e (sym q)))

module _ (words : List ℕ) (n k u all : ℕ) (e : all ≡ everybody width n) where
  all-has : (v : ℕ) → v < width → has all v ≡ ltb v n
  all-has v l = ap (λ (s : ℕ). has s v) e ∙ has-set_of (λ w. ltb w n) width v l

  pub same_row : k ≡ 0 → (none one r : ℕ) → none ≡ 0 → one ≡ with width none u → r ≡ common width all one → r ≡ row_in words n k u
  unfolding row_in related_in
  same_row q none one r z o c =
      c ∙ set_of-ext _ _ width
      (λ v l. ap₂ ◌&&◌ (all-has v l)
      (ap (λ (s : ℕ). has s v) o ∙ has-set_of (λ w. has none w || eqb w u) width v l
      ∙ ap (λ (b : Bool). b || eqb v u) (ap (λ (s : ℕ). has s v) z ∙ has-empty v) ∙ eqb-turned v u
      ∙ ap (λ (j : ℕ). related_in words n j u v) (sym q)))

  pub different-row : k ≡ 1 → (r : ℕ) → r ≡ without width all u → r ≡ row_in words n k u
  unfolding row_in related_in
  different-row q r c =
      c ∙ set_of-ext _ _ width
      (λ v l. ap₂ (λ (a b : Bool). a && not b) (all-has v l) (eqb-turned v u)
      ∙ ap (λ (j : ℕ). ltb v n && related_in words n j u v) (sym q))

  pub table-row : (k ≡ 0 → ⊥) → (k ≡ 1 → ⊥) → (t r : ℕ) → t ≡ set_at words ((k - 2) * n + u) → r ≡ common width all t → r ≡ row_in words n k u
  unfolding row_in related_in
  table-row a b t r q c =
      let at : suc (suc (k - 2)) ≡ k = omega arith in
      c ∙ set_of-ext _ _ width
      (λ v l. ap₂ ◌&&◌ (all-has v l) (ap (λ (s : ℕ). has s v) q)
      ∙ ap (λ (j : ℕ). ltb v n && related_in words n j u v) at)

-- ---- a set among the first n of w

module _ (test : ℕ → Bool) (w n : ℕ) where
  abbrev among : ℕ → Bool
  among u = ltb u n && test u

  pub among-start : (set : ℕ) → set ≡ 0 → Collected among w 0 set
  among-start set e = collect-start among w set e

  pub among-step : {u set : ℕ} → Collected among w u set → u < n → n ≤ w → (b : Bool) (set' : ℕ) → b ≡ test u → set' ≡ pick b (with w set u) set
      → Collected among w (u + 1) set'
  among-step {u} {set} g h k b set' e q = collect-step among w g (omega arith) b set' (e ∙ sym (ap (λ (d : Bool). d && test u) (lt-ltb u n h))) q

  pub among-end : {u set : ℕ} → Collected among w u set → n ≤ u → set ≡ set_of among w
  among-end {u} {set} g h = collect-end among w g (λ v l k. ap (λ (d : Bool). d && test v) (le-ltb v n (omega arith)))

-- everybody is among all that there is room for
pub whole_width : (test : ℕ → Bool) → set_of (λ u. ltb u width && test u) width ≡ set_of test width
whole_width test = set_of-ext _ _ width (λ u l. ap (λ (d : Bool). d && test u) (lt-ltb u width l))
