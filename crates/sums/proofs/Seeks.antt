-- A search over the sets of at most t people that contain c: where it gets nothing, its trials are a sum over these sets.
use mathlib.Core.Path.{◌≡◌, refl, sym, ap, ap₂, ◌∙◌}
use mathlib.Core.Bool.{Bool, true, false, true≢false}
use mathlib.Core.Option.{Option, none}
use mathlib.Core.List.{List, [], ◌∷◌, ◌++◌, map, append-nil}
use Prim.Native.Nat.{ℕ, zero, suc, ◌+◌, ◌-◌, ◌^◌, ◌≤◌, ◌<◌}
use native.Mathlib.Nat.{add-zero, one-mul, le_refl, pow-suc}
use native.Mathlib.Decide.{dec_lt}
use native.Mathlib.Omega.{arith}
use borrow.Author.Tests.{le-leb}
use Rattle.sets.specs.Lists.{◌∈◌, from, upto, keep, cons_if}
use Rattle.sets.specs.Sets.{has, count, size, within, sets}
use Rattle.sets.proofs.Bits.{has_above, joined-last}
use Rattle.sets.proofs.Listed.{sets-none}
use Rattle.sets.proofs.Blocks.{size_below, size-with, sets-blocks, sets-nobody, sets-held}
use Rattle.games.specs.Walks.{Search, seek}
use Rattle.games.proofs.Trials.{sum, sum-append, sum-map, seek-all-missed}
use Rattle.sums.specs.Sums.{over}
use Rattle.sums.proofs.Sums.{over-there, over-joins}
use Rattle.sums.proofs.Again.{over-moved}

abbrev one : ℕ → ℕ
one u = 1

-- of n + 1 people, the last is there or not
high : (n c : ℕ) → has c n ≡ true → 2 ^ n ≤ c
high n c e = go (dec_lt c (2 ^ n))
  where
    go : Dec (c < 2 ^ n) → 2 ^ n ≤ c
    go (yes l) = absurd (true≢false (sym e ∙ has_above n c l))
    go (no l) = omega arith

low : (n c : ℕ) → c < 2 ^ suc n → has c n ≡ false → c < 2 ^ n
low n c l e = go (dec_lt c (2 ^ n))
  where
    go : Dec (c < 2 ^ n) → c < 2 ^ n
    go (yes k) = k
    go (no k) =
        let whole : c ≡ c - 2 ^ n + 2 ^ n = omega arith in
        absurd (true≢false (sym (joined-last n (c - 2 ^ n) (omega (arith, pow-suc 2 n))) ∙ ap (λ (x : ℕ). has x n) (sym whole) ∙ e))

sets-zero : (t : ℕ) → sets 0 t 0 ≡ 0 ∷ []
unfolding sets upto from keep within size count
sets-zero t = ap (λ (b : Bool). cons_if b 0 []) (le-leb 0 t (omega arith))

-- f summed over the list is f summed over the sets
pub sum_over : (f : ℕ → ℕ) (n t c : ℕ) → c < 2 ^ n → size n c ≤ t → sum f (sets n t c) ≡ over (λ S left. f S) one n (t - size n c) c
unfolding over
sum_over f zero t c l k =
    let z : c ≡ 0 = omega arith in
    ap (λ (x : ℕ). sum f (sets 0 t x)) z ∙ ap (sum f) (sets-zero t) ∙ add-zero (f 0) ∙ ap f (sym z)
sum_over f (suc n) t c l k = at (has c n) refl (λ g s d. sum_over g n s d)
  where
    Below : Type 0
    Below = (g : ℕ → ℕ) (s d : ℕ) → d < 2 ^ n → size n d ≤ s → sum g (sets n s d) ≡ over (λ S left. g S) one n (s - size n d) d

    -- the last person is there
    held : (s d : ℕ) → d < 2 ^ n → size n d ≤ s → Below → sum f (sets (suc n) (suc s) (d + 2 ^ n)) ≡ over (λ S left. f S) one (suc n) (suc s - size (suc n) (d + 2 ^ n)) (d + 2 ^ n)
    held s d h b below =
        ap (sum f) (sets-held n d h s)
        ∙ sum-map f (λ x. x + 2 ^ n) (sets n s d)
        ∙ below (λ x. f (x + 2 ^ n)) s d h b
        ∙ over-moved (λ S left. f S) one n n (s - size n d) d (le_refl n)
        ∙ sym (over-there (λ S left. f S) one n (s - size n d) (d + 2 ^ n) (joined-last n d h))
        ∙ ap (λ (r : ℕ). over (λ S left. f S) one (suc n) r (d + 2 ^ n)) room
      where
        room : s - size n d ≡ suc s - size (suc n) (d + 2 ^ n)
        room = omega (arith, size-with n d h)

    -- the last person is not there and may not join
    full : c < 2 ^ n → (s : ℕ) → s ≡ size n c → sets (suc n) s c ≡ sets n s c
    full h zero e = sets-nobody n c h
    full h (suc s) e = sets-blocks n c h s ∙ ap (λ (xs : List ℕ). sets n (suc s) c ++ map (λ x. x + 2 ^ n) xs) (sets-none n s c (omega arith)) ∙ append-nil (sets n (suc s) c)

    free : c < 2 ^ n → has c n ≡ false → (s r : ℕ) → s ≡ size n c + r → Below → sum f (sets (suc n) s c) ≡ over (λ S left. f S) one (suc n) r c
    free h e s zero q below =
        let none_left : s - size n c ≡ 0 = omega arith in
        ap (sum f) (full h s (omega arith)) ∙ below f s c h (omega arith) ∙ ap (λ (r : ℕ). over (λ S left. f S) one n r c) none_left
    free h e zero (suc r) q below = absurd (omega arith)
    free h e (suc s) (suc r) q below =
        ap (sum f) (sets-blocks n c h s)
        ∙ sum-append f (sets n (suc s) c) (map (λ x. x + 2 ^ n) (sets n s c))
        ∙ ap₂ ◌+◌
        (below f (suc s) c h (omega arith) ∙ ap (λ (x : ℕ). over (λ S left. f S) one n x c) some_left)
        (sum-map f (λ x. x + 2 ^ n) (sets n s c) ∙ below (λ x. f (x + 2 ^ n)) s c h (omega arith)
        ∙ over-moved (λ S left. f S) one n n (s - size n c) c (le_refl n) ∙ ap (λ (x : ℕ). over (λ S left. f S) one n x (c + 2 ^ n)) fewer-left ∙ sym (one-mul _))
        ∙ sym (over-joins (λ S left. f S) one n r c e)
      where
        some_left : suc s - size n c ≡ suc r
        some_left = omega arith

        fewer-left : s - size n c ≡ r
        fewer-left = omega arith

    at : (b : Bool) → has c n ≡ b → Below → sum f (sets (suc n) t c) ≡ over (λ S left. f S) one (suc n) (t - size (suc n) c) c
    at true e below =
        let above = high n c e in
        let d = c - 2 ^ n in
        let fits : d < 2 ^ n = omega (arith, pow-suc 2 n) in
        let whole : d + 2 ^ n ≡ c = omega arith in
        let many : size (suc n) c ≡ suc (size n d) = ap (size (suc n)) (sym whole) ∙ size-with n d fits in
        let room : suc (t - 1) ≡ t = omega arith in
        ap₂ (λ (s x : ℕ). sum f (sets (suc n) s x)) (sym room) (sym whole)
        ∙ held (t - 1) d fits (omega arith) below
        ∙ ap₂ (λ (s x : ℕ). over (λ S left. f S) one (suc n) (s - size (suc n) x) x) room whole
    at false e below =
        let h = low n c l e in
        free h e t (t - size (suc n) c) (omega (arith, size_below n c h)) below

-- none of the sets gets anything
pub seek-over : {B : Type 0} (f : ℕ → Search B) (n t c : ℕ) → c < 2 ^ n → size n c ≤ t → ((A : ℕ) → A ∈ sets n t c → (f A).got ≡ none)
    → seek f (sets n t c) ≡ record { got = none; trials = over (λ S left. (f S).trials) one n (t - size n c) c }
seek-over {B} f n t c l k h =
    seek-all-missed f (λ A. (f A).trials) (sets n t c) (λ A m. ap (λ (o : Option B). record { got = o; trials = (f A).trials }) (h A m))
    ∙ ap (λ (x : ℕ). record { got = none; trials = x }) (sum_over (λ A. (f A).trials) n t c l k)
