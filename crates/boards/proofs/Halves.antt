-- Sets of steps by halves: which bits an entry's number has, and what is read off a table by halves.
use mathlib.Core.Path.{◌≡◌, refl, sym, ap, ap₂, ◌∙◌}
use mathlib.Core.Bool.{Bool, true, false, not, ◌&&◌, ◌||◌}
use mathlib.Core.List.{List}
use Prim.Native.Nat.{ℕ, ◌*◌, ◌+◌, ◌/◌, ◌%◌, ◌^◌, ◌<◌}
use native.Mathlib.Omega.{arith}
use lib.ListN.{get_or}
use Rattle.sets.specs.Lists.{from, upto, all}
use Rattle.sets.specs.Sets.{has, with, difference}
use Rattle.sets.proofs.Lists.{from-append, upto-in, all-cong, all_append}
use Rattle.sets.proofs.Bits.{has-low, has-high}
use Rattle.sets.proofs.Counting.{has-set_of, is-set_of}
use Rattle.cases.specs.declared.Filled.{Filled}
use Rattle.cases.specs.Case.{most_steps, most_rules}
use Rattle.boards.specs.Board.{half_steps, halves, ready_from, complete_from, low_entry, high_entry, half_step, both_on, complete_on, ready_on, full_on}

-- ---- the bits of steps

-- of a number only as many bits are looked at as there are steps
pub steps_low : (x v : ℕ) → v < most_steps → has (x % 2 ^ most_steps) v ≡ has x v
steps_low x v l = sym (ap (λ (z : ℕ). has z v) whole ∙ has-low (x / 256) 8 (x % 256) v l)
  where
    whole : x ≡ x / 256 * 2 ^ 8 + x % 256
    whole = omega arith

-- bit x of a low entry is step x, and bit x of a high entry is step x of the high half
pub low-has : (f x : ℕ) → x < half_steps → has (low_entry f) x ≡ has f x
low-has f x l = sym (ap (λ (z : ℕ). has z x) whole ∙ has-low (f / 16) 4 (f % 16) x l)
  where
    whole : f ≡ f / 16 * 2 ^ 4 + f % 16
    whole = omega arith

pub high-has : (f x : ℕ) → x < half_steps → has (high_entry f) x ≡ has f (half_steps + x)
high-has f x l =
    ap (λ (z : ℕ). has z x) top ∙ has-low 1 4 (f / 16 % 16) x l ∙ low-has (f / 16) x l
    ∙ sym (ap (λ (z : ℕ). has z (4 + x)) whole ∙ has-high (f / 16) 4 (f % 16) x (omega arith))
  where
    top : high_entry f ≡ 1 * 2 ^ 4 + f / 16 % 16
    top = omega arith

    whole : f ≡ f / 16 * 2 ^ 4 + f % 16
    whole = omega arith

-- ---- what a table by halves tells

-- a test of the low steps and a test of the high steps
all-halves : (test : ℕ → Bool) → all test (upto most_steps) ≡ all test (upto half_steps) && all (λ x. test (half_steps + x)) (upto half_steps)
unfolding upto from all
all-halves test = ap (all test) (from-append 0 4 4) ∙ all_append test (from 0 4) (from 4 4)

-- both entries of a set together test every step
both-test : (f : ℕ) (waits : ℕ → Bool)
    → all (λ x. has (low_entry f) x || not (waits (half_step (low_entry f) x))) (upto half_steps)
    && all (λ x. has (high_entry f) x || not (waits (half_step (high_entry f) x))) (upto half_steps)
    ≡ all (λ x. has f x || not (waits x)) (upto most_steps)
both-test f waits =
    ap₂ ◌&&◌
    (all-cong _ _ (upto half_steps) (λ x m. ap₂ (λ (d : Bool) (y : ℕ). d || not (waits y)) (low-has f x (upto-in half_steps x m)) (low_step (f % 16) x (omega arith))))
    (all-cong _ _ (upto half_steps) (λ x m. ap₂ (λ (d : Bool) (y : ℕ). d || not (waits y)) (high-has f x (upto-in half_steps x m)) (high-step (f / 16 % 16) x (omega arith))))
    ∙ sym (all-halves (λ x. has f x || not (waits x)))
  where
    low_step : (g x : ℕ) → g < 16 → half_step g x ≡ x
    low_step g x h = omega arith

    high-step : (g x : ℕ) → g < 16 → half_step (16 + g) x ≡ half_steps + x
    high-step g x h = omega arith

-- where each entry tells of i whether it is there and waits for no step of the half but those in the entry's set, the table tells of i whether it is
-- there and waits for no step but those in the set
pub both_told : (b : List ℕ) (start f i : ℕ) → i < most_rules → (there : Bool) (waits : ℕ → Bool)
    → ((j : ℕ) → j < halves → has (get_or b (start + j) 0) i ≡ there && all (λ x. has j x || not (waits (half_step j x))) (upto half_steps))
    → has (both_on b start f) i ≡ there && all (λ x. has f x || not (waits x)) (upto most_steps)
unfolding both_on
both_told b start f i l there waits each =
    has-set_of (λ w. has (get_or b (start + low_entry f) 0) w && has (get_or b (start + high_entry f) 0) w) most_rules i l
    ∙ ap₂ ◌&&◌ (each (low_entry f) (omega arith)) (each (high_entry f) (high_small (f / 16 % 16) (omega arith))) ∙ once there _ _
    ∙ ap (λ (d : Bool). there && d) (both-test f waits)
  where
    high_small : (g : ℕ) → g < 16 → 16 + g < halves
    high_small g h = omega arith

    once : (d x y : Bool) → (d && x) && (d && y) ≡ d && (x && y)
    once true x y = refl
    once false x y = refl

-- ---- what is read

pub ready-is : (b : List ℕ) (p : Filled) (told left : ℕ) → told ≡ both_on b ready_from p.steps → left ≡ difference most_rules told p.steps
    → left % 2 ^ most_steps ≡ ready_on b p
unfolding ready_on
ready-is b p told left e q =
    is-set_of _ most_steps (left % 256) (omega arith)
    (λ v l. steps_low left v l ∙ ap (λ (z : ℕ). has z v) q
    ∙ has-set_of (λ w. has told w && not (has p.steps w)) most_rules v (omega arith)
    ∙ ap (λ (z : ℕ). has z v && not (has p.steps v)) e)

pub full_is : (b : List ℕ) (p : Filled) (s f n : ℕ) → n ≡ both_on b complete_from f → f ≡ with most_steps p.steps s → n ≡ full_on b p s
unfolding full_on complete_on
full_is b p s f n q e = q ∙ ap (both_on b complete_from) e
