-- How many sets there are: what the loops that count them hold.
use mathlib.Core.Path.{◌≡◌, refl, sym, ap, ap₂, ◌∙◌, fun_ext}
use mathlib.Core.Bool.{Bool, true, false}
use mathlib.Core.List.{List, ◌++◌}
use Prim.Native.Nat.{ℕ, zero, suc, ◌+◌, ◌-◌, ◌*◌, ◌^◌, ◌≤◌, ◌<◌}
use native.Mathlib.Nat.{add_assoc, add-zero, mul-zero, zero-mul, le_refl}
use native.Mathlib.Numerals.{add-one}
use native.Mathlib.Decide.{dec_lt, ℕ_discrete}
use native.Mathlib.Omega.{arith}
use lib.ListN.{length, set, drop, replicate, length-replicate, get_or-append, get_or-replicate, get_or-eq_default}
use lib.Seq.{get_or-append_right, get_or-set_same, get_or-set_other, set_out}
use borrow.Author.Tests.{eq-eqb, ne_eqb}
use Rattle.std.proofs.lemmas.List.{get_or-drop}
use Rattle.sets.specs.Lists.{pick}
use Rattle.sets.specs.Sets.{has}
use Rattle.sets.specs.Stored.{number}
use Rattle.sets.specs.declared.People.{People}
use Rattle.sets.proofs.Lists.{pick-lt, pick-ge}
use Rattle.sets.proofs.Bits.{joined-low}
use Rattle.sums.specs.Sums.{over, but, only_below, how_many, how_many_miss, capped}
use Rattle.sums.specs.Arrays.{entry, Under, earlier, OneMore, weight_of, OnceBelow, staying}
use Rattle.sums.specs.declared.Absences.{Absences}
use Rattle.sums.proofs.Sums.{over-nobody}
use Rattle.sums.proofs.Caps.{capped-plus, capped_left, capped-right, capped-times}

-- ---- one person more

-- what the loop holds: the sums below place j are made
pub record Joining (e : ℕ → ℕ) (w j : ℕ) (out : List ℕ) (before : ℕ) : Type 0 where
  pub long : length out ≡ 9
  pub done : (i : ℕ) → i < j → entry out i ≡ capped (e i + w * earlier e i)
  pub before-is : before ≡ earlier e j

-- ---- person after person

-- what the loop holds: each sum up to place r is that of the first u people
abbrev pub Counting : (ℕ → ℕ) → ℕ → ℕ → ℕ → List ℕ → Type 0
Counting w A r u sums = (j : ℕ) → j ≤ r → entry sums j ≡ capped (how_many w u j A)

pub counting-start : (w : ℕ → ℕ) (A r : ℕ) → r ≤ 8 → Counting w A r 0 (replicate 9 1)
unfolding over
counting-start w A r k j h = get_or-replicate 9 j 1 0 (omega arith)

pub counting-under : (w : ℕ → ℕ) (A r u : ℕ) (sums : List ℕ) → Counting w A r u sums → Under r sums
counting-under w A r u sums h j l = omega (arith, h j l)

-- where nobody may join there is one set
pub counting-alone : (w : ℕ → ℕ) (n r A : ℕ) → r ≡ 0 → 1 ≡ capped (how_many w n r A)
counting-alone w n r A e = sym (ap capped (ap (λ (x : ℕ). how_many w n x A) e ∙ over-nobody (λ S left. 1) w n A))

-- who is there matters only below those who may join
same-many : (w : ℕ → ℕ) (m r A B : ℕ) → ((u : ℕ) → u < m → has A u ≡ has B u) → how_many w m r A ≡ how_many w m r B
unfolding over
same-many w zero r A B h = refl
same-many w (suc m) zero A B h = same-many w m zero A B (λ u l. h u (omega arith))
same-many w (suc m) (suc r) A B h =
    ap₂ ◌+◌ (same-many w m (suc r) A B (λ u l. h u (omega arith)))
    (ap₂ (λ (b : Bool) (x : ℕ). pick b 0 (w m * x)) (h m (le_refl (suc m)))
    (same-many w m r (A + 2 ^ m) (B + 2 ^ m) (λ u l. joined-low m A u l ∙ h u (omega arith) ∙ sym (joined-low m B u l))))

many_more : (w : ℕ → ℕ) (m r A : ℕ) → how_many w (suc m) (suc r) A ≡ how_many w m (suc r) A + pick (has A m) 0 (w m) * how_many w m r A
unfolding over
many_more w m r A =
    ap (λ (x : ℕ). how_many w m (suc r) A + pick (has A m) 0 (w m * x)) (same-many w m r (A + 2 ^ m) A (joined-low m A)) ∙ ap (λ (x : ℕ). how_many w m (suc r) A + x) (at (has A m))
  where
    at : (b : Bool) → pick b 0 (w m * how_many w m r A) ≡ pick b 0 (w m) * how_many w m r A
    at true = sym (zero-mul (how_many w m r A))
    at false = refl

pub counting-step : (w : ℕ → ℕ) (A r u p : ℕ) (sums next : List ℕ) → Counting w A r u sums → p ≡ pick (has A u) 0 (w u) → OneMore r p (entry sums) next → Counting w A r (u + 1) next
unfolding over
counting-step w A r u p sums next h e g j l = g j l ∙ at j l ∙ ap (λ (m : ℕ). capped (how_many w m j A)) (sym (add-one u))
  where
    at : (j : ℕ) → j ≤ r → capped (entry sums j + p * earlier (entry sums) j) ≡ capped (how_many w (suc u) j A)
    at zero l = omega (arith, h 0 l, mul-zero p)
    at (suc j) l =
        ap₂ (λ (x y : ℕ). capped (x + p * y)) (h (suc j) l) (h j (omega arith))
        ∙ capped_left (how_many w u (suc j) A) (p * capped (how_many w u j A))
        ∙ sym (capped-right (how_many w u (suc j) A) (p * capped (how_many w u j A)))
        ∙ ap (λ (x : ℕ). capped (how_many w u (suc j) A + x)) (capped-times p (how_many w u j A))
        ∙ capped-right (how_many w u (suc j) A) (p * how_many w u j A)
        ∙ ap (λ (x : ℕ). capped (how_many w u (suc j) A + x * how_many w u j A)) e
        ∙ ap capped (sym (many_more w u j A))

-- ---- those who stay

staying-entry : (l : List ℕ) (v u : ℕ) → entry (set l v 0) u ≡ but (entry l) v u
staying-entry l v u = at (ℕ_discrete u v)
  where
    here : Dec (v < length l) → entry (set l v 0) v ≡ 0
    here (yes h) = get_or-set_same l v 0 0 h
    here (no h) = ap (λ (x : List ℕ). entry x v) (set_out l v 0 (omega arith)) ∙ get_or-eq_default l 0 (omega arith)

    at : Dec (u ≡ v) → entry (set l v 0) u ≡ but (entry l) v u
    at (yes e) = ap (entry (set l v 0)) e ∙ here (dec_lt v (length l)) ∙ sym (ap (λ (b : Bool). pick b 0 (entry l u)) (eq-eqb u v e))
    at (no e) = get_or-set_other l v u 0 0 e ∙ sym (ap (λ (b : Bool). pick b 0 (entry l u)) (ne_eqb u v e))

pub staying-weights : (sets : Absences) (v : ℕ) → weight_of (staying sets v) ≡ but (weight_of sets) v
staying-weights sets v = fun_ext (staying-entry sets.weights v)

-- ---- those below alone

-- the first h count once, and nobody behind
weighed : (h : ℕ) (l : List ℕ) → h ≤ 32 → l ≡ replicate h 1 → (i : ℕ) → i < 32 → entry (l ++ drop h (replicate 32 0)) i ≡ only_below h i
weighed h l k e i b = at (dec_lt i h)
  where
    zeros : List ℕ
    zeros = replicate 32 0

    long : length l ≡ h
    long = ap length e ∙ length-replicate {A = ℕ} h 1

    at : Dec (i < h) → entry (l ++ drop h zeros) i ≡ only_below h i
    at (yes c) =
        get_or-append l (drop h zeros) 0 i (omega (arith, long))
        ∙ ap (λ (m : List ℕ). entry m i) e
        ∙ get_or-replicate {A = ℕ} h i 1 0 c
        ∙ pick-lt {A = ℕ} i h 1 0 c
    at (no c) =
        get_or-append_right l (drop h zeros) i 0 (omega (arith, long))
        ∙ get_or-drop h zeros (i - length l) 0
        ∙ get_or-replicate {A = ℕ} 32 (h + (i - length l)) 0 0 (omega (arith, long))
        ∙ pick-ge {A = ℕ} i h 1 0 (omega arith)

pub weighs : (held : People) (room h n : ℕ) (l : List ℕ) → h ≤ 32 → n ≡ h → l ≡ replicate n 1
    → OnceBelow held room h (record { held = held; room = room; weights = l ++ drop h (replicate 32 0) })
weighs held room h n l k q e = record { held = refl; room = refl; weights = weighed h l k (e ∙ ap (λ (m : ℕ). replicate m 1) q) }

-- ---- trials

module _ (sets : Absences) (n : ℕ) (M : People) where
  abbrev here : ℕ
  here = how_many (weight_of sets) n sets.room (number sets.held)

  abbrev missed : ℕ → ℕ
  missed = how_many_miss (weight_of sets) n sets.room (number sets.held) (number M)

  -- how many there are without person u
  pub trials-some : (u x : ℕ) (st : Absences) → has (number M) u ≡ true → st ≡ staying sets u → x ≡ capped (how_many (weight_of st) n st.room (number st.held))
      → x ≡ capped (pick (has (number M) u) (how_many (but (weight_of sets) u) n sets.room (number sets.held)) 0)
  trials-some u x st e q h =
      h
      ∙ ap (λ (s : Absences). capped (how_many (weight_of s) n s.room (number s.held))) q
      ∙ ap (λ (w : ℕ → ℕ). capped (how_many w n sets.room (number sets.held))) (staying-weights sets u)
      ∙ ap (λ (b : Bool). capped (pick b (how_many (but (weight_of sets) u) n sets.room (number sets.held)) 0)) (sym e)

  pub trials-none : (u : ℕ) → has (number M) u ≡ false → 0 ≡ capped (pick (has (number M) u) (how_many (but (weight_of sets) u) n sets.room (number sets.held)) 0)
  trials-none u e = ap (λ (b : Bool). capped (pick b (how_many (but (weight_of sets) u) n sets.room (number sets.held)) 0)) (sym e)

  -- what the loop holds
  abbrev pub Trials : ℕ → ℕ → Type 0
  Trials u sum = sum ≡ capped (here + missed u)

  pub trials-start : (sum : ℕ) → sum ≡ capped here → Trials 0 sum
  unfolding how_many_miss
  trials-start sum e = e ∙ ap capped (sym (add-zero here))

  pub trials-step : (u sum x y : ℕ) → Trials u sum → x ≡ capped (pick (has (number M) u) (how_many (but (weight_of sets) u) n sets.room (number sets.held)) 0)
      → y ≡ capped (sum + x) → Trials (u + 1) y
  unfolding how_many_miss
  trials-step u sum x y t e q =
      q
      ∙ ap₂ (λ (a b : ℕ). capped (a + b)) t e
      ∙ capped-plus (here + missed u) (pick (has (number M) u) (how_many (but (weight_of sets) u) n sets.room (number sets.held)) 0)
      ∙ ap capped (add_assoc here (missed u) (pick (has (number M) u) (how_many (but (weight_of sets) u) n sets.room (number sets.held)) 0))
      ∙ ap (λ (m : ℕ). capped (here + missed m)) (sym (add-one u))

-- ---- one more for everybody

-- what the loop holds: below u everybody counts once more
pub record Raising (l : List ℕ) (u : ℕ) (more : List ℕ) : Type 0 where
  pub done : (i : ℕ) → i < u → entry more i ≡ entry l i + 1
  pub left : (i : ℕ) → u ≤ i → entry more i ≡ entry l i
