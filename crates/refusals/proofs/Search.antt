-- The first entry that fails a test: what is found, and the loop that finds it.
use mathlib.Core.Path.{◌≡◌, refl, sym, ap, subst, ◌∙◌}
use mathlib.Core.Logic.{inl, inr}
use mathlib.Core.Bool.{Bool, true, false, true≢false}
use mathlib.Core.Option.{Option, none, some, some-ne-none}
use mathlib.Core.List.{List, ◌∷◌}
use Prim.Native.Nat.{ℕ, ◌+◌, ◌≤◌, ◌<◌}
use native.Mathlib.Decide.{dec_lt}
use native.Mathlib.Omega.{arith}
use Rattle.sets.specs.Lists.{◌∈◌, upto, keep, head}
use Rattle.sets.proofs.Lists.{upto-in, upto-mem, head-none, head-some, keep-in, keep-mem, keep-nothing, keep-cong}
use Rattle.sets.proofs.Ascending.{Ascending, kept-ascending, ascending-first}
use Rattle.refusals.specs.Refusals.{found_first, refusal_at, entry_check}

module _ (test : ℕ → Bool) (n : ℕ) where
  -- nothing is found: no index passes
  pub found_none : found_first test n ≡ none → (i : ℕ) → i < n → test i ≡ false
  unfolding found_first
  found_none e i l = go (test i) refl
    where
      go : (b : Bool) → test i ≡ b → test i ≡ false
      go false q = q
      go true q = absurd (subst (λ (xs : List ℕ). i ∈ xs) (head-none (keep test (upto n)) e) (keep-mem test i (upto n) (upto-mem n i l) q))

  pub none_found : ((i : ℕ) → i < n → test i ≡ false) → found_first test n ≡ none
  unfolding found_first
  none_found h = ap head (keep-nothing test (upto n) (λ i m. h i (upto-in n i m)))

  -- i is found: it passes, and none before it
  pub found_some : (i : ℕ) → found_first test n ≡ some i → (i < n) × (test i ≡ true) × ((j : ℕ) → j < i → test j ≡ false)
  unfolding found_first
  found_some i e = (upto-in n i k.0, k.1, before)
    where
      s : (rest : List ℕ) × (keep test (upto n) ≡ i ∷ rest)
      s = head-some (keep test (upto n)) i e

      k : (i ∈ upto n) × (test i ≡ true)
      k = keep-in test i (upto n) (subst (λ (xs : List ℕ). i ∈ xs) (sym s.1) (inl refl))

      before : (j : ℕ) → j < i → test j ≡ false
      before j l = go (test j) refl
        where
          no : j ∈ (i ∷ s.0) → ⊥
          no (inl q) = omega arith
          no (inr m) = omega (arith, (subst Ascending s.1 (kept-ascending test n)).0 j m)

          go : (b : Bool) → test j ≡ b → test j ≡ false
          go false q = q
          go true q =
              absurd (no (subst (λ (xs : List ℕ). j ∈ xs) s.1
              (keep-mem test j (upto n) (upto-mem n j (omega (arith, upto-in n i k.0))) q)))

  pub some-found : (i : ℕ) → i < n → test i ≡ true → ((j : ℕ) → j < i → test j ≡ false) → found_first test n ≡ some i
  unfolding found_first
  some-found i l t h =
      ap head (ascending-first (keep test (upto n)) i (kept-ascending test n) (keep-mem test i (upto n) (upto-mem n i l) t) least).1
    where
      least : (j : ℕ) → j ∈ keep test (upto n) → i ≤ j
      least j m = go (dec_lt j i)
        where
          go : Dec (j < i) → i ≤ j
          go (yes p) = absurd (true≢false (sym (keep-in test j (upto n) m).1 ∙ h j p))
          go (no p) = omega arith

-- a check of entries that gives nothing: no entry fails
pub entry-none : (n : ℕ) (place : ℕ → ℕ) (fails : ℕ → Bool) (m : ℕ) → entry_check n place fails m ≡ none → (i : ℕ) → i < m → fails i ≡ false
entry-none n place fails m e = found_none fails m (go (found_first fails m) e)
  where
    go : (o : Option ℕ) → refusal_at n place o ≡ none → o ≡ none
    go none q = refl
    go (some i) q = absurd (some-ne-none _ q)

-- tests that agree find the same
pub found-cong : (f g : ℕ → Bool) (n : ℕ) → ((i : ℕ) → i < n → f i ≡ g i) → found_first f n ≡ found_first g n
unfolding found_first
found-cong f g n h = ap head (keep-cong f g (upto n) (λ i m. h i (upto-in n i m)))

-- tests that agree as far as nothing is found find the same
pub found-along : (f g : ℕ → Bool) (n : ℕ) → ((i : ℕ) → i < n → ((j : ℕ) → j < i → f j ≡ false) → f i ≡ g i) → found_first f n ≡ found_first g n
found-along f g n h = go (found_first f n) refl
  where
    go : (o : Option ℕ) → found_first f n ≡ o → found_first f n ≡ found_first g n
    go none e =
        let k = found_none f n e in
        e ∙ sym (none_found g n (λ i l. sym (h i l (λ j m. k j (omega arith))) ∙ k i l))
    go (some i) e =
        let k = found_some f n i e in
        e ∙ sym (some-found g n i k.0 (sym (h i k.0 k.2) ∙ k.1)
        (λ j l. sym (h j (omega (arith, k.0)) (λ m q. k.2 m (omega arith))) ∙ k.2 j l))

-- ---- The loop that searches n entries: i are passed, and the test held at none of them.

pub record Searched (test : ℕ → Bool) (n i : ℕ) : Type 0 where
  pub passed : i ≤ n
  pub none : (j : ℕ) → j < i → test j ≡ false

module _ (test : ℕ → Bool) (n : ℕ) where
  pub search-start : Searched test n 0
  search-start = record { passed = omega arith; none = λ j l. absurd (let z : ⊥ = omega arith in z) }

  pub search-step : {i : ℕ} {b : Bool} → Searched test n i → i < n → b ≡ test i → b ≡ false → Searched test n (i + 1)
  search-step {i} {b} s l q t = record { passed = omega arith; none = λ j h. at j (dec_lt j i) h }
    where
      at : (j : ℕ) → Dec (j < i) → j < i + 1 → test j ≡ false
      at j (yes y) h = s.none j y
      at j (no y) h = ap test (let e : j ≡ i = omega arith in e) ∙ sym q ∙ t

  pub search-hit : {i : ℕ} {b : Bool} → Searched test n i → i < n → b ≡ test i → b ≡ true → some i ≡ found_first test n
  search-hit {i} s l q t = sym (some-found test n i l (sym q ∙ t) s.none)

  pub search-end : {i : ℕ} → Searched test n i → n ≤ i → none ≡ found_first test n
  search-end {i} s l = sym (none_found test n (λ j h. s.none j (omega arith)))
