-- Tables and runs of entries: how long they are, what stands at a place, and the loops that make them.
use Prim.Native.Nat.{ℕ, zero, suc, ◌+◌, ◌-◌, ◌*◌, ◌≤◌, ◌<◌}
use mathlib.Core.Path.{◌≡◌, refl, ap, ap₂, ◌∙◌, sym}
use mathlib.Core.List.{List, [], ◌∷◌, ◌++◌, append_assoc, map, map-append}
use mathlib.Core.Logic.{⊎_elim}
use native.Mathlib.Nat.{mul-suc, mul-zero, mul-le-mul_left, eq-or-lt_of_le}
use native.Mathlib.Numerals.{add-one}
use native.Mathlib.Decide.{dec_lt, ℕ_discrete}
use native.Mathlib.Omega.{arith}
use lib.ListN.{length, get_or, take, drop, set, replicate, length-append, length-set, length-replicate, get_or-replicate, get_or-append, get_or-eq_default}
use lib.Seq.{drop_at, drop-drop, take-suc-set, take_all, get_or-append-add, get_or_at, get_or-set_same, get_or-set_other, ext_get_or, sets, sets-eq, length-sets, take_at, take-add, length-take-le}
use Rattle.sets.specs.Lists.{upto, from}
use Rattle.sets.proofs.Lists.{upto_snoc}
use Rattle.words.specs.Part.{table, run, splice, Filled, Begun, Written}

upto_zero : upto 0 ≡ []
unfolding upto from
upto_zero = refl

module _ {A : Type 0} where
  -- one entry more
  table-suc : (f : ℕ → A) (n : ℕ) → table f (suc n) ≡ table f n ++ (f n ∷ [])
  table-suc f n = ap (map f) (upto_snoc n) ∙ map-append f (upto n) (n ∷ [])

  pub length-table : (f : ℕ → A) (n : ℕ) → length (table f n) ≡ n
  length-table f zero = rw upto_zero refl
  length-table f (suc n) = ap length (table-suc f n) ∙ omega (arith, length-append (table f n) (f n ∷ []), length-table f n)

  pub get_or-table : (f : ℕ → A) (n i : ℕ) (d : A) → i < n → get_or (table f n) i d ≡ f i
  get_or-table f zero i d h = absurd (omega arith)
  get_or-table f (suc n) i d h =
      ap (λ l. get_or l i d) (table-suc f n)
      ∙ ⊎_elim (λ q. rw q (get_or_at (table f n) (f n) [] d n (length-table f n)))
      (λ l. get_or-append (table f n) (f n ∷ []) d i (omega (arith, length-table f n)) ∙ get_or-table f n i d l)
      (eq-or-lt_of_le {n = i} {m = n} (omega arith))

  -- tables of the same entries are the same
  pub table-cong : (f g : ℕ → A) (n : ℕ) → ((i : ℕ) → i < n → f i ≡ g i) → table f n ≡ table g n
  table-cong f g zero h = rw upto_zero refl
  table-cong f g (suc n) h =
      table-suc f n ∙ ap₂ (λ l x. l ++ (x ∷ [])) (table-cong f g n (λ i b. h i (omega arith))) (h n (omega arith)) ∙ sym (table-suc g n)

  -- a loop that fills an array: one store more
  table_more : (f : ℕ → A) (i : ℕ) (a : List A) → i < length a → take i a ≡ table f i → take (i + 1) (set a i (f i)) ≡ table f (i + 1)
  table_more f i a h e = rw (add-one, take-suc-set, table-suc) (rw e refl)

  -- a loop that writes entries: the stores of one entry more
  run_more : (e : ℕ → List A) (i k : ℕ) (l : List A) → k + length (e i) ≤ length l → take k l ≡ run e i
      → take (k + length (e i)) (sets l k (e i)) ≡ run e (i + 1)
  unfolding run
  run_more e i k l h q =
      rw (add-one, sets-eq (e i) l k h, ← q)
      (take_at (take k l ++ e i) (drop (k + length (e i)) l) (k + length (e i))
      (omega (arith, length-append (take k l) (e i), length-take-le k l (omega arith))))

  -- runs of the same entries are the same
  pub run-cong : (e g : ℕ → List A) (n : ℕ) → ((i : ℕ) → i < n → e i ≡ g i) → run e n ≡ run g n
  unfolding run
  run-cong e g zero h = refl
  run-cong e g (suc n) h = rw (h n (omega arith), run-cong e g n (λ i b. h i (omega arith))) refl

  module _ (e : ℕ → List A) (w : ℕ) (each : (k : ℕ) → length (e k) ≡ w) where
    pub length_run : (n : ℕ) → length (run e n) ≡ w * n
    unfolding run
    length_run zero = omega (arith, mul-zero w)
    length_run (suc n) = omega (arith, length-append (run e n) (e n), length_run n, each n, mul-suc w n)

    -- byte j of entry i
    pub get_or-run : (n i j : ℕ) (d : A) → i < n → j < w → get_or (run e n) (w * i + j) d ≡ get_or (e i) j d
    unfolding run
    get_or-run zero i j d h g = absurd (omega arith)
    get_or-run (suc n) i j d h g =
        ⊎_elim
        (λ q.
        ap (λ x. get_or (run e n ++ e n) x d) (omega (arith, length_run n, ap (λ x. w * x) q))
        ∙ get_or-append-add (run e n) (e n) j d
        ∙ ap (λ x. get_or (e x) j d) (sym q))
        (λ l.
        let inside : w * i + j < length (run e n) = omega (arith, length_run n, mul-le-mul_left {m = suc i} {n = n} w l, mul-suc w i) in
        get_or-append (run e n) (e n) d (w * i + j) inside ∙ get_or-run n i j d l g)
        (eq-or-lt_of_le {n = i} {m = n} (omega arith))

    -- a list that is cut into such entries is their run
    pub run-cut : (l : List A) (n : ℕ) → w * n ≤ length l → ((i : ℕ) → i < n → e i ≡ take w (drop (w * i) l)) → run e n ≡ take (w * n) l
    unfolding run
    run-cut l zero h q = rw mul-zero
    run-cut l (suc n) h q =
        rw (mul-suc w n, take-add (w * n) w l, ← q n (omega arith), run-cut l n (omega (arith, mul-suc w n)) (λ i b. q i (omega arith))) refl

-- A loop that fills an array: its start, one entry more, its end.
module _ {A : Type 0} (f : ℕ → A) (n : ℕ) where
  pub fill_start : (l : List A) → length l ≡ n → Filled f n 0 l
  fill_start l h = record { upto = omega arith; long = h; front = rw upto_zero refl }

  pub fill_step : {i : ℕ} {l : List A} {v : A} → Filled f n i l → i < n → v ≡ f i → Filled f n (i + 1) (set l i v)
  fill_step {i} {l} {v} h b e =
      record { upto = omega arith; long = length-set l i v ∙ h.long; front = rw e (table_more f i l (omega arith) h.front) }

  pub fill_end : {i : ℕ} {l : List A} → Filled f n i l → n ≤ i → l ≡ table f n
  fill_end {i} {l} h b =
      let q : i ≡ n = omega arith in
      sym (take_all n l (omega arith)) ∙ rw q at h.front

-- A loop that fills an array and may stop early: its start, one entry more, its end, where no entry is left that is not z.
module _ {A : Type 0} (f : ℕ → A) (z : A) (n : ℕ) where
  pub begin-start : (l : List A) → l ≡ replicate n z → Begun f z n 0 l
  begin-start l e =
      record {
        upto = omega arith;
        long = ap length e ∙ length-replicate n z;
        front = λ j h. absurd (omega arith);
        rest = λ j h. ap (λ (x : List A). get_or x j z) e ∙ empty j (dec_lt j n);
      }
    where
      empty : (j : ℕ) → Dec (j < n) → get_or (replicate n z) j z ≡ z
      empty j (yes h) = get_or-replicate n j z z h
      empty j (no h) = get_or-eq_default (replicate n z) z (omega (arith, length-replicate n z))

  pub begin-step : {i : ℕ} {l : List A} {v : A} → Begun f z n i l → i < n → v ≡ f i → Begun f z n (i + 1) (set l i v)
  begin-step {i} {l} {v} h b e =
      record {
        upto = omega arith;
        long = length-set l i v ∙ h.long;
        front = λ j k. at j k (ℕ_discrete j i);
        rest = λ j k. get_or-set_other l i j v z (λ q. omega arith) ∙ h.rest j (omega arith);
      }
    where
      at : (j : ℕ) → j < i + 1 → Dec (j ≡ i) → get_or (set l i v) j z ≡ f j
      at j k (yes q) = ap (λ (x : ℕ). get_or (set l i v) x z) q ∙ get_or-set_same l i v z (omega (arith, h.long)) ∙ e ∙ ap f (sym q)
      at j k (no q) = get_or-set_other l i j v z q ∙ h.front j (omega arith)

  pub begin-end : {i : ℕ} {l : List A} → Begun f z n i l → ((j : ℕ) → i ≤ j → j < n → f j ≡ z) → l ≡ table f n
  begin-end {i} {l} h over =
      ext_get_or z l (table f n) (h.long ∙ sym (length-table f n)) (λ j b. let k : j < n = omega (arith, h.long) in at j k (dec_lt j i) ∙ sym (get_or-table f n j z k))
    where
      at : (j : ℕ) → j < n → Dec (j < i) → get_or l j z ≡ f j
      at j k (yes q) = h.front j q
      at j k (no q) = h.rest j (omega arith) ∙ sym (over j (omega arith) k)

-- A loop that writes entries: its start, one entry more, its end.
module _ {A : Type 0} (e : ℕ → List A) (w n : ℕ) where
  pub write-start : (l : List A) → length l ≡ w * n → Written e w n 0 l
  unfolding run
  write-start l h = record { upto = omega arith; long = h; front = rw mul-zero refl }

  pub write_step : {i : ℕ} {l l' : List A} → Written e w n i l → i < n → length (e i) ≡ w → l' ≡ sets l (w * i) (e i) → Written e w n (i + 1) l'
  write_step {i} {l} {l'} h b q s =
      let room : w * i + length (e i) ≤ length l = omega (arith, mul-le-mul_left {m = suc i} {n = n} w b, mul-suc w i) in
      let step : w * (i + 1) ≡ w * i + length (e i) = rw add-one (mul-suc w i ∙ ap (λ x. w * i + x) (sym q)) in
      record {
        upto = omega arith;
        long = ap length s ∙ length-sets l (w * i) (e i) ∙ h.long;
        front = rw (step, s) (run_more e i (w * i) l room h.front);
      }

  pub write-end : {i : ℕ} {l : List A} → Written e w n i l → n ≤ i → l ≡ run e n
  write-end {i} {l} h b =
      let q : i ≡ n = omega arith in
      sym (take_all (w * n) l (omega arith)) ∙ rw q at h.front

-- A buffer that is written from the front, part by part: the part from a to b was lent and came back as `new`.
pub front-step : {A : Type 0} (l₀ : List A) {l l' : List A} (front new : List A) (a b : ℕ)
    → l ≡ front ++ drop a l₀ → length front ≡ a → length new ≡ b - a → a ≤ b
    → l' ≡ splice l a b new → l' ≡ (front ++ new) ++ drop b l₀
front-step l₀ {l} {l'} front new a b e h g o q =
    let k : a + (b - a) ≡ b = omega arith in
    q
    ∙ rw (e, take_at front (drop a l₀) a h, drop_at front (drop a l₀) a h, drop-drop (b - a) a l₀, k)
    (sym (append_assoc front new (drop b l₀)))
