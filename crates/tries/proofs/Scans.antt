-- One scan for every search at a position: a line of people, each a trial, and among them those with whom every rule holds, whose placing is judged.
-- One law for each way through a turn of a search's loop.
use mathlib.Core.Path.{◌≡◌, refl, sym, ap, ap₂, ◌∙◌}
use mathlib.Core.Logic.{inl, inr}
use mathlib.Core.Option.{Option, none, some}
use mathlib.Core.Bool.{Bool, true, false, ◌&&◌}
use mathlib.Core.List.{List, [], ◌∷◌, ◌++◌, append-nil}
use Prim.Native.Nat.{ℕ, suc, ◌+◌, ◌-◌, ◌≤◌, ◌<◌}
use native.Mathlib.Numerals.{one-add}
use native.Mathlib.Omega.{arith}
use borrow.Author.Tests.{leb-true, leb-false}
use lib.Dec.{ltb}
use lib.ListN.{length, length-append}
use Rattle.sets.specs.Lists.{◌∈◌, pick}
use Rattle.sets.specs.Sets.{has, size, size_before, lowest, members, after}
use Rattle.sets.specs.Stored.{width}
use Rattle.sets.proofs.Lists.{and-true, true-and, and-true-end}
use Rattle.sets.proofs.Counting.{has-set_of}
use Rattle.sets.proofs.Members.{members-in, members-length, lowest-nobody, lowest-some, lowest-least, members-split}
use Rattle.games.specs.Walks.{Walk, plus}
use Rattle.games.specs.Limit.{stopped, whole, cut}
use Rattle.tries.specs.Trying.{trials_to, tried}
use Rattle.games.proofs.Cuts.{plus-plus, plus-trials, plus-zero, finished, over, ends, stops, only-some, only_none}

-- after a person was placed and judged: stop with an answer, or go on
pub data Step (R S : Type 0) : Type 0 where
  stop : R → Step R S
  go : S → Step R S

-- A is what the judging of a placing answers, S what is carried from person to person, R the answer
pub record Hunt (A R S : Type 0) : Type 0 where
  pub sub : ℕ → Walk A
  pub step : ℕ → A → S → Step R S
  pub last : S → R

abbrev pub turn : {R S : Type 0} → Step R S → (S → Walk R) → Walk R
turn (stop r) rest = record { got = r; trials = 0 }
turn (go s) rest = rest s

module _ {A R S : Type 0} (h : Hunt A R S) where
  -- after the judging of person u, the rest
  abbrev pub judged : ℕ → S → (S → Walk R) → Walk R
  judged u s rest = plus (h.sub u).trials (turn (h.step u (h.sub u).got s) rest)

  -- go over the people of a line, with F those with whom every rule holds
  unfoldable pub scan : ℕ → List ℕ → S → Walk R
  scan F [] s = record { got = h.last s; trials = 0 }
  scan F (u ∷ us) s = plus 1 (pick (has F u) (judged u s (scan F us)) (scan F us s))

  -- those with whom a rule breaks cost a trial each
  scan-missed : (F : ℕ) (xs ys : List ℕ) (s : S) → ((u : ℕ) → u ∈ xs → has F u ≡ false) → scan F (xs ++ ys) s ≡ plus (length xs) (scan F ys s)
  unfolding scan
  scan-missed F [] ys s m = sym (plus-zero (scan F ys s))
  scan-missed F (x ∷ xs) ys s m =
      ap (λ (b : Bool). plus 1 (pick b (judged x s (scan F (xs ++ ys))) (scan F (xs ++ ys) s))) (m x (inl refl))
      ∙ ap (plus 1) (scan-missed F xs ys s (λ u k. m u (inr k)))
      ∙ plus-plus 1 (length xs) (scan F ys s)
      ∙ ap (λ (c : ℕ). plus c (scan F ys s)) (one-add (length xs))

  scan-hit : (F u : ℕ) (us : List ℕ) (s : S) → has F u ≡ true → scan F (u ∷ us) s ≡ plus 1 (judged u s (scan F us))
  unfolding scan
  scan-hit F u us s e = ap (λ (b : Bool). plus 1 (pick b (judged u s (scan F us)) (scan F us s))) e

  turn-cong : (x : Step R S) (f g : S → Walk R) → ((s : S) → f s ≡ g s) → turn x f ≡ turn x g
  turn-cong (stop r) f g e = refl
  turn-cong (go s) f g e = e s

  pub scan-cong : (F G : ℕ) (us : List ℕ) → ((u : ℕ) → u ∈ us → has F u ≡ has G u) → (s : S) → scan F us s ≡ scan G us s
  unfolding scan
  scan-cong F G [] e s = refl
  scan-cong F G (u ∷ us) e s =
      let rest = scan-cong F G us (λ v m. e v (inr m)) in
      ap (λ (b : Bool). plus 1 (pick b (judged u s (scan F us)) (scan F us s))) (e u (inl refl))
      ∙ ap₂ (λ (x y : Walk R). plus 1 (pick (has G u) (plus (h.sub u).trials x) y)) (turn-cong (h.step u (h.sub u).got s) (scan F us) (scan G us) rest) (rest s)

-- ---- behind a person

pub has-after : (s v u : ℕ) → u < width → has (after width s v) u ≡ has s u && ltb v u
has-after s v u h = has-set_of (λ w. has s w && ltb v w) width u h

pub after-inside : (T F v u : ℕ) → u < width → (has F u ≡ true → has T u ≡ true) → has (after width F v) u ≡ true → has (after width T v) u ≡ true
after-inside T F v u h i e =
    let k = and-true (has F u) (ltb v u) (sym (has-after F v u h) ∙ e) in
    has-after T v u h ∙ true-and (has T u) (ltb v u) (i k.0) k.1

after_fewer : (F v : ℕ) → v < width → has F v ≡ true → size width (after width F v) < size width F
after_fewer F v h e =
    let k = members-split width F v h e in
    let m = ap length k.split ∙ length-append k.lower (v ∷ members width (after width F v)) in
    omega (arith, m, members-length width F, members-length width (after width F v))

-- F is within T
abbrev pub Inside : ℕ → ℕ → Type 0
Inside F T = (u : ℕ) → u < width → has F u ≡ true → has T u ≡ true

-- What a search's loop holds: `used` trials are used, T are still in line, F those of them with whom every rule holds, s is carried.
pub record Going {A R S : Type 0} (h : Hunt A R S) (total : Walk R) (limit T F used : ℕ) (s : S) : Type 0 where
  pub enough : used ≤ limit
  pub inside : Inside F T
  pub rest : total ≡ plus used (scan h F (members width T) s)

-- What it holds when person v is tried: `used` counts that trial, and v's placing is to be judged.
pub record Trying {A R S : Type 0} (h : Hunt A R S) (total : Walk R) (limit T F v used : ℕ) (s : S) : Type 0 where
  pub enough : used ≤ limit
  pub known : v < width
  pub listed : has T v ≡ true
  pub fewer : size width (after width F v) < size width F
  pub inside : Inside (after width F v) (after width T v)
  pub rest : total ≡ plus used (judged h v s (scan h (after width F v) (members width (after width T v))))

pub going_start : {A R S : Type 0} (h : Hunt A R S) (total : Walk R) (limit T F : ℕ) (s : S) → Inside F T → total ≡ scan h F (members width T) s
    → Going h total limit T F 0 s
going_start h total limit T F s i e = record { enough = omega arith; inside = i; rest = e ∙ sym (plus-zero (scan h F (members width T) s)) }

module _ {A R S : Type 0} (h : Hunt A R S) (T F : ℕ) (s : S) where
  -- nobody is worth a try: each of those in line costs a trial
  pub nobody-left : lowest width F ≡ none → scan h F (members width T) s ≡ record { got = h.last s; trials = size width T }
  unfolding scan plus
  nobody-left e =
      ap (λ l. scan h F l s) (sym (append-nil (members width T)))
      ∙ scan-missed h F (members width T) [] s (λ u m. lowest-nobody width F e u (members-in width T u m).0)
      ∙ (let k : length (members width T) + 0 ≡ size width T = omega (arith, members-length width T) in ap (λ (c : ℕ). record { got = h.last s; trials = c }) k)

  -- the next who is worth a try: those before cost a trial each, and so does v
  pub came-to : Inside F T → (v : ℕ) → lowest width F ≡ some v
      → scan h F (members width T) s ≡ plus (suc (size_before width T v)) (judged h v s (scan h (after width F v) (members width (after width T v))))
  came-to i v e =
      let l = lowest-some width F v e in
      let k = members-split width T v l.0 (i v l.0 l.1) in
      let many : length k.lower + 1 ≡ suc (size_before width T v) = omega (arith, k.many) in
      ap (λ l. scan h F l s) k.split
      ∙ scan-missed h F k.lower (v ∷ members width (after width T v)) s (λ u m. lowest-least width F v e u (k.below u m).0)
      ∙ ap (plus (length k.lower)) (scan-hit h F v (members width (after width T v)) s l.1)
      ∙ plus-plus (length k.lower) 1 (judged h v s (scan h F (members width (after width T v))))
      ∙ ap₂ (λ (c : ℕ) (w : Walk R). plus c (plus (h.sub v).trials w)) many
      (turn-cong h (h.step v (h.sub v).got s) (scan h F (members width (after width T v))) (scan h (after width F v) (members width (after width T v)))
      (scan-cong h F (after width F v) (members width (after width T v)) (λ u m. later u (members-in width (after width T v) u m))))
    where
      later : (u : ℕ) → (u < width) × (has (after width T v) u ≡ true) → has F u ≡ has (after width F v) u
      later u m =
          let t = and-true (has T u) (ltb v u) (sym (has-after T v u m.0) ∙ m.1) in
          sym (has-after F v u m.0 ∙ ap (λ (b : Bool). has F u && b) t.1 ∙ and-true-end (has F u))

module _ {A R S : Type 0} {h : Hunt A R S} {total : Walk R} {limit T F used : ℕ} {s : S} (g : Going h total limit T F used s) where
  -- the limit comes first
  pub try-limit : none ≡ tried T F used limit → stopped limit ≡ cut limit total
  unfolding tried
  try-limit e = stops limit used total (scan h F (members width T) s) g.rest (at (lowest width F) refl (leb-false _ limit (only_none _ _ e)))
    where
      at : (o : Option ℕ) → lowest width F ≡ o → limit < used + trials_to T o → limit < used + (scan h F (members width T) s).trials
      at none q l = let k = ap (λ (w : Walk R). w.trials) (nobody-left h T F s q) in omega arith
      at (some v) q l =
          let k = ap (λ (w : Walk R). w.trials) (came-to h T F s g.inside v q) in
          omega (arith, plus-trials (suc (size_before width T v)) (judged h v s (scan h (after width F v) (members width (after width T v)))))

  -- nobody is worth a try, and there are trials enough for all
  pub try-nobody : (c : ℕ) → some (none, c) ≡ tried T F used limit → whole (record { got = h.last s; trials = c }) ≡ cut limit total
  unfolding tried plus
  try-nobody c e =
      let k = only-some _ (lowest width F, used + trials_to T (lowest width F)) (none, c) e in
      let o : none ≡ lowest width F = ap (λ (x : Option ℕ × ℕ). x.0) k.1 in
      let n : c ≡ used + trials_to T (lowest width F) = ap (λ (x : Option ℕ × ℕ). x.1) k.1 in
      let m : c ≡ used + size width T = n ∙ ap (λ (x : Option ℕ). used + trials_to T x) (sym o) in
      ends limit total (h.last s) c
      (g.rest ∙ ap (plus used) (nobody-left h T F s (sym o)) ∙ ap (λ (x : ℕ). record { got = h.last s; trials = x }) (sym m))
      (omega (arith, leb-true _ limit k.0, n))

  -- somebody is worth a try
  pub try-person : (v c : ℕ) → some (some v, c) ≡ tried T F used limit → Trying h total limit T F v c s
  unfolding tried
  try-person v c e =
      let k = only-some _ (lowest width F, used + trials_to T (lowest width F)) (some v, c) e in
      let o : some v ≡ lowest width F = ap (λ (x : Option ℕ × ℕ). x.0) k.1 in
      let n : c ≡ used + trials_to T (lowest width F) = ap (λ (x : Option ℕ × ℕ). x.1) k.1 in
      let m : c ≡ used + suc (size_before width T v) = n ∙ ap (λ (x : Option ℕ). used + trials_to T x) (sym o) in
      let l = lowest-some width F v (sym o) in
      record {
        enough = omega (arith, leb-true _ limit k.0, n);
        known = l.0;
        listed = g.inside v l.0 l.1;
        fewer = after_fewer F v l.0 l.1;
        inside = λ u b q. after-inside T F v u b (g.inside u b) q;
        rest = g.rest ∙ ap (plus used) (came-to h T F s g.inside v (sym o)) ∙ plus-plus used _ _ ∙ ap (λ (x : ℕ). plus x (judged h v s (scan h (after width F v) (members width (after width T v))))) (sym m);
      }

-- ---- v's placing is judged

module _ {A R S : Type 0} {h : Hunt A R S} {total : Walk R} {limit T F v used : ℕ} {s : S} (y : Trying h total limit T F v used s) where
  abbrev behind-v : S → Walk R
  behind-v = scan h (after width F v) (members width (after width T v))

  -- the judging stops at the limit
  pub sub-limit : stopped (limit - used) ≡ cut (limit - used) (h.sub v) → stopped limit ≡ cut limit total
  unfolding plus
  sub-limit e = stops limit used total (judged h v s behind-v) y.rest (omega (arith, over (limit - used) (h.sub v) e, y.enough))

  module _ (a : A) (more : ℕ) (e : whole (record { got = a; trials = more }) ≡ cut (limit - used) (h.sub v)) where
    pub sub_within : used + more ≤ limit
    sub_within = let d = finished (limit - used) (h.sub v) a more e in omega (arith, d.within, y.enough)

    known-rest : (x : Step R S) → h.step v a s ≡ x → total ≡ plus (used + more) (turn x behind-v)
    known-rest x q =
        let d = finished (limit - used) (h.sub v) a more e in
        y.rest
        ∙ ap₂ (λ (c : ℕ) (b : A). plus used (plus c (turn (h.step v b s) behind-v))) d.trials d.got
        ∙ ap (λ (z : Step R S). plus used (plus more (turn z behind-v))) q
        ∙ plus-plus used more (turn x behind-v)

    -- the search is over
    pub sub-done : (r : R) → h.step v a s ≡ stop r → whole (record { got = r; trials = used + more }) ≡ cut limit total
    unfolding plus
    sub-done r q =
        let z : used + more + 0 ≡ used + more = omega arith in
        ends limit total r (used + more) (known-rest (stop r) q ∙ ap (λ (c : ℕ). record { got = r; trials = c }) z) sub_within

    -- the search goes on behind v
    pub sub-on : (next : S) → h.step v a s ≡ go next → Going h total limit (after width T v) (after width F v) (used + more) next
    sub-on next q = record { enough = sub_within; inside = y.inside; rest = known-rest (go next) q }
