-- Where t people are gone nobody else can go: from there on the away side has one set, and the rest is a plan without its people.
use mathlib.Core.Path.{◌≡◌, refl, sym, ap, ◌∙◌}
use mathlib.Core.Option.{Option, none, some}
use mathlib.Core.List.{[], ◌∷◌}
use Prim.Native.Nat.{ℕ, zero, suc, ◌<◌, ◌^◌}
use native.Mathlib.Nat.{add-zero}
use Rattle.sets.specs.Sets.{size}
use Rattle.sets.proofs.Listed.{sets-full}
use Rattle.games.specs.Arena.{Arena}
use Rattle.games.specs.Walks.{Search, plus, or_else, seek, try, if_none, unbeaten, tries, desk, present, plan, decremental}
use Rattle.games.proofs.Walks.{told, seek-told, seek-cong}

-- a list of one
seek-one : {A B : Type 0} (f : A → Search B) (x : A) → seek f (x ∷ []) ≡ f x
unfolding seek or_else plus
seek-one {A} {B} f x = at (f x).got (f x).trials
  where
    at : (o : Option B) (c : ℕ) → or_else o c (λ _. record { got = none; trials = 0 }) ≡ record { got = o; trials = c }
    at (some b) c = refl
    at none c = ap (λ (n : ℕ). record { got = none; trials = n }) (add-zero c)

-- what a search gets does not matter to who lacks it
lacks-told : {B C : Type 0} (f : B → C) (A : ℕ) (w : Search B) → if_none A (told f w) ≡ if_none A w
unfolding if_none
lacks-told {B} f A w = at w.got w.trials
  where
    at : (o : Option B) (c : ℕ) → if_none A (told f (record { got = o; trials = c })) ≡ if_none A (record { got = o; trials = c })
    at none c = refl
    at (some b) c = refl

-- something, exactly if a search gets something
stands : {B : Type 0} (A : ℕ) (w : Search B) → unbeaten (if_none A w) ≡ told (λ b. tt {0}) w
unfolding if_none
stands {B} A w = at w.got w.trials
  where
    at : (o : Option B) (c : ℕ) → unbeaten (if_none A (record { got = o; trials = c })) ≡ told (λ b. tt {0}) (record { got = o; trials = c })
    at none c = refl
    at (some b) c = refl

module _ (G : Arena) where
  -- a turn of the desk, told on
  try-told : {B C : Type 0} (f : B → C) (judge : G.Pos → Search B) (o : Option G.Pos) → told f (try judge o) ≡ try (λ q. told f (judge q)) o
  unfolding try plus
  try-told f judge none = refl
  try-told f judge (some q) = refl

  desk-told : {B C : Type 0} (f : B → C) (judge : G.Pos → Search B) (A : ℕ) (p : G.Pos) → told f (desk G judge A p) ≡ desk G (λ q. told f (judge q)) A p
  unfolding desk tries
  desk-told f judge A p =
      seek-told f (tries G judge p) (present G A)
      ∙ seek-cong _ _ (present G A) (λ u m.
      seek-told f (λ x. try judge (G.after p x)) (G.moves p u)
      ∙ seek-cong _ _ (G.moves p u) (λ x k. try-told f judge (G.after p x)))

  desk-same : {B : Type 0} (i j : G.Pos → Search B) → ((q : G.Pos) → i q ≡ j q) → (A : ℕ) (p : G.Pos) → desk G i A p ≡ desk G j A p
  desk-same {B} i j e A p = ap (λ (h : G.Pos → Search B). desk G h A p) (λ x q. e q x)

  pub all-gone : (t A : ℕ) → A < 2 ^ G.people → size G.people A ≡ t → (k : ℕ) (p : G.Pos) → decremental G t k A p ≡ if_none A (plan G A k p)
  unfolding decremental plan if_none
  all-gone t A l e zero p = refl
  all-gone t A l e (suc k) p =
      ap (seek (λ B. if_none B (desk G (λ q. unbeaten (decremental G t k B q)) B p))) (sets-full G.people t A l e)
      ∙ seek-one (λ B. if_none B (desk G (λ q. unbeaten (decremental G t k B q)) B p)) A
      ∙ ap (if_none A) (desk-same _ (λ q. told (λ b. tt {0}) (plan G A k q)) (λ q. ap unbeaten (all-gone t A l e k q) ∙ stands A (plan G A k q)) A p ∙ sym (desk-told (λ b. tt {0}) (plan G A k) A p))
      ∙ lacks-told (λ b. tt {0}) A (desk G (plan G A k) A p)
