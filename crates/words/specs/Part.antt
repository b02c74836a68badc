-- Runs of entries, and how far a loop that fills an array or writes a part has come.
use Rattle.std.specs.Prelude.{ℕ, zero, suc, ◌-◌, ◌*◌, ◌≤◌, ◌<◌, ◌≡◌, List, [], ◌++◌, map, length, get_or, take, drop}
use Rattle.sets.specs.Lists.{upto}

-- the entries f 0, .., f (n - 1)
abbrev pub table : {A : Type 0} → (ℕ → A) → ℕ → List A
table f n = map f (upto n)

-- the bytes of entry 0, .., of entry n - 1, one after the other
unfoldable pub run : {A : Type 0} → (ℕ → List A) → ℕ → List A
run e zero = []
run e (suc n) = run e n ++ e n

-- what stands from place a to place b
abbrev pub stretch : {A : Type 0} → List A → ℕ → ℕ → List A
stretch l a b = take (b - a) (drop a l)

-- the list with what stands from place a to place b replaced
abbrev pub splice : {A : Type 0} → List A → ℕ → ℕ → List A → List A
splice l a b new = take a l ++ (new ++ drop (b - a) (drop a l))

-- A loop that fills an array of n entries has filled i.
pub record Filled {A : Type 0} (f : ℕ → A) (n i : ℕ) (l : List A) : Type 0 where
  pub upto : i ≤ n
  pub long : length l ≡ n
  pub front : take i l ≡ table f i

-- A loop that fills such an array from the front, and may stop early, has filled i; from there on every entry is z.
pub record Begun {A : Type 0} (f : ℕ → A) (z : A) (n i : ℕ) (l : List A) : Type 0 where
  pub upto : i ≤ n
  pub long : length l ≡ n
  pub front : (j : ℕ) → j < i → get_or l j z ≡ f j
  pub rest : (j : ℕ) → i ≤ j → get_or l j z ≡ z

-- A loop that writes n entries of w bytes each has written i.
pub record Written {A : Type 0} (e : ℕ → List A) (w n i : ℕ) (l : List A) : Type 0 where
  pub upto : i ≤ n
  pub long : length l ≡ w * n
  pub front : take (w * i) l ≡ run e i
