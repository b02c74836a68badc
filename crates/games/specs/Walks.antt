-- The walks, each with its trials (scope: "The walk and its trials", "Playing the dynamic game"). No walk knows a limit.
use Rattle.std.specs.Prelude.{◌≡◌, not, List, [], ◌∷◌, ℕ, zero, suc, ◌+◌, leb, length}
use Rattle.std.proofs.Math.Option.{Option, none, some}
use Rattle.sets.specs.Lists.{only_if, upto, keep}
use Rattle.sets.specs.Sets.{has, set_from, sets}
use Rattle.games.specs.Arena.{Arena}

-- ---- Searches

-- what a walk came to, and its trials
pub record Walk (B : Type 0) : Type 0 where
  pub got : B
  pub trials : ℕ

-- a search gets something or nothing
abbrev pub Search : Type 0 → Type 0
Search B = Walk (Option B)

-- a walk after c trials
unfoldable pub plus : {B : Type 0} → ℕ → Walk B → Walk B
plus c w = record { got = w.got; trials = c + w.trials }

module _ {B : Type 0} where
  -- what was got in c trials, or else what the rest gets
  unfoldable pub or_else : Option B → ℕ → (Unit {0} → Search B) → Search B
  or_else (some b) c rest = record { got = some b; trials = c }
  or_else none c rest = plus c (rest tt)

  -- go over a list, and stop at the first that gets something
  unfoldable pub seek : {A : Type 0} → (A → Search B) → List A → Search B
  seek f [] = record { got = none; trials = 0 }
  seek f (x ∷ xs) = let w = f x in or_else w.got w.trials (λ _. seek f xs)

  -- a trial: it is counted also when a rule breaks; where none does, the position that it leaves is judged
  unfoldable pub try : {P : Type 0} → (P → Search B) → Option P → Search B
  try judge none = record { got = none; trials = 1 }
  try judge (some q) = plus 1 (judge q)

  abbrev pub lacking : {C : Type 0} → C → Option B → Option C
  lacking c none = some c
  lacking c (some b) = none

  -- c exactly if a search gets nothing
  unfoldable pub if_none : {C : Type 0} → C → Search B → Search C
  if_none c w = record { got = lacking c w.got; trials = w.trials }

  abbrev pub having : {C : Type 0} → C → Option B → Option C
  having c none = none
  having c (some b) = some c

  -- c exactly if a search gets something
  unfoldable pub if_some : {C : Type 0} → C → Search B → Search C
  if_some c w = record { got = having c w.got; trials = w.trials }

  -- one person u more, tried in c trials, where w + 1 are still wanted
  unfoldable pub mark : Option B → ℕ → ℕ → (ℕ → Walk (List ℕ)) → ℕ → Walk (List ℕ)
  mark (some b) c u rest w = let r = rest w in record { got = u ∷ r.got; trials = c + r.trials }
  mark none c u rest w = let r = rest (suc w) in record { got = r.got; trials = c + r.trials }

  -- go over people, and stop when w of them are found for whom something is got: those people
  unfoldable pub tally : (ℕ → Search B) → List ℕ → ℕ → Walk (List ℕ)
  tally f [] w = record { got = []; trials = 0 }
  tally f (u ∷ us) zero = record { got = []; trials = 0 }
  tally f (u ∷ us) (suc w) = let r = f u in mark r.got r.trials u (λ v. tally f us v) w

-- the set of the people found, where they are at most t
unfoldable pub too_few : ℕ → Walk (List ℕ) → Search ℕ
too_few t w = record { got = only_if (leb (length w.got) t) (set_from w.got); trials = w.trials }

-- ---- Verdicts. All have one type: where no set is got the desk wins, and a set that is got is shown.

abbrev pub Yes : Search ℕ → Type 0
Yes w = w.got ≡ none

abbrev pub No : Search ℕ → ℕ → Type 0
No w A = w.got ≡ some A

-- the desk's view: something exactly if the away side gets no set
abbrev pub unbeaten : Search ℕ → Search (Unit {0})
unbeaten w = if_none (tt {0}) w

-- ---- The walks

module _ (G : Arena) where
  -- everybody but the members of A, ascending
  unfoldable pub present : ℕ → List ℕ
  present A = keep (λ u. not (has A u)) (upto G.people)

  -- person u is tried from p: u's first move that leaves a position judged well
  unfoldable pub tries : {B : Type 0} → (G.Pos → Search B) → G.Pos → ℕ → Search B
  tries judge p u = seek (λ m. try judge (G.after p m)) (G.moves p u)

  -- a turn of the desk with A away: the first person who leaves a position judged well
  unfoldable pub desk : {B : Type 0} → (G.Pos → Search B) → ℕ → G.Pos → Search B
  desk judge A p = seek (tries judge p) (present A)

  -- Plan: depth first, stop at the first plan. A is away throughout, and k steps are left.
  unfoldable pub plan : ℕ → ℕ → G.Pos → Search G.Pos
  plan A zero p = record { got = some p; trials = 0 }
  plan A (suc k) p = desk (plan A k) A p

  -- Static: sets in ascending number, a plan walk each, stop at the first set without a plan.
  unfoldable pub static : ℕ → ℕ → G.Pos → Search ℕ
  static t k p = seek (λ A. if_none A (plan A k p)) (sets G.people t 0)

  -- Decremental: a turn of the away side goes over the sets of at most t people that contain c, in ascending number, and stops at the first
  -- that beats the desk. A turn of the desk stops at the first person who leaves a position at which the next turn of the away side gets no set.
  unfoldable pub decremental : ℕ → ℕ → ℕ → G.Pos → Search ℕ
  decremental t zero c p = record { got = none; trials = 0 }
  decremental t (suc k) c p =
      seek (λ A. if_none A (desk (λ q. unbeaten (decremental t k A q)) A p)) (sets G.people t c)

  -- One-shot: a turn of the away side that has not struck tries the pass, then the sets of at most t people in ascending number, and stops at the first
  -- that beats the desk; for a pass it gets the empty set. After a pass everybody is present, and another such turn follows the desk's. After a strike
  -- its people stay away to the end, and the desk's turns follow each other: so the strikes are the static walk from here.
  unfoldable pub one_shot : ℕ → ℕ → G.Pos → Search ℕ
  one_shot t zero p = record { got = none; trials = 0 }
  one_shot t (suc k) p =
      let pass : Search ℕ = if_none 0 (desk (λ q. unbeaten (one_shot t k q)) 0 p) in
      or_else pass.got pass.trials (λ _. static t (suc k) p)

  -- Dynamic: everybody is present. The people who leave a good position are found, up to t + 1 of them; where they are at most t they are shown.
  unfoldable pub dynamic : ℕ → ℕ → G.Pos → Search ℕ
  dynamic t zero p = record { got = none; trials = 0 }
  dynamic t (suc k) p = too_few t (tally (tries (λ q. unbeaten (dynamic t k q)) p) (upto G.people) (suc t))

  -- Advice: the lowest present person, with the move, whose placing leaves a good position. A is away in this round only.
  unfoldable pub advice : ℕ → ℕ → ℕ → G.Pos → Search (ℕ × G.Move)
  advice t zero A p = record { got = none; trials = 0 }
  advice t (suc k) A p =
      seek (λ u. seek (λ m. if_some (u, m) (try (λ q. unbeaten (dynamic t k q)) (G.after p m))) (G.moves p u)) (present A)

  -- Away: all people whose placing leaves a good position, where they are at most t.
  unfoldable pub away : ℕ → ℕ → G.Pos → Search ℕ
  away t k p = dynamic t k p
