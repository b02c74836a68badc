-- The games, as plain statements, for n people and any notion of a round: `Goes A p q` when with A away the desk can go from p to q in one round.
-- "Up to t" is read as at most t.
use Rattle.std.specs.Prelude.{◌≡◌, true, ℕ, zero, suc, ◌^◌, ◌≤◌, ◌<◌}
use Rattle.sets.specs.Sets.{has, size}

-- A is a set of at most t of n people
pub record Absent (n t A : ℕ) : Type 0 where
  pub known : A < 2 ^ n
  pub few : size n A ≤ t

-- each of n people who is in c is in A
abbrev pub Contains : ℕ → ℕ → ℕ → Type 0
Contains n A c = (v : ℕ) → v < n → has c v ≡ true → has A v ≡ true

module _ {Pos : Type 0} (n : ℕ) (Goes : ℕ → Pos → Pos → Type 0) where
  -- k rounds from p to q, with A away in each
  abbrev pub Line : ℕ → ℕ → Pos → Pos → Type 0
  Line A zero p q = p ≡ q
  Line A (suc k) p q = (r : Pos) × Goes A p r × Line A k r q

  -- Plan: with A away throughout, the k steps that are left can be done.
  abbrev pub Planned : ℕ → ℕ → Pos → Type 0
  Planned A k p = (q : Pos) × Line A k p q

  -- Static: so it is for every set of at most t people.
  abbrev pub Static : ℕ → ℕ → Pos → Type 0
  Static t k p = (A : ℕ) → Absent n t A → Planned A k p

  -- Decremental: before each step the away side may enlarge its set c, never above t people over the whole job. The absent stay away. The desk has
  -- won when no step is left.
  abbrev pub Decremental : ℕ → ℕ → ℕ → Pos → Type 0
  Decremental t zero c p = Unit {0}
  Decremental t (suc k) c p = (A : ℕ) → Absent n t A → Contains n A c → (q : Pos) × Goes A p q × Decremental t k A q

  -- One-shot: before each step the away side passes or strikes. After a pass everybody is present, and the desk can go on so that it wins. A strike is the
  -- only one, of at most t people, who stay away: without them the steps that are left can be done. The desk has won when no step is left.
  abbrev pub OneShot : ℕ → ℕ → Pos → Type 0
  OneShot t zero p = Unit {0}
  OneShot t (suc k) p =
      ((q : Pos) × Goes 0 p q × OneShot t k q) × ((A : ℕ) → Absent n t A → Planned A (suc k) p)

  -- Dynamic: before each step the away side names any set of at most t people, and earlier absentees may be back. The desk has won when no step is
  -- left.
  abbrev pub Dynamic : ℕ → ℕ → Pos → Type 0
  Dynamic t zero p = Unit {0}
  Dynamic t (suc k) p = (A : ℕ) → Absent n t A → (q : Pos) × Goes A p q × Dynamic t k q
