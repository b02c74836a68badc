-- Where each round of one game can be matched by a round of another, every yes of the first is a yes of the second.
use mathlib.Core.Path.{refl}
use Prim.Native.Nat.{ℕ, zero, suc}
use Rattle.games.specs.Games.{Line, Static, Decremental, OneShot, Dynamic}

-- `Like p s`: the position s stands for p
abbrev pub Matches : {P S : Type 0} → (ℕ → P → P → Type 0) → (ℕ → S → S → Type 0) → (P → S → Type 0) → Type 0
Matches {P} {S} R Q Like = (A : ℕ) (p q : P) (s : S) → Like p s → R A p q → (z : S) × Q A s z × Like q z

module _ {P S : Type 0} (n : ℕ) (R : ℕ → P → P → Type 0) (Q : ℕ → S → S → Type 0) (Like : P → S → Type 0) (match : Matches R Q Like) where
  pub line-matched : (A k : ℕ) (p q : P) (s : S) → Like p s → Line n R A k p q → (z : S) × Line n Q A k s z
  line-matched A zero p q s h l = (s, refl)
  line-matched A (suc k) p q s h l =
      let m = match A p l.0 s h l.1 in
      let r = line-matched A k l.0 q m.0 m.2 l.2 in
      (r.0, (m.0, m.1, r.1))

  pub static-matched : (t k : ℕ) (p : P) (s : S) → Like p s → Static n R t k p → Static n Q t k s
  static-matched t k p s h g A a = let l = g A a in line-matched A k p l.0 s h l.1

  pub decremental-matched : (t k c : ℕ) (p : P) (s : S) → Like p s → Decremental n R t k c p → Decremental n Q t k c s
  decremental-matched t zero c p s h g = tt
  decremental-matched t (suc k) c p s h g = λ A a w.
      let r = g A a w in
      let m = match A p r.0 s h r.1 in
      (m.0, m.1, decremental-matched t k A r.0 m.0 m.2 r.2)

  pub one_shot-matched : (t k : ℕ) (p : P) (s : S) → Like p s → OneShot n R t k p → OneShot n Q t k s
  one_shot-matched t zero p s h g = tt
  one_shot-matched t (suc k) p s h g =
      let r = g.0 in
      let m = match 0 p r.0 s h r.1 in
      ((m.0, m.1, one_shot-matched t k r.0 m.0 m.2 r.2), static-matched t (suc k) p s h g.1)

  pub dynamic-matched : (t k : ℕ) (p : P) (s : S) → Like p s → Dynamic n R t k p → Dynamic n Q t k s
  dynamic-matched t zero p s h g = tt
  dynamic-matched t (suc k) p s h g = λ A a.
      let r = g A a in
      let m = match A p r.0 s h r.1 in
      (m.0, m.1, dynamic-matched t k r.0 m.0 m.2 r.2)
