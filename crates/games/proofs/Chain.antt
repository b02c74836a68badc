-- Dynamic yes gives decremental yes, that gives one-shot yes, that gives static yes, and that a plan: for any notion of a round.
use mathlib.Core.Path.{refl}
use Prim.Native.Nat.{ℕ, zero, suc}
use Rattle.games.specs.Games.{Absent, Planned, Static, Decremental, OneShot, Dynamic}
use Rattle.games.proofs.Verdicts.{nobody, contains-empty}

module _ {Pos : Type 0} (n : ℕ) (Round : ℕ → Pos → Pos → Type 0) where
  pub dynamic→decremental : (t k c : ℕ) (p : Pos) → Dynamic n Round t k p → Decremental n Round t k c p
  dynamic→decremental t zero c p g = tt
  dynamic→decremental t (suc k) c p g = λ A a w. let r = g A a in (r.0, r.1, dynamic→decremental t k A r.0 r.2)

  -- the away side may leave its set as it is
  pub decremental→planned : (t k A : ℕ) (p : Pos) → Absent n t A → Decremental n Round t k A p → Planned n Round A k p
  decremental→planned t zero A p a g = (p, refl)
  decremental→planned t (suc k) A p a g =
      let r = g A a (λ v h e. e) in
      let l = decremental→planned t k A r.0 a r.2 in
      (l.0, (r.0, r.1, l.1))

  -- with nobody away yet, it may name any set at once, and nobody
  pub decremental→one_shot : (t k : ℕ) (p : Pos) → Decremental n Round t k 0 p → OneShot n Round t k p
  decremental→one_shot t zero p g = tt
  decremental→one_shot t (suc k) p g =
      let pass = g 0 (nobody n t) (λ v h e. e) in (
        (pass.0, pass.1, decremental→one_shot t k pass.0 pass.2),
        λ A a.
            let r = g A a (contains-empty n A) in
            let l = decremental→planned t k A r.0 a r.2 in
            (l.0, (r.0, r.1, l.1)),
      )

  -- it may strike before the first step
  pub one_shot→static : (t k : ℕ) (p : Pos) → OneShot n Round t k p → Static n Round t k p
  one_shot→static t zero p g A a = (p, refl)
  one_shot→static t (suc k) p g A a = g.1 A a

  pub static→planned : (t k : ℕ) (p : Pos) → Static n Round t k p → Planned n Round 0 k p
  static→planned t k p g = g 0 (nobody n t)
