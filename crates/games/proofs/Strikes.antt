-- One-shot's verdict is its game's: nothing is got exactly if the desk wins; and what is got otherwise is the pass, or the first strike that beats it.
use mathlib.Core.Path.{◌≡◌, refl, sym, ap, ◌∙◌, subst}
use mathlib.Core.Logic.{◌⊎◌, inl, inr, ◌↔◌}
use mathlib.Core.Option.{Option, none, some, some-ne-none}
use mathlib.Core.Bool.{true, true≢false}
use Prim.Native.Nat.{ℕ, zero, suc, ◌+◌}
use Rattle.games.specs.Arena.{Arena, Round}
use Rattle.games.specs.Walks.{Search, Yes, if_none, unbeaten, or_else, plus, seek, lacking, desk, plan, static, one_shot}
use Rattle.games.specs.Games.{Planned, OneShot}
use Rattle.games.proofs.Searches.{gets, gets_none, lacking-some, lacking-exactly, neither, either-got, turn-wins}
use Rattle.sets.specs.Sets.{sets}
use Rattle.games.proofs.Trials.{sum, seek-trials}
use Rattle.games.proofs.Verdicts.{static-exactly, StaticShown, static-shown}
use Rattle.games.proofs.Chain.{one_shot→static, static→planned}

module _ (G : Arena) where
  -- the desk's turn after a pass, with k steps left after it
  abbrev pub after_pass : (t k : ℕ) → G.Pos → Search (Unit {0})
  after_pass t k p = desk G (λ q. unbeaten (one_shot G t k q)) 0 p

  -- the pass comes first: where it beats the desk nobody is shown, whatever the strikes would come to
  pub pass-shown : (t k : ℕ) (p : G.Pos) → (after_pass t k p).got ≡ none → (one_shot G t (suc k) p).got ≡ some 0
  unfolding one_shot if_none or_else
  pass-shown t k p e = at _ _ _ e
    where
      at : (o : Option (Unit {0})) (c : ℕ) (rest : Unit {0} → Search ℕ) → o ≡ none → (or_else (lacking 0 o) c rest).got ≡ some 0
      at none c rest h = refl
      at (some b) c rest h = absurd (some-ne-none b h)

  -- a yes of the one-shot walk has tried the pass and every strike, the empty one among them
  pub one_shot-trials : (t k : ℕ) (p : G.Pos) → Yes (one_shot G t (suc k) p)
      → (one_shot G t (suc k) p).trials ≡ (after_pass t k p).trials + sum (λ A. (plan G A (suc k) p).trials) (sets G.people t 0)
  unfolding one_shot static if_none or_else plus
  one_shot-trials t k p e = go (lacking {C = ℕ} 0 (after_pass t k p).got) e
    where
      strikes : Search ℕ
      strikes = seek (λ A. if_none A (plan G A (suc k) p)) (sets G.people t 0)

      go : (o : Option ℕ) → (or_else o (after_pass t k p).trials (λ _. strikes)).got ≡ none
          → (or_else o (after_pass t k p).trials (λ _. strikes)).trials ≡ (after_pass t k p).trials + sum (λ A. (plan G A (suc k) p).trials) (sets G.people t 0)
      go none h = ap (λ (n : ℕ). (after_pass t k p).trials + n) (seek-trials (λ A. if_none A (plan G A (suc k) p)) (sets G.people t 0) h)
      go (some b) h = absurd (some-ne-none b h)

  -- the desk has an answer to a pass, after which it wins with k steps left
  abbrev pub PassAnswered : (t k : ℕ) → G.Pos → Type 0
  PassAnswered t k p = (q : G.Pos) × Round G 0 p q × OneShot G.people (Round G) t k q

  abbrev Exactly : (t k : ℕ) → Type 0
  Exactly t k = (p : G.Pos) → ((one_shot G t k p).got ≡ none) ↔ OneShot G.people (Round G) t k p

  answered : (t k : ℕ) → Exactly t k → (p : G.Pos) → (gets (after_pass t k p).got ≡ true) ↔ PassAnswered t k p
  answered t k ih p = turn-wins G (one_shot G t k) (OneShot G.people (Round G) t k) ih 0 p

  pub one_shot-exactly : (t k : ℕ) (p : G.Pos) → ((one_shot G t k p).got ≡ none) ↔ OneShot G.people (Round G) t k p
  unfolding one_shot if_none
  one_shot-exactly t zero p = (λ e. tt, λ g. refl)
  one_shot-exactly t (suc k) p =
      let pass = after_pass t k p in
      let n = neither pass.trials (λ _. static G t (suc k) p) (lacking {C = ℕ} 0 pass.got) in
      let l = lacking-exactly {C = ℕ} 0 pass.got in
      let a = answered t k (one_shot-exactly t k) p in
      let s = static-exactly G t (suc k) p in (
        λ e. let h = n.0 e in (a.0 (l.0 h.0), s.0 h.1),
        λ g. n.1 (l.1 (a.1 g.0), s.1 g.1),
      )

  -- what is shown: nobody, where the desk has no answer to a pass; else the first strike, in ascending number, without whose people the steps that are
  -- left cannot be done
  abbrev pub OneShotShown : (t k : ℕ) → G.Pos → ℕ → Type 0
  OneShotShown t k p A = ((A ≡ 0) × (PassAnswered t k p → ⊥)) ⊎ (PassAnswered t k p × StaticShown G t (suc k) p A)

  pub one_shot-shown : (t k : ℕ) (p : G.Pos) (A : ℕ) → (one_shot G t (suc k) p).got ≡ some A → OneShotShown t k p A
  unfolding one_shot if_none
  one_shot-shown t k p A e = go (either-got pass.trials (λ _. static G t (suc k) p) (lacking {C = ℕ} 0 pass.got) A e)
    where
      pass : Search (Unit {0})
      pass = after_pass t k p

      a : (gets pass.got ≡ true) ↔ PassAnswered t k p
      a = answered t k (one_shot-exactly t k) p

      go : (lacking {C = ℕ} 0 pass.got ≡ some A) ⊎ ((lacking {C = ℕ} 0 pass.got ≡ none) × ((static G t (suc k) p).got ≡ some A)) → OneShotShown t k p A
      go (inl h) =
          let s = lacking-some 0 A pass.got h in
          inl (sym s.1, λ r. true≢false (sym (a.1 r) ∙ (gets_none pass.got).0 s.0))
      go (inr h) = inr (a.0 ((lacking-exactly {C = ℕ} 0 pass.got).0 h.0), static-shown G t (suc k) p A h.1)

  -- where nobody is shown, it is the pass: after an answered pass the steps can be done with nobody away
  pub empty-is-pass : (t k : ℕ) (p : G.Pos) (A : ℕ) → A ≡ 0 → OneShotShown t k p A → PassAnswered t k p → ⊥
  empty-is-pass t k p A e (inl h) r = h.1 r
  empty-is-pass t k p A e (inr h) r =
      let l = static→planned G.people (Round G) t k r.0 (one_shot→static G.people (Round G) t k r.0 r.2) in
      h.1.unplanned (subst (λ B. Planned G.people (Round G) B (suc k) p) (sym e) (l.0, (r.0, r.1, l.1)))
