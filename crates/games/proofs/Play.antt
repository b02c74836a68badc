-- What advice and away say, and that a yes is played by the one and a no by the other.
use mathlib.Core.Path.{◌≡◌, refl, sym, ap, ◌∙◌, subst}
use mathlib.Core.Logic.{◌↔◌}
use mathlib.Core.Option.{Option, none, some}
use mathlib.Core.Bool.{true, false, true≢false}
use mathlib.Core.List.{List, [], ◌∷◌}
use Prim.Native.Nat.{ℕ, zero, suc, ◌≤◌, ◌<◌}
use native.Mathlib.Omega.{arith}
use lib.ListN.{length}
use Rattle.sets.specs.Lists.{◌∈◌, upto}
use Rattle.sets.specs.Sets.{has}
use Rattle.sets.proofs.Lists.{any-cong}
use Rattle.sets.proofs.Ascending.{Ascending, upto-ascending, keep-ascending, lower-before}
use Rattle.games.specs.Arena.{Arena}
use Rattle.games.specs.Walks.{Search, plus, seek, try, having, if_some, present, dynamic, advice, away}
use Rattle.games.specs.Games.{Absent}
use Rattle.games.specs.Good.{passes, can_leave, good, good_count, good_people}
use Rattle.games.specs.Play.{AllAbsent, placed, onward, followed, Rounds, Stopped}
use Rattle.games.proofs.Searches.{gets, gets-some, gets_none, having-some, seek-gets, seek_found, seek-none, found_in, try-some, present-in, present-mem, round-can_leave}
use Rattle.games.proofs.Good.{good_walk, well, judged, dynamic-good, dynamic-shown, good_people-absent, good_more, good-few, good_left, good-away}

module _ (G : Arena) where
  -- ---- advice

  module _ (t k A : ℕ) (p : G.Pos) where
    -- what is tried of person u
    about : ℕ → Search (ℕ × G.Move)
    about u = seek (λ m. if_some (u, m) (try (good_walk G t k) (G.after p m))) (G.moves p u)

    about-gets : (u : ℕ) → gets (about u).got ≡ can_leave G (good G t k) p u
    unfolding about if_some can_leave
    about-gets u = seek-gets (λ m. if_some (u, m) (try (good_walk G t k) (G.after p m))) (G.moves p u) ∙ any-cong _ _ (G.moves p u) (λ m i. go m (G.after p m))
      where
        same : {C : Type 0} (c : C) (o : Option (Unit {0})) → gets (having c o) ≡ gets o
        same c none = refl
        same c (some b) = refl

        go : (m : G.Move) (o : Option G.Pos) → gets {B = ℕ × G.Move} (having (u, m) (try (good_walk G t k) o).got) ≡ passes G (good G t k) o
        go m none = unfold try in refl
        go m (some q) = unfold plus try in (same {C = ℕ × G.Move} (u, m) (good_walk G t k q).got ∙ well G t k (judged G t k) q)

    -- the person named: present, a move of theirs leaves a good position, and no lower present person's does
    pub record Advised (a : ℕ × G.Move) : Type 0 where
      pub to : G.Pos
      pub listed : a.0 < G.people
      pub present : has A a.0 ≡ false
      pub offered : a.1 ∈ G.moves p a.0
      pub leaves : ◌≡◌ {A = Option G.Pos} (G.after p a.1) (some to)
      pub wins : good G t k to ≡ true
      pub lowest : (v : ℕ) → v < a.0 → has A v ≡ false → can_leave G (good G t k) p v ≡ false

    pub advice-some : (a : ℕ × G.Move) → (advice G t (suc k) A p).got ≡ some a → Advised a
    unfolding advice about if_some
    advice-some a e =
        let u = seek_found about (present G A) a e in
        let i = present-in G A u.at (found_in about (present G A) a u) in
        let tells : G.Move → Search (ℕ × G.Move) = λ m. if_some (u.at, m) (try (good_walk G t k) (G.after p m)) in
        let m = seek_found tells (G.moves p u.at) a u.hit in
        let n = having-some (u.at, m.at) a (try (good_walk G t k) (G.after p m.at)).got m.hit in
        let w = gets-some (try (good_walk G t k) (G.after p m.at)).got n.0 in
        let q = try-some (good_walk G t k) (G.after p m.at) w.0 w.1 in
        subst Advised n.1
        (record {
          to = q.0;
          listed = i.0;
          present = i.1;
          offered = found_in tells (G.moves p u.at) a m;
          leaves = q.1;
          wins = sym (well G t k (judged G t k) q.0) ∙ ap gets q.2;
          lowest = λ v l h.
              let z = lower-before u.before u.rest u.at v (subst Ascending u.split (unfold present in keep-ascending _ (upto G.people) (upto-ascending G.people)))
              (subst (λ xs. v ∈ xs) u.split (present-mem G A v (omega (arith, i.0)) h)) l in
              sym (about-gets v) ∙ (gets_none (about v).got).0 (u.missed v z);
        })

    -- none exactly if no present person's placing leaves a good position
    pub advice-none : ((advice G t (suc k) A p).got ≡ none) ↔ ((v : ℕ) → v < G.people → has A v ≡ false → can_leave G (good G t k) p v ≡ false)
    unfolding advice about
    advice-none = (there, back)
      where
        there : (advice G t (suc k) A p).got ≡ none → (v : ℕ) → v < G.people → has A v ≡ false → can_leave G (good G t k) p v ≡ false
        there e v l h = sym (about-gets v) ∙ (gets_none (about v).got).0 (seek-none about (present G A) e v (present-mem G A v l h))

        back : ((v : ℕ) → v < G.people → has A v ≡ false → can_leave G (good G t k) p v ≡ false) → (advice G t (suc k) A p).got ≡ none
        back h = go (advice G t (suc k) A p).got refl
          where
            go : (o : Option (ℕ × G.Move)) → (advice G t (suc k) A p).got ≡ o → (advice G t (suc k) A p).got ≡ none
            go none q = q
            go (some a) q =
                let u = seek_found about (present G A) a q in
                let i = present-in G A u.at (found_in about (present G A) a u) in
                absurd (true≢false (sym (ap gets u.hit) ∙ about-gets u.at ∙ h u.at i.0 i.1))

    -- at a good position the advice is never "none"
    pub good-advised : good G t (suc k) p ≡ true → Absent G.people t A → (a : ℕ × G.Move) × ((advice G t (suc k) A p).got ≡ some a)
    good-advised e a = go (advice G t (suc k) A p).got refl
      where
        go : (o : Option (ℕ × G.Move)) → (advice G t (suc k) A p).got ≡ o → (x : ℕ × G.Move) × ((advice G t (suc k) A p).got ≡ some x)
        go (some x) q = (x, q)
        go none q =
            let d = good_left G t k A p ((good_more G t k p).0 e) a in
            let r = d.1 in
            absurd (true≢false (sym (round-can_leave G (good G t k) A p d.0 r d.2) ∙ advice-none.0 q r.person r.listed r.present))

  -- A yes is played: under every list of absence sets of at most t people, one a round, the advice names somebody present in each round,
  -- and following it leads through as many rounds as there are sets.
  pub yes-played : (t : ℕ) (As : List ℕ) (p : G.Pos) → good G t (length As) p ≡ true → AllAbsent G t As
      → (q : G.Pos) × (followed G t As p ≡ some q) × Rounds G As p q
  unfolding followed
  yes-played t [] p e h = (p, refl, refl)
  yes-played t (A ∷ As) p e h =
      let x = good-advised t (length As) A p e h.0 in
      let d = advice-some t (length As) A p x.0 x.1 in
      let rest = yes-played t As d.to d.wins h.1 in (
        rest.0,
        ap (λ o. onward G (followed G t As) (placed G p o)) x.1 ∙ ap (onward G (followed G t As)) d.leaves ∙ rest.1,
        (d.to, record { person = x.0.0; listed = d.listed; present = d.present; move = x.0.1; offered = d.offered; leaves = d.leaves }, rest.2),
      )

  -- ---- away

  -- all people whose placing leaves a good position, exactly if they are at most t
  pub away-some : (t k : ℕ) (p : G.Pos) → ((away G t (suc k) p).got ≡ some (good_people G t k p)) ↔ (good_count G t k p ≤ t)
  unfolding away
  away-some t k p = (λ e. (dynamic-shown G t k p (good_people G t k p) e).few, back)
    where
      back : good_count G t k p ≤ t → (dynamic G t (suc k) p).got ≡ some (good_people G t k p)
      back h = go (dynamic G t (suc k) p).got refl
        where
          go : (o : Option ℕ) → (dynamic G t (suc k) p).got ≡ o → (dynamic G t (suc k) p).got ≡ some (good_people G t k p)
          go none q = let l = (good_more G t k p).0 ((dynamic-good G t (suc k) p).0 q) in let z : ⊥ = omega arith in absurd z
          go (some A) q = q ∙ ap some (dynamic-shown G t k p A q).all

  -- none exactly if they are more
  pub away-none : (t k : ℕ) (p : G.Pos) → ((away G t (suc k) p).got ≡ none) ↔ (t < good_count G t k p)
  unfolding away
  away-none t k p = (
    λ e. (good_more G t k p).0 ((dynamic-good G t (suc k) p).0 e),
    λ h. (dynamic-good G t (suc k) p).1 ((good_more G t k p).1 h),
  )

  -- A no is played: from a position that is not good, away names at most t people at each turn, and every desk is stopped short.
  pub no-played : (t k : ℕ) (p : G.Pos) → good G t k p ≡ false → Stopped G t k p
  no-played t zero p e = absurd (true≢false (unfold good in e))
  no-played t (suc k) p e =
      let few = (good-few G t k p).0 e in
      (good_people G t k p, (away-some t k p).1 few, good_people-absent G t k p few, λ q r. no-played t k q (good-away G t k p q r))
