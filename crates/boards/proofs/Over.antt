-- Going over the members of a set, lowest first: the start, one member more, the end.
use mathlib.Core.Path.{◌≡◌, refl, sym, ap, ap₂, ◌∙◌}
use mathlib.Core.Bool.{Bool, true, false, not, ◌&&◌}
use mathlib.Core.Option.{none, some}
use mathlib.Core.List.{List, [], ◌∷◌, ◌++◌, append-nil}
use Prim.Native.Nat.{ℕ, ◌^◌, ◌<◌}
use native.Mathlib.Omega.{arith}
use lib.Seq.{append_snoc}
use Rattle.sets.specs.Lists.{upto, all}
use Rattle.sets.specs.Sets.{has, set_of, size, members, lowest, without, common, difference}
use Rattle.sets.specs.Stored.{width, number}
use Rattle.sets.specs.declared.People.{People}
use Rattle.sets.proofs.Lists.{and-true-end, all_append, keep-nothing}
use Rattle.sets.proofs.Bits.{has-empty}
use Rattle.sets.proofs.Counting.{has-set_of, set_of-has, set_of-ext}
use Rattle.sets.proofs.Members.{lowest-none, lowest-some, lowest-size}
use Rattle.boards.specs.Over.{Over, Narrowed}

over-start : (whole s : ℕ) → s ≡ whole → Over whole s []
over-start whole s w = record { split = ap (members 32) (sym w) }

module _ {whole left : ℕ} {done : List ℕ} (o : Over whole left done) where
  over-step : (x : ℕ) → lowest 32 left ≡ some x → (left' : ℕ) → left' ≡ without 32 left x → Over whole left' (done ++ (x ∷ []))
  over-step x h left' l =
      record {
        split = o.split ∙ ap (λ (r : List ℕ). done ++ r)
            ((lowest-some 32 left x h).2 ∙ ap (λ (s : ℕ). x ∷ members 32 s) (sym l))
            ∙ sym (append_snoc done x (members 32 left'));
      }

  over-end : lowest 32 left ≡ none → members 32 whole ≡ done
  over-end h = o.split ∙ ap (λ (r : List ℕ). done ++ r) (lowest-none 32 left h) ∙ append-nil done

-- there is one member less to come
pub over-less : (left x : ℕ) → lowest 32 left ≡ some x → (left' : ℕ) → left' ≡ without 32 left x → size 32 left' < size 32 left
over-less left x h left' l = omega (arith, lowest-size 32 left x h, ap (size 32) l)

-- a set with one member
pub one-member : (s x rest : ℕ) → lowest 32 s ≡ some x → rest ≡ without 32 s x → rest ≡ 0 → members 32 s ≡ x ∷ []
unfolding members
one-member s x rest h q z =
    (lowest-some 32 s x h).2
    ∙ ap (λ (r : ℕ). x ∷ members 32 r) (sym q ∙ z)
    ∙ ap (λ (l : List ℕ). x ∷ l) (keep-nothing (has 0) (upto 32) (λ u m. has-empty u))

and_assoc : (a b c : Bool) → (a && b) && c ≡ a && (b && c)
and_assoc true b c = refl
and_assoc false b c = refl

-- ---- those who pass the test of every member

-- a member of a set that is known by its test
has_of : (s : ℕ) (f : ℕ → Bool) → s ≡ set_of f width → (u : ℕ) → u < width → has s u ≡ f u
has_of s f q u h = ap (λ (z : ℕ). has z u) q ∙ has-set_of f width u h

-- who passes one more test: those in a set, or those who are not in it
module _ (s here s' : ℕ) (f : ℕ → Bool) (h : (u : ℕ) → u < width → has here u ≡ f u) where
  pub by-common : s' ≡ common width s here → s' ≡ set_of (λ u. has s u && f u) width
  by-common e = e ∙ set_of-ext _ _ width (λ u l. ap (λ (b : Bool). has s u && b) (h u l))

  pub by_difference : s' ≡ difference width s here → s' ≡ set_of (λ u. has s u && not (f u)) width
  by_difference e = e ∙ set_of-ext _ _ width (λ u l. ap (λ (b : Bool). has s u && not b) (h u l))

module _ (test : ℕ → ℕ → Bool) where
  abbrev every_of : List ℕ → ℕ → Bool
  every_of done u = all (λ i. test i u) done

  abbrev every_of_those : ℕ → List ℕ → ℕ → Bool
  every_of_those among done u = has among u && every_of done u

  pub narrowed-start : (s : ℕ) (every : People) → number every < 2 ^ width → Narrowed test (number every) s s every
  unfolding all
  narrowed-start s every l =
      record {
        done = [];
        over = over-start s s refl;
        each = sym (set_of-has width (number every) l) ∙ set_of-ext _ _ width (λ u k. sym (and-true-end (has (number every) u)));
      }

  module _ {among whole left : ℕ} {every : People} (g : Narrowed test among whole left every) where
    narrowed-each : (x : ℕ) (every' : People) → number every' ≡ set_of (λ u. has (number every) u && test x u) width → number every' ≡ set_of (every_of_those among (g.done ++ (x ∷ []))) width
    unfolding all
    narrowed-each x every' a =
        a ∙ set_of-ext _ _ width
        (λ u l. ap₂ ◌&&◌ (has_of (number every) (every_of_those among g.done) g.each u l) (sym (and-true-end (test x u)))
        ∙ and_assoc (has among u) (every_of g.done u) (test x u && true)
        ∙ ap (λ (b : Bool). has among u && b) (sym (all_append (λ i. test i u) g.done (x ∷ []))))

    pub narrowed-step : {x : ℕ} → lowest 32 left ≡ some x → (left' : ℕ) (every' : People) → left' ≡ without 32 left x
        → number every' ≡ set_of (λ u. has (number every) u && test x u) width → Narrowed test among whole left' every'
    narrowed-step {x} h left' every' q a =
        record {
          done = g.done ++ (x ∷ []);
          over = over-step g.over x h left' q;
          each = narrowed-each x every' a;
        }

    pub narrowed-end : lowest 32 left ≡ none → number every ≡ set_of (every_of_those among (members 32 whole)) width
    narrowed-end h = g.each ∙ ap (λ (d : List ℕ). set_of (every_of_those among d) width) (sym (over-end g.over h))

    -- nobody is left: whatever the other members ask, nobody passes
    pub narrowed_none : {x : ℕ} → lowest 32 left ≡ some x → (every' : People) → number every' ≡ set_of (λ u. has (number every) u && test x u) width → number every' ≡ 0
        → number every' ≡ set_of (every_of_those among (members 32 whole)) width
    narrowed_none {x} h every' a z =
        let e = narrowed-each x every' a in
        let o = over-step g.over x h (without 32 left x) refl in
        e ∙ set_of-ext _ _ width (λ u k. sym
        (ap (λ (d : List ℕ). every_of_those among d u) o.split
        ∙ ap (λ (b : Bool). has among u && b) (all_append (λ i. test i u) (g.done ++ (x ∷ [])) (members 32 (without 32 left x)))
        ∙ sym (and_assoc (has among u) (every_of (g.done ++ (x ∷ [])) u) (every_of (members 32 (without 32 left x)) u))
        ∙ nobody (every_of_those among (g.done ++ (x ∷ [])) u) (every_of (members 32 (without 32 left x)) u)
        (sym (has_of (number every') (every_of_those among (g.done ++ (x ∷ []))) e u k) ∙ ap (λ (n : ℕ). has n u) z ∙ has-empty u)))
      where
        nobody : (b c : Bool) → b ≡ false → b && c ≡ b
        nobody b c q = ap (λ (y : Bool). y && c) q ∙ sym q
