-- The words of those that wait for each step, one after the other.
use mathlib.Core.Path.{◌≡◌, refl, sym, ap, ◌∙◌}
use mathlib.Core.List.{List}
use Prim.Native.Nat.{ℕ, ◌+◌, ◌<◌}
use native.Mathlib.Omega.{arith}
use lib.ListN.{length, get_or, length-replicate}
use lib.Seq.{ext_get_or}
use Rattle.sets.specs.Lists.{pick}
use Rattle.sets.specs.Sets.{has, with}
use Rattle.words.specs.Part.{table}
use Rattle.words.proofs.Parts.{length-table, get_or-table}
use Rattle.cases.specs.Case.{most_steps, most_rules}
use Rattle.pieces.specs.Pieces.{waits_in, waiting_on, laid_from, Put, Waiting}
use Rattle.pieces.proofs.Writing.{blank, blank-at, from-length, from_in, from-behind}
use Rattle.pieces.proofs.Collecting.{collect-start, collect-step}

-- a list of words, one for each step
words_are : (f : ℕ → ℕ) (out : List ℕ) → length out ≡ most_steps → ((x : ℕ) → x < most_steps → get_or out x 0 ≡ f x) → out ≡ table f most_steps
words_are f out e h =
    ext_get_or 0 out (table f most_steps) (e ∙ sym (length-table f most_steps)) (λ x l. let k : x < most_steps = omega (arith, e) in h x k ∙ sym (get_or-table f most_steps x 0 k))

-- i put to the word of a step: the words of the steps from there on are as they were
pub wait-here : (on i x r : ℕ) {l out : List ℕ} → Put 0 most_steps (waiting_on l on i) l x out → r ≡ pick (has on x) (with most_rules (get_or out x 0) i) (get_or out x 0)
    → r ≡ waiting_on l on i x
wait-here on i x r {l} {out} g e =
    let same : get_or out x 0 ≡ get_or l x 0 = ap (λ (w : List ℕ). get_or w x 0) g.so ∙ from-behind 0 (waiting_on l on i) x l x (omega arith) in
    e ∙ ap (λ (z : ℕ). pick (has on x) (with most_rules z i) z) same

module _ (on : ℕ → ℕ) where
  pub waiting-start : (out : List ℕ) → out ≡ blank most_steps → Waiting on 0 out
  unfolding waits_in
  waiting-start out e =
      record {
        upto = omega arith;
        so = words_are (waits_in on 0) out (ap length e ∙ length-replicate {A = ℕ} most_steps 0)
            (λ x l. ap (λ (w : List ℕ). get_or w x 0) e ∙ blank-at most_steps x ∙ (collect-start (λ i. has (on i) x) most_rules 0 refl).those);
      }

  pub waiting-step : {n : ℕ} {out out' : List ℕ} → Waiting on n out → n < most_rules → (s : ℕ) → s ≡ on n → out' ≡ laid_from 0 most_steps (waiting_on out s n) out
      → Waiting on (n + 1) out'
  unfolding waits_in
  waiting-step {n} {out} {out'} g h s q e =
      record {
        upto = omega arith;
        so = words_are (waits_in on (n + 1)) out' (ap length e ∙ from-length 0 (waiting_on out s n) most_steps out ∙ long) each;
      }
    where
      long : length out ≡ most_steps
      long = ap length g.so ∙ length-table (waits_in on n) most_steps

      was : (x : ℕ) → x < most_steps → get_or out x 0 ≡ waits_in on n x
      was x l = ap (λ (w : List ℕ). get_or w x 0) g.so ∙ get_or-table (waits_in on n) most_steps x 0 l

      each : (x : ℕ) → x < most_steps → get_or out' x 0 ≡ waits_in on (n + 1) x
      each x l =
          let at : x ≡ 0 + x = omega arith in
          ap (λ (w : List ℕ). get_or w x 0) e ∙ ap (λ (y : ℕ). get_or (laid_from 0 most_steps (waiting_on out s n) out) y 0) at
          ∙ from_in 0 (waiting_on out s n) most_steps out x l (omega (arith, long))
          ∙ ap (λ (z : ℕ). pick (has z x) (with most_rules (get_or out x 0) n) (get_or out x 0)) q
          ∙ (collect-step (λ i. has (on i) x) most_rules (record { upto = g.upto; those = was x l }) h (has (on n) x) _ refl refl).those

  pub waiting-end : {n m : ℕ} {out : List ℕ} → Waiting on n out → n ≡ m → out ≡ table (waits_in on m) most_steps
  waiting-end {n} {m} {out} g e = g.so ∙ ap (λ (k : ℕ). table (waits_in on k) most_steps) e
