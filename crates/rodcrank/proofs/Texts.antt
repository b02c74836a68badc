-- A text put into a lent buffer.
use mathlib.Core.Path.{◌≡◌, sym, ap, ap₂, ◌∙◌}
use mathlib.Core.Bool.{Bool, true, false}
use mathlib.Core.List.{List, ◌++◌}
use Prim.Native.Nat.{ℕ, ◌≤◌, ◌<◌}
use borrow.Author.Tests.{le-leb, lt-leb}
use lib.Dec.{leb}
use lib.ListN.{length, take, drop}
use lib.Seq.{length-take-le}
use Rattle.sets.specs.Lists.{pick}
use Rattle.rodcrank.specs.Calls.{filled_with}

-- ---- The first n bytes of a text, in a buffer

module _ (bytes buffer : List ℕ) (n : ℕ) (h : n ≤ length bytes) where
  fitting : (b : Bool) → leb n (length buffer) ≡ b → pick b (take n bytes ++ drop n buffer) buffer ≡ filled_with (take n bytes) buffer
  unfolding filled_with
  fitting b e =
      sym (ap₂ (λ k (x : Bool). pick x (take n bytes ++ drop k buffer) buffer) (length-take-le n bytes h)
      (ap (λ k. leb k (length buffer)) (length-take-le n bytes h) ∙ e))

  pub text-kept : length buffer < n → buffer ≡ filled_with (take n bytes) buffer
  text-kept g = fitting false (lt-leb n (length buffer) g)

  pub text-put : n ≤ length buffer → take n bytes ++ drop n buffer ≡ filled_with (take n bytes) buffer
  text-put g = fitting true (le-leb n (length buffer) g)
