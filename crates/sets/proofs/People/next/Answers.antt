use mathlib.Core.Path.{◌≡◌, sym, ap, ◌∙◌}
use native.Mathlib.Omega.{arith}
use borrow.Author.Tests.{not-true, not-false}
use Prim.Native.Nat.{ℕ, ◌<◌, ◌^◌}
use Rattle.sets.specs.declared.People.{People}
use Rattle.sets.specs.Sets.{everybody, common}
use Rattle.sets.specs.Stored.{width, number, next_number, lowest_number}
use Rattle.sets.proofs.Following.{Begun, next-unlisted, next_last, next_up}
use Rattle.sets.proofs.People.next.Goals as goal

-- what every way through the code sets out from
begun : (n : ℕ) (held self all kept : People)
    → self.bits < 2 ^ width
    → number all ≡ everybody width n
    → number kept ≡ common width (number held) (number all)
    → Begun width n (number held) (number self) (number all) (number kept)
unfolding number
begun n held self all kept fits e k = record { fits = fits; all-is = e; kept-is = k }

pub returns-then-not-listed : goal.returns-then-not-listed
unfolding next_number
returns-then-not-listed c = next-unlisted (begun c.args.n c.args.held c.args.self c.everybody-all.result c.common-kept.result (omega arith) c.everybody-all.ensures c.common-kept.ensures) _ (sym c.listed.ensures ∙ not-true _ c.if-not-listed.true-raw)

pub returns-in-Some : goal.returns-in-Some
returns-in-Some c =
    c.counted_up.ensures
    ∙ next_up (begun c.args.n c.args.held c.args.self c.everybody-all.result c.common-kept.result (omega arith) c.everybody-all.ensures c.common-kept.ensures) _ (sym c.listed.ensures ∙ not-false _ c.if-not-listed.false-raw) _ (sym c.place.ensures ∙ ap lowest_number c.in-Some.is)

pub returns-in-None : goal.returns-in-None
unfolding next_number
returns-in-None c = next_last (begun c.args.n c.args.held c.args.self c.everybody-all.result c.common-kept.result (omega arith) c.everybody-all.ensures c.common-kept.ensures) _ (sym c.listed.ensures ∙ not-false _ c.if-not-listed.false-raw) (sym c.place.ensures ∙ ap lowest_number c.in-None.is)
