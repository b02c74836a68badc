-- `everybody_if`: everybody passes a test that holds, and nobody one that does not.
use mathlib.Core.Path.{◌≡◌, sym, ap, ◌∙◌}
use mathlib.Core.Bool.{Bool, true, false}
use borrow.Author.Tests.{lt-ltb}
use lib.Dec.{ltb}
use lib.Pow.{pow_pos}
use Rattle.sets.specs.Sets.{set_of, everybody}
use Rattle.sets.specs.Stored.{width, number, no_people}
use Rattle.sets.proofs.Bits.{has-empty}
use Rattle.sets.proofs.Counting.{set_of-ext, is-set_of}
use Rattle.sets.proofs.Records.{number-none}
use Rattle.cases.proofs.everybody_if.Goals as goal

all-everybody : (b : Bool) → b ≡ true → everybody width width ≡ set_of (λ u. b) width
all-everybody b e = set_of-ext (λ w. ltb w width) (λ u. b) width (λ u h. lt-ltb u width h ∙ sym e)

all-nobody : (b : Bool) → b ≡ false → number no_people ≡ set_of (λ u. b) width
all-nobody b e = number-none ∙ is-set_of (λ u. b) width 0 (pow_pos width) (λ u h. has-empty u ∙ sym e)

pub returns-then-wanted : goal.returns-then-wanted
returns-then-wanted c = c.everybody.ensures ∙ all-everybody _ c.if-wanted.true

pub returns-else-wanted : goal.returns-else-wanted
returns-else-wanted c = ap number c.none.ensures ∙ all-nobody _ c.if-wanted.false
