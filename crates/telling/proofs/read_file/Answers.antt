use native.Mathlib.Omega.{arith}
use Prim.Native.Nat.{◌-◌, ◌≤◌}
use lib.ListN.{length, drop, drop_of_length-le, length-drop}
use lib.Seq.{take_all}
use mathlib.Core.Path.{sym, ap, ◌∙◌}
use Rattle.files.specs.Reading.{read_of}
use Rattle.telling.proofs.read_file.Goals as goal

pub returns-then-input-lt6 : goal.returns-then-input-lt6
returns-then-input-lt6 c =
    let input = c.args.input.now in
    let short : length input ≤ 6 = omega arith in
    c.read.ensures ∙ ap read_of (sym (drop_of_length-le input {i = 6} short))

pub returns-else-input-lt6 : goal.returns-else-input-lt6
returns-else-input-lt6 c =
    let input = c.args.input.now in
    let whole : length (drop 6 input) ≤ length input - 6 = omega (arith, length-drop 6 input) in
    c.read-else-input-lt6.ensures ∙ ap read_of (take_all (length input - 6) (drop 6 input) whole)
