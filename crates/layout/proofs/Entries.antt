-- How many bytes each entry has.
use Rattle.std.specs.Prelude.{◌≡◌, ℕ, length, refl}
use Rattle.sets.specs.declared.People.{People}
use Rattle.cases.specs.declared.StepEntry.{StepEntry}
use Rattle.cases.specs.declared.Rule.{Rule}
use Rattle.refusals.specs.Offsets.{person_bytes, step_bytes, row_bytes, rule_bytes}
use Rattle.layout.specs.Layout.{bytes_of_person, bytes_of_step, bytes_of_row, bytes_of_rule}

pub person_long : (held : ℕ) → length (bytes_of_person held) ≡ person_bytes
person_long held = refl

pub step_long : (step : StepEntry) → length (bytes_of_step step) ≡ step_bytes
step_long step = refl

pub row_long : (row : People) → length (bytes_of_row row) ≡ row_bytes
row_long row = refl

pub rule_long : (rule : Rule) → length (bytes_of_rule rule) ≡ rule_bytes
rule_long rule = refl
