use mathlib.Core.Path.{ap}
use Rattle.files.specs.declared.FileRead.{FileRead}
use Rattle.files.specs.Reading.{read_of}
use Rattle.files.proofs.judge.Goals as goal

pub returns : goal.returns
unfolding read_of
returns c = ap (λ (r : FileRead). r.judged) c.read.ensures
