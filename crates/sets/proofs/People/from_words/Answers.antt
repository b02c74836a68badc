use native.Mathlib.Omega.{arith}
use Rattle.sets.proofs.Records.{high-past, low-past, words-held}
use Rattle.sets.proofs.People.from_words.Goals as goal

pub returns-then-high-ne0 : goal.returns-then-high-ne0
returns-then-high-ne0 c = high-past c.args.low c.args.high (omega arith)

pub returns-then-low-ge4294967296 : goal.returns-then-low-ge4294967296
returns-then-low-ge4294967296 c = low-past c.args.low c.args.high (omega arith)

pub returns : goal.returns
returns c = words-held c.args.low c.args.high (omega arith) (omega arith)
