use borrow.Author.Rules.{rules}
use Rattle.asking.proofs.Steps.{next-unknown, next-barred, next_last}
use Rattle.asking.proofs.bad_next.Goals as goal

pub returns-then-people-v : goal.returns-then-people-v
returns-then-people-v c = next-unknown _ _ _ _ _ c.if-people-v.true

pub returns-then-not-has : goal.returns-then-not-has
returns-then-not-has c =
    next-barred _ _ _ _ _ c.if-people-v.false c.allowed-able.ensures c.has.ensures (search rules)

pub returns : goal.returns
returns c =
    next_last _ _ _ _ _ c.if-people-v.false c.allowed-able.ensures c.has.ensures (search rules) c.fits.ensures
    c.has-2.ensures
