use Rattle.cases.proofs.Positions.{persons-length}
use Rattle.replies.proofs.replies.reply.Goals as goal

pub returns : goal.returns
returns c =
    simp (
      c.person_at-8.ensures,
      c.person_at-7.ensures,
      c.person_at-6.ensures,
      c.person_at-5.ensures,
      c.person_at-4.ensures,
      c.person_at-3.ensures,
      c.person_at-2.ensures,
      c.person_at.ensures,
      c.high.ensures,
      c.low.ensures,
      persons-length c.args.plan,
    )
