-- A line of people who are all judged alike.
use Rattle.std.proofs.Math.Option as math
use Rattle.std.proofs.Math.Option.{none, some}
use Rattle.std.specs.Prelude.{Option, Some, None, ℕ, suc, ◌+◌, ◌*◌, leb, get_or}
use Rattle.sets.specs.Lists.{pick, only_if}
use Rattle.sets.specs.Sets.{size, size_before, members}
use Rattle.sets.specs.Stored.{width}
use Rattle.games.specs.Walks.{Search}

-- the trials used when all of T are tried, where the judging of each of F takes c
abbrev pub all_trials : ℕ → ℕ → ℕ → ℕ → ℕ
all_trials T F used c = used + (size width T + size width F * c)

-- nothing where they are more than the limit
unfoldable pub all_spent : ℕ → ℕ → ℕ → ℕ → ℕ → math.Option ℕ
all_spent T F used c limit = only_if (leb (all_trials T F used c) limit) (all_trials T F used c)

abbrev pub spent_outcome : Option ℕ → math.Option ℕ
spent_outcome None = none
spent_outcome (Some c) = some c

-- the member of a set with k members before it
unfoldable pub member_at : ℕ → ℕ → ℕ
member_at s k = get_or (members width s) k 0

-- each of F is bad: nobody is shown
unfoldable pub all_bad : ℕ → ℕ → ℕ → Search ℕ
all_bad T F c = record { got = some 0; trials = all_trials T F 0 c }

-- each of F is good: where they are at most m they are all shown, with S (S and F have nobody in common, so that their sum is the set of both); else the
-- trials end with the one who has m of them before
unfoldable pub good_from : ℕ → ℕ → ℕ → ℕ → ℕ → Search ℕ
good_from T F S m c =
    pick (leb (size width F) m)
    (record { got = some (S + F); trials = all_trials T F 0 c })
    (record { got = none; trials = suc (size_before width T (member_at F m)) + suc m * c })
