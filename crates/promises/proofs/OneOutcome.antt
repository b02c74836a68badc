-- For every value of its arguments each public function has one outcome: two that its contract permits are the same. The lines stand in the order of the
-- crates, each about the contract's own `Post`. Of a lent buffer that is what it holds at exit, of a returned part where it stands and its bytes.
-- (The exceptions: docs/CONTRACTS.md names them and says why.)
use mathlib.Core.Path.{◌≡◌, refl, sym, ap, ◌∙◌}
use mathlib.Core.Option.{Option, none, some}
use Rattle.std.specs.Prelude as std
use mathlib.Core.List.{List}
use Prim.Native.Nat.{ℕ, ◌<◌}
use native.Mathlib.Omega.{arith}
use Rattle.sets.specs.Sets.{common}
use Rattle.sets.specs.Stored.{width, number, stored, wide_number, next_number, lowest_number}
use Rattle.sets.specs.declared.People.{People}
use Rattle.sets.proofs.Records.{stored-number, number-injective}
use Rattle.games.specs.Limit.{Ended, limit, ended, Answer}
use Rattle.cases.specs.declared.Filled.{Filled}
use Rattle.cases.specs.declared.Person.{Person}
use Rattle.cases.specs.Positions.{persons}
use Rattle.boards.specs.Board.{fits_on}
use Rattle.boards.specs.Arena.{Done}
use Rattle.boards.proofs.Looked.{agree_same}
use Rattle.lines.specs.declared.Cursor.{Cursor}
use Rattle.lines.specs.declared.Try.{Try}
use Rattle.lines.specs.declared.Try.TheVariants as try
use Rattle.lines.specs.Moves.{try_outcome as move_outcome, lines_of}
use Rattle.tries.specs.declared.Verdict.{Verdict}
use Rattle.tries.specs.declared.Verdict.TheVariants as verdict
use Rattle.tries.specs.declared.Advised.{Advised}
use Rattle.tries.specs.declared.Advised.TheVariants as advised
use Rattle.tries.specs.declared.Turn.{Turn}
use Rattle.tries.specs.declared.Turn.TheVariants as turn
use Rattle.tries.specs.declared.Line.{Line}
use Rattle.tries.specs.Outcomes.{verdict_outcome, advised_outcome, turn_outcome}
use Rattle.tries.specs.Trying.{step_on, InLine, try_outcome}
use Rattle.tries.specs.Alike.{spent_outcome}
use Rattle.sums.specs.declared.Absences.{Absences}
use Rattle.sums.specs.Arrays.{weight_of}
use Rattle.files.specs.Parts.{seen}
use Rattle.sets.proofs.People.none.Reads as people-none-reads
use Rattle.sets.proofs.People.everybody.Reads as people-everybody-reads
use Rattle.sets.proofs.People.from_word.Reads as people-from-word-reads
use Rattle.sets.proofs.People.word.Reads as people-word-reads
use Rattle.sets.proofs.People.from_words.Reads as people-from-words-reads
use Rattle.sets.proofs.People.low.Reads as people-low-reads
use Rattle.sets.proofs.People.high.Reads as people-high-reads
use Rattle.sets.proofs.People.at.Reads as people-at-reads
use Rattle.sets.proofs.People.is_none.Reads as people-is-none-reads
use Rattle.sets.proofs.People.has.Reads as people-has-reads
use Rattle.sets.proofs.People.with.Reads as people-with-reads
use Rattle.sets.proofs.People.without.Reads as people-without-reads
use Rattle.sets.proofs.People.common.Reads as people-common-reads
use Rattle.sets.proofs.People.joined.Reads as people-joined-reads
use Rattle.sets.proofs.People.difference.Reads as people-difference-reads
use Rattle.sets.proofs.People.size.Reads as people-size-reads
use Rattle.sets.proofs.People.within.Reads as people-within-reads
use Rattle.sets.proofs.People.meets.Reads as people-meets-reads
use Rattle.sets.proofs.People.past.Reads as people-past-reads
use Rattle.sets.proofs.People.lowest.Reads as people-lowest-reads
use Rattle.sets.proofs.People.before.Reads as people-before-reads
use Rattle.sets.proofs.People.after.Reads as people-after-reads
use Rattle.sets.proofs.People.from_on.Reads as people-from-on-reads
use Rattle.sets.proofs.People.next.Reads as people-next-reads
use Rattle.sets.proofs.holds.Reads as small-holds-reads
use Rattle.sets.proofs.share.Reads as small-share-reads
use Rattle.sets.proofs.within.Reads as small-within-reads
use Rattle.sets.proofs.shared.Reads as small-shared-reads
use Rattle.sets.proofs.size.Reads as small-size-reads
use Rattle.sets.proofs.past.Reads as small-past-reads
use Rattle.sets.proofs.lowest_in.Reads as small-lowest-in-reads
use Rattle.sets.proofs.with.Reads as small-with-reads
use Rattle.sets.proofs.without.Reads as small-without-reads
use Rattle.cases.proofs.Position.start.Reads as position-start-reads
use Rattle.cases.proofs.Position.person.Reads as position-person-reads
use Rattle.cases.proofs.Position.placed.Reads as position-placed-reads
use Rattle.cases.proofs.Filled.start.Reads as filled-start-reads
use Rattle.cases.proofs.Filled.person.Reads as filled-person-reads
use Rattle.cases.proofs.Filled.placed.Reads as filled-placed-reads
use Rattle.cases.proofs.with_step.Reads as with-step-reads
use Rattle.cases.proofs.joined_steps.Reads as joined-steps-reads
use Rattle.cases.proofs.Case.empty.Reads as case-empty-reads
use Rattle.cases.proofs.everybody_if.Reads as everybody-if-reads
use Rattle.words.proofs.byte_at.Reads as byte-at-reads
use Rattle.words.proofs.word_at.Reads as word-at-reads
use Rattle.words.proofs.long_at.Reads as long-at-reads
use Rattle.words.proofs.put_word.Reads as put-word-reads
use Rattle.words.proofs.put_long.Reads as put-long-reads
use Rattle.refusals.proofs.or_else.Reads as or-else-reads
use Rattle.refusals.proofs.refused_if.Reads as refused-if-reads
use Rattle.layout.proofs.steps_at.Reads as steps-at-reads
use Rattle.layout.proofs.tables_at.Reads as tables-at-reads
use Rattle.layout.proofs.rules_at.Reads as rules-at-reads
use Rattle.layout.proofs.rows.Reads as rows-reads
use Rattle.layout.proofs.total.Reads as total-reads
use Rattle.layout.proofs.start.Reads as part-start-reads
use Rattle.layout.proofs.end.Reads as part-end-reads
use Rattle.judging.proofs.judge_case.Reads as judge-case-reads
use Rattle.judging.proofs.too_many.Reads as too-many-reads
use Rattle.headers.proofs.counts.Reads as counts-reads
use Rattle.headers.proofs.judge_header.Reads as judge-header-reads
use Rattle.entries.proofs.case_at.Reads as case-at-reads
use Rattle.files.proofs.judge.Reads as judge-reads
use Rattle.files.proofs.read.Reads as read-reads
use Rattle.files.proofs.part_of.Reads as part-of-reads
use Rattle.writing.proofs.write.Reads as write-reads
use Rattle.boards.proofs.allowed.Reads as allowed-reads
use Rattle.boards.proofs.ready.Reads as ready-reads
use Rattle.boards.proofs.fits.Reads as fits-reads
use Rattle.boards.proofs.fitting.Reads as fitting-reads
use Rattle.boards.proofs.less.Reads as less_reads
use Rattle.pieces.proofs.row.Reads as row_reads
use Rattle.pieces.proofs.column.Reads as column-reads
use Rattle.pieces.proofs.loops.Reads as loops-reads
use Rattle.pieces.proofs.allowed.Reads as allowed-entry-reads
use Rattle.pieces.proofs.named_words.Reads as named-words-reads
use Rattle.pieces.proofs.following_words.Reads as following-words-reads
use Rattle.pieces.proofs.pack.Reads as pack-reads
use Rattle.pieces.proofs.half.Reads as half-reads
use Rattle.pieces.proofs.first_of.Reads as first-of-reads
use Rattle.laying.proofs.lay_out.Reads as lay-out-reads
use Rattle.laying.proofs.lay_onto.Reads as lay-onto-reads
use Rattle.lines.proofs.Lines.none.Reads as lines-none-reads
use Rattle.lines.proofs.Lines.with.Reads as lines-with-reads
use Rattle.lines.proofs.next_move.Reads as next-move-reads
use Rattle.tries.proofs.next_step.Reads as next-step-reads
use Rattle.tries.proofs.several.Reads as several-reads
use Rattle.tries.proofs.line_up.Reads as line-up-reads
use Rattle.tries.proofs.lines_up.Reads as lines-up-reads
use Rattle.tries.proofs.next_try.Reads as next-try-reads
use Rattle.tries.proofs.behind.Reads as behind-reads
use Rattle.tries.proofs.up_to.Reads as up-to-reads
use Rattle.tries.proofs.without.Reads as line-without-reads
use Rattle.tries.proofs.rest_alike.Reads as rest-alike-reads
use Rattle.tries.proofs.all_bad.Reads as all-bad-reads
use Rattle.tries.proofs.all_good.Reads as all-good-reads
use Rattle.sums.proofs.once.Reads as once-reads
use Rattle.sums.proofs.once_below.Reads as once-below-reads
use Rattle.sums.proofs.product.Reads as product-reads
use Rattle.sums.proofs.added.Reads as added-reads
use Rattle.sums.proofs.how_many.Reads as how-many-reads
use Rattle.sums.proofs.weight.Reads as weight-reads
use Rattle.sums.proofs.trials_to.Reads as trials-to-reads
use Rattle.sums.proofs.staying.Reads as staying-reads
use Rattle.sums.proofs.joined.Reads as joined-reads
use Rattle.sums.proofs.raised.Reads as raised-reads
use Rattle.plans.proofs.without_plan.Reads as without-plan-reads
use Rattle.statics.proofs.static_walk.Reads as static-walk-reads
use Rattle.statics.proofs.static_from.Reads as static-from-reads
use Rattle.rounds.proofs.dynamic_walk.Reads as dynamic-walk-reads
use Rattle.rounds.proofs.dynamic_from.Reads as dynamic-from-reads
use Rattle.advising.proofs.advice_walk.Reads as advice-walk-reads
use Rattle.losses.proofs.away_turn.Reads as away-turn-reads
use Rattle.strikes.proofs.one_shot_walk.Reads as one-shot-walk-reads
use Rattle.asking.proofs.judge_number.Reads as judge-number-reads
use Rattle.asking.proofs.judge_position.Reads as judge-position-reads
use Rattle.asking.proofs.filled.Reads as filled-reads
use Rattle.asking.proofs.judge_absent.Reads as judge-absent-reads
use Rattle.planner.proofs.plan.Reads as plan-reads
use Rattle.planner.proofs.plan_shown.Reads as plan-shown-reads
use Rattle.planner.proofs.static_verdict.Reads as static-verdict-reads
use Rattle.planner.proofs.decremental_verdict.Reads as decremental-verdict-reads
use Rattle.planner.proofs.one_shot_verdict.Reads as one-shot-verdict-reads
use Rattle.planner.proofs.dynamic_verdict.Reads as dynamic-verdict-reads
use Rattle.planner.proofs.advice.Reads as advice-reads
use Rattle.planner.proofs.away.Reads as away-reads
use Rattle.planner.proofs.plan_good.Reads as plan-good-reads
use Rattle.planner.proofs.plan_ready.Reads as plan-ready-reads
use Rattle.planner.proofs.plan_laid.Reads as plan-laid-reads
use Rattle.planner.proofs.ask_good.Reads as ask-good-reads
use Rattle.planner.proofs.ask_ready.Reads as ask-ready-reads
use Rattle.planner.proofs.ask_laid.Reads as ask-laid-reads
use Rattle.planner.proofs.advise_good.Reads as advise-good-reads
use Rattle.planner.proofs.advise_ready.Reads as advise-ready-reads
use Rattle.planner.proofs.away_good.Reads as away-good-reads
use Rattle.planner.proofs.away_ready.Reads as away-ready-reads
use Rattle.telling.proofs.tell.Reads as tell-reads
use Rattle.telling.proofs.text.Text.empty.Reads as text-empty-reads
use Rattle.telling.proofs.text.Text.put_byte.Reads as text-put-byte-reads
use Rattle.telling.proofs.text.Text.put.Reads as text-put-reads
use Rattle.telling.proofs.text.Text.put_number.Reads as text-put-number-reads
use Rattle.telling.proofs.put_case.Reads as put-case-reads
use Rattle.telling.proofs.put_asked.Reads as put-asked-reads
use Rattle.telling.proofs.put_plan.Reads as put-plan-reads
use Rattle.telling.proofs.put_verdict.Reads as put-verdict-reads
use Rattle.telling.proofs.put_refusal.Reads as put-refusal-reads
use Rattle.replies.proofs.position_of.Reads as position-of-reads
use Rattle.replies.proofs.plan_reply.Reads as plan-reply-reads
use Rattle.replies.proofs.verdict_reply.Reads as verdict-reply-reads
use Rattle.replies.proofs.advice_reply.Reads as advice-reply-reads
use Rattle.replies.proofs.away_reply.Reads as away-reply-reads
use Rattle.replies.proofs.refused.Reads as refused-reads
use Rattle.replies.proofs.said.Reads as said-reads
use Rattle.rodcrank.proofs.rodcrank_judge.Reads as rodcrank-judge-reads
use Rattle.rodcrank.proofs.rodcrank_plan.Reads as rodcrank-plan-reads
use Rattle.rodcrank.proofs.rodcrank_static.Reads as rodcrank-static-reads
use Rattle.rodcrank.proofs.rodcrank_decremental.Reads as rodcrank-decremental-reads
use Rattle.rodcrank.proofs.rodcrank_one_shot.Reads as rodcrank-one-shot-reads
use Rattle.rodcrank.proofs.rodcrank_dynamic.Reads as rodcrank-dynamic-reads
use Rattle.rodcrank.proofs.rodcrank_advice.Reads as rodcrank-advice-reads
use Rattle.rodcrank.proofs.rodcrank_away.Reads as rodcrank-away-reads
use Rattle.rodcrank.proofs.rodcrank_verdicts.Reads as rodcrank-verdicts-reads

-- ---- What an answer says fixes it

abbrev lowest-back : Option ℕ → std.Option ℕ
lowest-back none = std.None
lowest-back (some v) = std.Some v

lowest-same : (r s : std.Option ℕ) → lowest_number r ≡ lowest_number s → r ≡ s
lowest-same r s e = sym (back r) ∙ ap lowest-back e ∙ back s
  where
    back : (x : std.Option ℕ) → lowest-back (lowest_number x) ≡ x
    back std.None = refl
    back (std.Some v) = refl

abbrev set-back : Option ℕ → std.Option People
set-back none = std.None
set-back (some s) = std.Some (stored s)

wide-same : (r s : std.Option People) → wide_number r ≡ wide_number s → r ≡ s
wide-same r s e = sym (back r) ∙ ap set-back e ∙ back s
  where
    back : (x : std.Option People) → set-back (wide_number x) ≡ x
    back std.None = refl
    back (std.Some p) = ap std.Some (stored-number p)

next-same : (r s : std.Option People) → next_number r ≡ next_number s → r ≡ s
unfolding next_number
next-same r s e = sym (back r) ∙ ap set-back e ∙ back s
  where
    back : (x : std.Option People) → set-back (next_number x) ≡ x
    back std.None = refl
    back (std.Some p) = ap std.Some (stored-number p)

abbrev verdict-back : Ended (Option ℕ) → ℕ → Verdict
verdict-back limit n = verdict.Limit
verdict-back (ended none) n = verdict.Yes n
verdict-back (ended (some A)) n = verdict.No (stored A) n

verdict-same : (l : ℕ) (r s : Verdict) → verdict_outcome l r ≡ verdict_outcome l s → r ≡ s
verdict-same l r s e = sym (back r) ∙ ap (λ (a : Answer (Option ℕ)). verdict-back a.out a.count) e ∙ back s
  where
    back : (x : Verdict) → verdict-back (verdict_outcome l x).out (verdict_outcome l x).count ≡ x
    back verdict.Limit = refl
    back (verdict.Yes n) = refl
    back (verdict.No p n) = ap (λ q. verdict.No q n) (stored-number p)

abbrev advised-back : Ended (Option (ℕ × Done)) → ℕ → Advised
advised-back limit n = advised.Limit
advised-back (ended none) n = advised.Nobody n
advised-back (ended (some (u, d))) n = advised.Move (record { 0 = d.step }) (record { 0 = u }) n

advised-same : (l : ℕ) (r s : Advised) → advised_outcome l r ≡ advised_outcome l s → r ≡ s
advised-same l r s e = sym (back r) ∙ ap (λ (a : Answer (Option (ℕ × Done))). advised-back a.out a.count) e ∙ back s
  where
    back : (x : Advised) → advised-back (advised_outcome l x).out (advised_outcome l x).count ≡ x
    back advised.Limit = refl
    back (advised.Nobody n) = refl
    back (advised.Move s v n) = refl

abbrev turn-back : Ended (Option ℕ) → ℕ → Turn
turn-back limit n = turn.Limit
turn-back (ended none) n = turn.Holds n
turn-back (ended (some A)) n = turn.Beaten n

turn-same : (l A : ℕ) (r s : Turn) → turn_outcome l A r ≡ turn_outcome l A s → r ≡ s
turn-same l A r s e = sym (back r) ∙ ap (λ (a : Answer (Option ℕ)). turn-back a.out a.count) e ∙ back s
  where
    back : (x : Turn) → turn-back (turn_outcome l A x).out (turn_outcome l A x).count ≡ x
    back turn.Limit = refl
    back (turn.Beaten n) = refl
    back (turn.Holds n) = refl

spent-same : (r s : std.Option ℕ) → spent_outcome r ≡ spent_outcome s → r ≡ s
spent-same r s e = sym (back r) ∙ ap lowest-back e ∙ back s
  where
    back : (x : std.Option ℕ) → lowest-back (spent_outcome x) ≡ x
    back std.None = refl
    back (std.Some c) = refl

abbrev try-back : Option (Option ℕ × ℕ) → Try Person
try-back none = try.Limit
try-back (some (none, c)) = try.Nobody c
try-back (some (some v, c)) = try.Move (record { 0 = v }) c

try-same : (r s : Try Person) → try_outcome r ≡ try_outcome s → r ≡ s
try-same r s e = sym (back r) ∙ ap try-back e ∙ back s
  where
    back : (x : Try Person) → try-back (try_outcome x) ≡ x
    back try.Limit = refl
    back (try.Nobody c) = refl
    back (try.Move v c) = refl

abbrev move-back : Option (Option Cursor × ℕ) → Try Cursor
move-back none = try.Limit
move-back (some (none, c)) = try.Nobody c
move-back (some (some m, c)) = try.Move m c

move_same : (r s : Try Cursor) → move_outcome r ≡ move_outcome s → r ≡ s
move_same r s e = sym (back r) ∙ ap move-back e ∙ back s
  where
    back : (x : Try Cursor) → move-back (move_outcome x) ≡ x
    back try.Limit = refl
    back (try.Nobody c) = refl
    back (try.Move m c) = refl

-- a line is its two sets
line_same : (r s : Line) → number r.tried ≡ number s.tried → number r.fit ≡ number s.fit → r ≡ s
line_same r s e f =
    ap (λ (T : People). record { tried = T; fit = r.fit }) (number-injective r.tried s.tried e)
    ∙ ap (λ (F : People). record { tried = s.tried; fit = F }) (number-injective r.fit s.fit f)

in-line-same : (b : List ℕ) (n A : ℕ) (f : Filled) (r s : Line) → InLine b n A f (number r.tried) (number r.fit) → InLine b n A f (number s.tried) (number s.fit) → r ≡ s
in-line-same b n A f r s p q = line_same r s same (p.fit ∙ ap (λ (T : ℕ). common width T (fits_on b f (step_on b f))) same ∙ sym q.fit)
  where
    same : number r.tried ≡ number s.tried
    same = p.tried ∙ sym q.tried

absences-same : (r s : Absences) → number r.held ≡ number s.held → r.room ≡ s.room → r.weights ≡ s.weights → r ≡ s
absences-same r s h e w =
    ap (λ (x : People). record { held = x; room = r.room; weights = r.weights }) (number-injective r.held s.held h)
    ∙ ap (λ (x : ℕ). record { held = s.held; room = x; weights = r.weights }) e
    ∙ ap (λ (x : List ℕ). record { held = s.held; room = s.room; weights = x }) w

-- ---- `sets`: Sets

pub people-none-one : (κs : _) (args : _) (r s : _) (x y : _) → people-none-reads.Post κs args r x → people-none-reads.Post κs args s y → r ≡ s
people-none-one κs args r s x y p q = p ∙ sym q

pub people-everybody-one : (κs : _) (args : _) (r s : _) (x y : _) → people-everybody-reads.Post κs args r x → people-everybody-reads.Post κs args s y → r ≡ s
people-everybody-one κs args r s x y p q = number-injective r s (p ∙ sym q)

pub people-from-word-one : (κs : _) (args : _) (r s : _) (x y : _) → people-from-word-reads.Post κs args r x → people-from-word-reads.Post κs args s y → r ≡ s
people-from-word-one κs args r s x y p q = p ∙ sym q

pub people-word-one : (κs : _) (args : _) (r s : _) (x y : _) → people-word-reads.Post κs args r x → people-word-reads.Post κs args s y → r ≡ s
people-word-one κs args r s x y p q = p ∙ sym q

pub people-from-words-one : (κs : _) (args : _) (r s : _) (x y : _) → people-from-words-reads.Post κs args r x → people-from-words-reads.Post κs args s y → r ≡ s
people-from-words-one κs args r s x y p q = wide-same r s (p ∙ sym q)

pub people-low-one : (κs : _) (args : _) (r s : _) (x y : _) → people-low-reads.Post κs args r x → people-low-reads.Post κs args s y → r ≡ s
people-low-one κs args r s x y p q = p ∙ sym q

pub people-high-one : (κs : _) (args : _) (r s : _) (x y : _) → people-high-reads.Post κs args r x → people-high-reads.Post κs args s y → r ≡ s
people-high-one κs args r s x y p q = p ∙ sym q

pub people-at-one : (κs : _) (args : _) (r s : _) (x y : _) → people-at-reads.Post κs args r x → people-at-reads.Post κs args s y → r ≡ s
people-at-one κs args r s x y p q = number-injective r s (p ∙ sym q)

pub people-is-none-one : (κs : _) (args : _) (r s : _) (x y : _) → people-is-none-reads.Post κs args r x → people-is-none-reads.Post κs args s y → r ≡ s
people-is-none-one κs args r s x y p q = p ∙ sym q

pub people-has-one : (κs : _) (args : _) (r s : _) (x y : _) → people-has-reads.Post κs args r x → people-has-reads.Post κs args s y → r ≡ s
people-has-one κs args r s x y p q = p ∙ sym q

pub people-with-one : (κs : _) (args : _) (r s : _) (x y : _) → people-with-reads.Post κs args r x → people-with-reads.Post κs args s y → r ≡ s
people-with-one κs args r s x y p q = number-injective r s (p ∙ sym q)

pub people-without-one : (κs : _) (args : _) (r s : _) (x y : _) → people-without-reads.Post κs args r x → people-without-reads.Post κs args s y → r ≡ s
people-without-one κs args r s x y p q = number-injective r s (p ∙ sym q)

pub people-common-one : (κs : _) (args : _) (r s : _) (x y : _) → people-common-reads.Post κs args r x → people-common-reads.Post κs args s y → r ≡ s
people-common-one κs args r s x y p q = number-injective r s (p ∙ sym q)

pub people-joined-one : (κs : _) (args : _) (r s : _) (x y : _) → people-joined-reads.Post κs args r x → people-joined-reads.Post κs args s y → r ≡ s
people-joined-one κs args r s x y p q = number-injective r s (p ∙ sym q)

pub people-difference-one : (κs : _) (args : _) (r s : _) (x y : _) → people-difference-reads.Post κs args r x → people-difference-reads.Post κs args s y → r ≡ s
people-difference-one κs args r s x y p q = number-injective r s (p ∙ sym q)

pub people-size-one : (κs : _) (args : _) (r s : _) (x y : _) → people-size-reads.Post κs args r x → people-size-reads.Post κs args s y → r ≡ s
people-size-one κs args r s x y p q = p ∙ sym q

pub people-within-one : (κs : _) (args : _) (r s : _) (x y : _) → people-within-reads.Post κs args r x → people-within-reads.Post κs args s y → r ≡ s
people-within-one κs args r s x y p q = p ∙ sym q

pub people-meets-one : (κs : _) (args : _) (r s : _) (x y : _) → people-meets-reads.Post κs args r x → people-meets-reads.Post κs args s y → r ≡ s
people-meets-one κs args r s x y p q = p ∙ sym q

pub people-past-one : (κs : _) (args : _) (r s : _) (x y : _) → people-past-reads.Post κs args r x → people-past-reads.Post κs args s y → r ≡ s
people-past-one κs args r s x y p q = p ∙ sym q

pub people-lowest-one : (κs : _) (args : _) (r s : _) (x y : _) → people-lowest-reads.Post κs args r x → people-lowest-reads.Post κs args s y → r ≡ s
people-lowest-one κs args r s x y p q = lowest-same r s (p ∙ sym q)

pub people-before-one : (κs : _) (args : _) (r s : _) (x y : _) → people-before-reads.Post κs args r x → people-before-reads.Post κs args s y → r ≡ s
people-before-one κs args r s x y p q = p ∙ sym q

pub people-after-one : (κs : _) (args : _) (r s : _) (x y : _) → people-after-reads.Post κs args r x → people-after-reads.Post κs args s y → r ≡ s
people-after-one κs args r s x y p q = number-injective r s (p ∙ sym q)

pub people-from-on-one : (κs : _) (args : _) (r s : _) (x y : _) → people-from-on-reads.Post κs args r x → people-from-on-reads.Post κs args s y → r ≡ s
people-from-on-one κs args r s x y p q = number-injective r s (p ∙ sym q)

pub people-next-one : (κs : _) (args : _) (r s : _) (x y : _) → people-next-reads.Post κs args r x → people-next-reads.Post κs args s y → r ≡ s
people-next-one κs args r s x y p q = next-same r s (p ∙ sym q)

pub small-holds-one : (κs : _) (args : _) (r s : _) (x y : _) → small-holds-reads.Post κs args r x → small-holds-reads.Post κs args s y → r ≡ s
small-holds-one κs args r s x y p q = p ∙ sym q

pub small-share-one : (κs : _) (args : _) (r s : _) (x y : _) → small-share-reads.Post κs args r x → small-share-reads.Post κs args s y → r ≡ s
small-share-one κs args r s x y p q = p ∙ sym q

pub small-within-one : (κs : _) (args : _) (r s : _) (x y : _) → small-within-reads.Post κs args r x → small-within-reads.Post κs args s y → r ≡ s
small-within-one κs args r s x y p q = p ∙ sym q

pub small-shared-one : (κs : _) (args : _) (r s : _) (x y : _) → small-shared-reads.Post κs args r x → small-shared-reads.Post κs args s y → r ≡ s
small-shared-one κs args r s x y p q = p ∙ sym q

pub small-size-one : (κs : _) (args : _) (r s : _) (x y : _) → small-size-reads.Post κs args r x → small-size-reads.Post κs args s y → r ≡ s
small-size-one κs args r s x y p q = p ∙ sym q

pub small-past-one : (κs : _) (args : _) (r s : _) (x y : _) → small-past-reads.Post κs args r x → small-past-reads.Post κs args s y → r ≡ s
small-past-one κs args r s x y p q = p ∙ sym q

pub small-lowest-in-one : (κs : _) (args : _) (r s : _) (x y : _) → small-lowest-in-reads.Post κs args r x → small-lowest-in-reads.Post κs args s y → r ≡ s
small-lowest-in-one κs args r s x y p q = lowest-same r s (p ∙ sym q)

pub small-with-one : (κs : _) (args : _) (r s : _) (x y : _) → small-with-reads.Post κs args r x → small-with-reads.Post κs args s y → r ≡ s
small-with-one κs args r s x y p q = p ∙ sym q

pub small-without-one : (κs : _) (args : _) (r s : _) (x y : _) → small-without-reads.Post κs args r x → small-without-reads.Post κs args s y → r ≡ s
small-without-one κs args r s x y p q = p ∙ sym q

-- ---- `cases`: Cases and positions

pub position-start-one : (κs : _) (args : _) (r s : _) (x y : _) → position-start-reads.Post κs args r x → position-start-reads.Post κs args s y → r ≡ s
position-start-one κs args r s x y p q = p ∙ sym q

pub position-person-one : (κs : _) (args : _) (r s : _) (x y : _) → position-person-reads.Post κs args r x → position-person-reads.Post κs args s y → r ≡ s
position-person-one κs args r s x y p q = ap (λ (v : ℕ). record { 0 = v }) (p ∙ sym q)

pub position-placed-one : (κs : _) (args : _) (r s : _) (x y : _) → position-placed-reads.Post κs args r x → position-placed-reads.Post κs args s y → r ≡ s
position-placed-one κs args r s x y p q = p.0 ∙ sym q.0

pub filled-start-one : (κs : _) (args : _) (r s : _) (x y : _) → filled-start-reads.Post κs args r x → filled-start-reads.Post κs args s y → r ≡ s
filled-start-one κs args r s x y p q = p ∙ sym q

pub filled-person-one : (κs : _) (args : _) (r s : _) (x y : _) → filled-person-reads.Post κs args r x → filled-person-reads.Post κs args s y → r ≡ s
filled-person-one κs args r s x y p q = ap (λ (v : ℕ). record { 0 = v }) (p ∙ sym q)

pub filled-placed-one : (κs : _) (args : _) (r s : _) (x y : _) → filled-placed-reads.Post κs args r x → filled-placed-reads.Post κs args s y → r ≡ s
filled-placed-one κs args r s x y p q = p ∙ sym q

pub with-step-one : (κs : _) (args : _) (r s : _) (x y : _) → with-step-reads.Post κs args r x → with-step-reads.Post κs args s y → r ≡ s
with-step-one κs args r s x y p q = p ∙ sym q

pub joined-steps-one : (κs : _) (args : _) (r s : _) (x y : _) → joined-steps-reads.Post κs args r x → joined-steps-reads.Post κs args s y → r ≡ s
joined-steps-one κs args r s x y p q = p ∙ sym q

pub case-empty-one : (κs : _) (args : _) (r s : _) (x y : _) → case-empty-reads.Post κs args r x → case-empty-reads.Post κs args s y → r ≡ s
case-empty-one κs args r s x y p q = p ∙ sym q

pub everybody-if-one : (κs : _) (args : _) (r s : _) (x y : _) → everybody-if-reads.Post κs args r x → everybody-if-reads.Post κs args s y → r ≡ s
everybody-if-one κs args r s x y p q = number-injective r s (p ∙ sym q)

-- ---- `words`: Bytes

pub byte-at-one : (κs : _) (args : _) (r s : _) (x y : _) → byte-at-reads.Post κs args r x → byte-at-reads.Post κs args s y → r ≡ s
byte-at-one κs args r s x y p q = p ∙ sym q

pub word-at-one : (κs : _) (args : _) (r s : _) (x y : _) → word-at-reads.Post κs args r x → word-at-reads.Post κs args s y → r ≡ s
word-at-one κs args r s x y p q = p ∙ sym q

pub long-at-one : (κs : _) (args : _) (r s : _) (x y : _) → long-at-reads.Post κs args r x → long-at-reads.Post κs args s y → r ≡ s
long-at-one κs args r s x y p q = p ∙ sym q

pub put-word-one : (κs : _) (args : _) (r s : _) (x y : _) → put-word-reads.Post κs args r x → put-word-reads.Post κs args s y → x.0.now ≡ y.0.now
put-word-one κs args r s x y p q = p ∙ sym q

pub put-long-one : (κs : _) (args : _) (r s : _) (x y : _) → put-long-reads.Post κs args r x → put-long-reads.Post κs args s y → x.0.now ≡ y.0.now
put-long-one κs args r s x y p q = p ∙ sym q

-- ---- `refusals`: Judgements

pub or-else-one : (κs : _) (args : _) (r s : _) (x y : _) → or-else-reads.Post κs args r x → or-else-reads.Post κs args s y → r ≡ s
or-else-one κs args r s x y p q = p ∙ sym q

pub refused-if-one : (κs : _) (args : _) (r s : _) (x y : _) → refused-if-reads.Post κs args r x → refused-if-reads.Post κs args s y → r ≡ s
refused-if-one κs args r s x y p q = p ∙ sym q

-- ---- `layout`: Where the parts of a file stand

pub steps-at-one : (κs : _) (args : _) (r s : _) (x y : _) → steps-at-reads.Post κs args r x → steps-at-reads.Post κs args s y → r ≡ s
steps-at-one κs args r s x y p q = p.0 ∙ sym q.0

pub tables-at-one : (κs : _) (args : _) (r s : _) (x y : _) → tables-at-reads.Post κs args r x → tables-at-reads.Post κs args s y → r ≡ s
tables-at-one κs args r s x y p q = p.0 ∙ sym q.0

pub rules-at-one : (κs : _) (args : _) (r s : _) (x y : _) → rules-at-reads.Post κs args r x → rules-at-reads.Post κs args s y → r ≡ s
rules-at-one κs args r s x y p q = p.0 ∙ sym q.0

pub rows-one : (κs : _) (args : _) (r s : _) (x y : _) → rows-reads.Post κs args r x → rows-reads.Post κs args s y → r ≡ s
rows-one κs args r s x y p q = p.0 ∙ sym q.0

pub total-one : (κs : _) (args : _) (r s : _) (x y : _) → total-reads.Post κs args r x → total-reads.Post κs args s y → r ≡ s
total-one κs args r s x y p q = p ∙ sym q

pub part-start-one : (κs : _) (args : _) (r s : _) (x y : _) → part-start-reads.Post κs args r x → part-start-reads.Post κs args s y → r ≡ s
part-start-one κs args r s x y p q = p ∙ sym q

pub part-end-one : (κs : _) (args : _) (r s : _) (x y : _) → part-end-reads.Post κs args r x → part-end-reads.Post κs args s y → r ≡ s
part-end-one κs args r s x y p q = p ∙ sym q

-- ---- `judging`: A case in memory

pub judge-case-one : (κs : _) (args : _) (r s : _) (x y : _) → judge-case-reads.Post κs args r x → judge-case-reads.Post κs args s y → r ≡ s
judge-case-one κs args r s x y p q = p ∙ sym q

pub too-many-one : (κs : _) (args : _) (r s : _) (x y : _) → too-many-reads.Post κs args r x → too-many-reads.Post κs args s y → r ≡ s
too-many-one κs args r s x y p q = p ∙ sym q

-- ---- `headers`: The header of a file

pub counts-one : (κs : _) (args : _) (r s : _) (x y : _) → counts-reads.Post κs args r x → counts-reads.Post κs args s y → r ≡ s
counts-one κs args r s x y p q = p ∙ sym q

pub judge-header-one : (κs : _) (args : _) (r s : _) (x y : _) → judge-header-reads.Post κs args r x → judge-header-reads.Post κs args s y → r ≡ s
judge-header-one κs args r s x y p q = p ∙ sym q

-- ---- `entries`: The entries of a file

pub case-at-one : (κs : _) (args : _) (r s : _) (x y : _) → case-at-reads.Post κs args r x → case-at-reads.Post κs args s y → r ≡ s
case-at-one κs args r s x y p q = p ∙ sym q

-- ---- `files`: Files

pub judge-one : (κs : _) (args : _) (r s : _) (x y : _) → judge-reads.Post κs args r x → judge-reads.Post κs args s y → r ≡ s
judge-one κs args r s x y p q = p ∙ sym q

pub read_one : (κs : _) (args : _) (r s : _) (x y : _) → read-reads.Post κs args r x → read-reads.Post κs args s y → r ≡ s
read_one κs args r s x y p q = p ∙ sym q

pub part-of-one : (κs : _) (args : _) (r s : _) (x y : _) → part-of-reads.Post κs args r x → part-of-reads.Post κs args s y → seen r ≡ seen s
part-of-one κs args r s x y p q = p ∙ sym q

-- ---- `writing`: Writing

pub write-one : (κs : _) (args : _) (r s : _) (x y : _) → write-reads.Post κs args r x → write-reads.Post κs args s y → (r ≡ s) × (x.1.0.now ≡ y.1.0.now)
write-one κs args r s x y p q = (p.0 ∙ sym q.0, p.1 ∙ sym q.1)

-- ---- `boards`: The board

pub allowed-one : (κs : _) (args : _) (r s : _) (x y : _) → allowed-reads.Post κs args r x → allowed-reads.Post κs args s y → r ≡ s
allowed-one κs args r s x y p q = number-injective r s (p ∙ sym q)

pub ready-one : (κs : _) (args : _) (r s : _) (x y : _) → ready-reads.Post κs args r x → ready-reads.Post κs args s y → r ≡ s
ready-one κs args r s x y p q = p ∙ sym q

pub fits_one : (κs : _) (args : _) (r s : _) (x y : _) → fits-reads.Post κs args r x → fits-reads.Post κs args s y → r ≡ s
fits_one κs args r s x y p q = number-injective r s (p ∙ sym q)

pub fitting-one : (κs : _) (args : _) (r s : _) (x y : _) → fitting-reads.Post κs args r x → fitting-reads.Post κs args s y → r.people ≡ s.people
fitting-one κs args r s x y p q = number-injective r.people s.people (p _ (agree_same _ _) ∙ sym (q _ (agree_same _ _)))

pub less_one : (κs : _) (args : _) (r s : _) (x y : _) → less_reads.Post κs args r x → less_reads.Post κs args s y → r ≡ s
less_one κs args r s x y p q = p ∙ sym q

-- ---- `pieces`: What stands at a place of a board

pub row_one : (κs : _) (args : _) (r s : _) (x y : _) → row_reads.Post κs args r x → row_reads.Post κs args s y → r ≡ s
row_one κs args r s x y p q = number-injective r s (p ∙ sym q)

pub column-one : (κs : _) (args : _) (r s : _) (x y : _) → column-reads.Post κs args r x → column-reads.Post κs args s y → r ≡ s
column-one κs args r s x y p q = number-injective r s (p ∙ sym q)

pub loops-one : (κs : _) (args : _) (r s : _) (x y : _) → loops-reads.Post κs args r x → loops-reads.Post κs args s y → r ≡ s
loops-one κs args r s x y p q = number-injective r s (p ∙ sym q)

pub allowed-entry-one : (κs : _) (args : _) (r s : _) (x y : _) → allowed-entry-reads.Post κs args r x → allowed-entry-reads.Post κs args s y → r ≡ s
allowed-entry-one κs args r s x y p q = number-injective r s (p ∙ sym q)

pub named-words-one : (κs : _) (args : _) (r s : _) (x y : _) → named-words-reads.Post κs args r x → named-words-reads.Post κs args s y → r ≡ s
named-words-one κs args r s x y p q = p ∙ sym q

pub following-words-one : (κs : _) (args : _) (r s : _) (x y : _) → following-words-reads.Post κs args r x → following-words-reads.Post κs args s y → r ≡ s
following-words-one κs args r s x y p q = p ∙ sym q

pub pack_one : (κs : _) (args : _) (r s : _) (x y : _) → pack-reads.Post κs args r x → pack-reads.Post κs args s y → r ≡ s
pack_one κs args r s x y p q = p ∙ sym q

pub half-one : (κs : _) (args : _) (r s : _) (x y : _) → half-reads.Post κs args r x → half-reads.Post κs args s y → r ≡ s
half-one κs args r s x y p q = p ∙ sym q

pub first-of-one : (κs : _) (args : _) (r s : _) (x y : _) → first-of-reads.Post κs args r x → first-of-reads.Post κs args s y → r ≡ s
first-of-one κs args r s x y p q = p ∙ sym q

-- ---- `laying`: A case laid out

pub lay-out-one : (κs : _) (args : _) (r s : _) (x y : _) → lay-out-reads.Post κs args r x → lay-out-reads.Post κs args s y → r ≡ s
lay-out-one κs args r s x y p q = p ∙ sym q

pub lay-onto-one : (κs : _) (args : _) (r s : _) (x y : _) → lay-onto-reads.Post κs args r x → lay-onto-reads.Post κs args s y → x.0.now ≡ y.0.now
lay-onto-one κs args r s x y p q = p ∙ sym q

-- ---- `lines`: The moves at a position

pub lines-none-one : (κs : _) (args : _) (r s : _) (x y : _) → lines-none-reads.Post κs args r x → lines-none-reads.Post κs args s y → r ≡ s
lines-none-one κs args r s x y p q = p ∙ sym q

pub lines-with-one : (κs : _) (args : _) (r s : _) (x y : _) → lines-with-reads.Post κs args r x → lines-with-reads.Post κs args s y → r ≡ s
lines-with-one κs args r s x y p q = p ∙ sym q

pub next-move-one : (κs : _) (args : _) (r s : _) (x y : _) → next-move-reads.Post κs args r x → next-move-reads.Post κs args s y → r ≡ s
next-move-one κs args r s x y p q = move_same r s (p ∙ sym q)

-- ---- `tries`: What the searches share

pub next-step-one : (κs : _) (args : _) (r s : _) (x y : _) → next-step-reads.Post κs args r x → next-step-reads.Post κs args s y → r ≡ s
next-step-one κs args r s x y p q = ap (λ (v : ℕ). record { 0 = v }) (p ∙ sym q)

pub several-one : (κs : _) (args : _) (r s : _) (x y : _) → several-reads.Post κs args r x → several-reads.Post κs args s y → r ≡ s
several-one κs args r s x y p q = p ∙ sym q

pub line-up-one : (κs : _) (args : _) (r s : _) (x y : _) → line-up-reads.Post κs args r x → line-up-reads.Post κs args s y → r.value ≡ s.value
line-up-one κs args r s x y p q = in-line-same _ _ _ _ r.value s.value (p _ (agree_same _ _)) (q _ (agree_same _ _))

pub lines-up-one : (κs : _) (args : _) (r s : _) (x y : _) → lines-up-reads.Post κs args r x → lines-up-reads.Post κs args s y → lines_of r.value ≡ lines_of s.value
lines-up-one κs args r s x y p q = p.lines _ (agree_same _ _) ∙ sym (q.lines _ (agree_same _ _))

pub next-try-one : (κs : _) (args : _) (r s : _) (x y : _) → next-try-reads.Post κs args r x → next-try-reads.Post κs args s y → r ≡ s
next-try-one κs args r s x y p q = try-same r s (p ∙ sym q)

pub behind-one : (κs : _) (args : _) (r s : _) (x y : _) → behind-reads.Post κs args r x → behind-reads.Post κs args s y → r ≡ s
behind-one κs args r s x y p q = line_same r s (p.0 ∙ sym q.0) (p.1 ∙ sym q.1)

pub up-to-one : (κs : _) (args : _) (r s : _) (x y : _) → up-to-reads.Post κs args r x → up-to-reads.Post κs args s y → r ≡ s
up-to-one κs args r s x y p q = number-injective r s (p ∙ sym q)

pub line-without-one : (κs : _) (args : _) (r s : _) (x y : _) → line-without-reads.Post κs args r x → line-without-reads.Post κs args s y → r ≡ s
line-without-one κs args r s x y p q = line_same r s (p.0 ∙ sym q.0) (p.1 ∙ sym q.1)

pub rest-alike-one : (κs : _) (args : _) (r s : _) (x y : _) → rest-alike-reads.Post κs args r x → rest-alike-reads.Post κs args s y → r ≡ s
rest-alike-one κs args r s x y p q = spent-same r s (p ∙ sym q)

pub all-bad-one : (κs : _) (args : _) (r s : _) (x y : _) → all-bad-reads.Post κs args r x → all-bad-reads.Post κs args s y → r ≡ s
all-bad-one κs args r s x y p q = verdict-same _ r s (p ∙ sym q)

pub all-good-one : (κs : _) (args : _) (r s : _) (x y : _) → all-good-reads.Post κs args r x → all-good-reads.Post κs args s y → r ≡ s
all-good-one κs args r s x y p q = verdict-same _ r s (p ∙ sym q)

-- ---- `sums`: Sums over absence sets

pub once-one : (κs : _) (args : _) (r s : _) (x y : _) → once-reads.Post κs args r x → once-reads.Post κs args s y → r ≡ s
once-one κs args r s x y p q = p ∙ sym q

pub once-below-one : (κs : _) (args : _) (r s : _) (x y : _) → once-below-reads.Post κs args r x → once-below-reads.Post κs args s y
    → (r.held ≡ s.held) × (r.room ≡ s.room) × ((u : ℕ) → u < width → weight_of r u ≡ weight_of s u)
once-below-one κs args r s x y p q = (p.held ∙ sym q.held, p.room ∙ sym q.room, λ u h. p.weights u h ∙ sym (q.weights u h))

pub product-one : (κs : _) (args : _) (r s : _) (x y : _) → product-reads.Post κs args r x → product-reads.Post κs args s y → r ≡ s
product-one κs args r s x y p q = p ∙ sym q

pub added-one : (κs : _) (args : _) (r s : _) (x y : _) → added-reads.Post κs args r x → added-reads.Post κs args s y → r ≡ s
added-one κs args r s x y p q = p ∙ sym q

pub how-many-one : (κs : _) (args : _) (r s : _) (x y : _) → how-many-reads.Post κs args r x → how-many-reads.Post κs args s y → r ≡ s
how-many-one κs args r s x y p q = p ∙ sym q

pub weight-one : (κs : _) (args : _) (r s : _) (x y : _) → weight-reads.Post κs args r x → weight-reads.Post κs args s y → r ≡ s
weight-one κs args r s x y p q = p ∙ sym q

pub trials-to-one : (κs : _) (args : _) (r s : _) (x y : _) → trials-to-reads.Post κs args r x → trials-to-reads.Post κs args s y → r ≡ s
trials-to-one κs args r s x y p q = p ∙ sym q

pub staying-one : (κs : _) (args : _) (r s : _) (x y : _) → staying-reads.Post κs args r x → staying-reads.Post κs args s y → r ≡ s
staying-one κs args r s x y p q = p ∙ sym q

pub joined-one : (κs : _) (args : _) (r s : _) (x y : _) → joined-reads.Post κs args r x → joined-reads.Post κs args s y → r ≡ s
joined-one κs args r s x y p q = absences-same r s (p.held ∙ sym q.held) (omega (arith, p.room, q.room)) (p.weights ∙ sym q.weights)

pub raised-one : (κs : _) (args : _) (r s : _) (x y : _) → raised-reads.Post κs args r x → raised-reads.Post κs args s y
    → (r.held ≡ s.held) × (r.room ≡ s.room) × ((u : ℕ) → u < width → weight_of r u ≡ weight_of s u)
raised-one κs args r s x y p q = (p.held ∙ sym q.held, p.room ∙ sym q.room, λ u h. p.weights u h ∙ sym (q.weights u h))

-- ---- `plans`: The search for a plan

pub without-plan-one : (κs : _) (args : _) (r s : _) (x y : _) → without-plan-reads.Post κs args r x → without-plan-reads.Post κs args s y → r.value ≡ s.value
without-plan-one κs args r s x y p q = turn-same _ _ r.value s.value (p _ (agree_same _ _) ∙ sym (q _ (agree_same _ _)))

-- ---- `statics`: The static walk

pub static-walk-one : (κs : _) (args : _) (r s : _) (x y : _) → static-walk-reads.Post κs args r x → static-walk-reads.Post κs args s y → r ≡ s
static-walk-one κs args r s x y p q = verdict-same _ r s (p ∙ sym q)

pub static-from-one : (κs : _) (args : _) (r s : _) (x y : _) → static-from-reads.Post κs args r x → static-from-reads.Post κs args s y → r.value ≡ s.value
static-from-one κs args r s x y p q = verdict-same _ r.value s.value (p _ (agree_same _ _) ∙ sym (q _ (agree_same _ _)))

-- ---- `rounds`: The search of the dynamic game

pub dynamic-walk-one : (κs : _) (args : _) (r s : _) (x y : _) → dynamic-walk-reads.Post κs args r x → dynamic-walk-reads.Post κs args s y → r ≡ s
dynamic-walk-one κs args r s x y p q = verdict-same _ r s (p ∙ sym q)

pub dynamic-from-one : (κs : _) (args : _) (r s : _) (x y : _) → dynamic-from-reads.Post κs args r x → dynamic-from-reads.Post κs args s y → r.value ≡ s.value
dynamic-from-one κs args r s x y p q = verdict-same _ r.value s.value (p _ (agree_same _ _) ∙ sym (q _ (agree_same _ _)))

-- ---- `advising`: Advice

pub advice-walk-one : (κs : _) (args : _) (r s : _) (x y : _) → advice-walk-reads.Post κs args r x → advice-walk-reads.Post κs args s y → r ≡ s
advice-walk-one κs args r s x y p q = advised-same _ r s (p ∙ sym q)

-- ---- `losses`: The searches of the decremental game

pub away-turn-one : (κs : _) (args : _) (r s : _) (x y : _) → away-turn-reads.Post κs args r x → away-turn-reads.Post κs args s y → r ≡ s
away-turn-one κs args r s x y p q = verdict-same _ r s (p ∙ sym q)

-- ---- `strikes`: The searches of the one-shot game

pub one-shot-walk-one : (κs : _) (args : _) (r s : _) (x y : _) → one-shot-walk-reads.Post κs args r x → one-shot-walk-reads.Post κs args s y → r ≡ s
one-shot-walk-one κs args r s x y p q = verdict-same _ r s (p ∙ sym q)

-- ---- `asking`: What a question is asked with

pub judge-number-one : (κs : _) (args : _) (r s : _) (x y : _) → judge-number-reads.Post κs args r x → judge-number-reads.Post κs args s y → r ≡ s
judge-number-one κs args r s x y p q = p ∙ sym q

pub judge-position-one : (κs : _) (args : _) (r s : _) (x y : _) → judge-position-reads.Post κs args r x → judge-position-reads.Post κs args s y → r ≡ s
judge-position-one κs args r s x y p q = p ∙ sym q

pub filled-one : (κs : _) (args : _) (r s : _) (x y : _) → filled-reads.Post κs args r x → filled-reads.Post κs args s y → r ≡ s
filled-one κs args r s x y p q = p ∙ sym q

pub judge-absent-one : (κs : _) (args : _) (r s : _) (x y : _) → judge-absent-reads.Post κs args r x → judge-absent-reads.Post κs args s y → r ≡ s
judge-absent-one κs args r s x y p q = p ∙ sym q

-- ---- `planner`: The public calls

pub plan-one : (κs : _) (args : _) (r s : _) (x y : _) → plan-reads.Post κs args r x → plan-reads.Post κs args s y → r ≡ s
plan-one κs args r s x y p q = p ∙ sym q

pub plan-shown-one : (κs : _) (args : _) (r s : _) (x y : _) → plan-shown-reads.Post κs args r x → plan-shown-reads.Post κs args s y → r ≡ s
plan-shown-one κs args r s x y p q = p ∙ sym q

pub static-verdict-one : (κs : _) (args : _) (r s : _) (x y : _) → static-verdict-reads.Post κs args r x → static-verdict-reads.Post κs args s y → r ≡ s
static-verdict-one κs args r s x y p q = p ∙ sym q

pub decremental-verdict-one : (κs : _) (args : _) (r s : _) (x y : _) → decremental-verdict-reads.Post κs args r x → decremental-verdict-reads.Post κs args s y → r ≡ s
decremental-verdict-one κs args r s x y p q = p ∙ sym q

pub one-shot-verdict-one : (κs : _) (args : _) (r s : _) (x y : _) → one-shot-verdict-reads.Post κs args r x → one-shot-verdict-reads.Post κs args s y → r ≡ s
one-shot-verdict-one κs args r s x y p q = p ∙ sym q

pub dynamic-verdict-one : (κs : _) (args : _) (r s : _) (x y : _) → dynamic-verdict-reads.Post κs args r x → dynamic-verdict-reads.Post κs args s y → r ≡ s
dynamic-verdict-one κs args r s x y p q = p ∙ sym q

pub advice-one : (κs : _) (args : _) (r s : _) (x y : _) → advice-reads.Post κs args r x → advice-reads.Post κs args s y → r ≡ s
advice-one κs args r s x y p q = p ∙ sym q

pub away-one : (κs : _) (args : _) (r s : _) (x y : _) → away-reads.Post κs args r x → away-reads.Post κs args s y → r ≡ s
away-one κs args r s x y p q = p ∙ sym q

pub plan-good-one : (κs : _) (args : _) (r s : _) (x y : _) → plan-good-reads.Post κs args r x → plan-good-reads.Post κs args s y → r ≡ s
plan-good-one κs args r s x y p q = p ∙ sym q

pub plan-ready-one : (κs : _) (args : _) (r s : _) (x y : _) → plan-ready-reads.Post κs args r x → plan-ready-reads.Post κs args s y → r ≡ s
plan-ready-one κs args r s x y p q = p ∙ sym q

pub plan-laid-one : (κs : _) (args : _) (r s : _) (x y : _) → plan-laid-reads.Post κs args r x → plan-laid-reads.Post κs args s y → r ≡ s
plan-laid-one κs args r s x y p q = p ∙ sym q

pub ask-good-one : (κs : _) (args : _) (r s : _) (x y : _) → ask-good-reads.Post κs args r x → ask-good-reads.Post κs args s y → r ≡ s
ask-good-one κs args r s x y p q = p ∙ sym q

pub ask-ready-one : (κs : _) (args : _) (r s : _) (x y : _) → ask-ready-reads.Post κs args r x → ask-ready-reads.Post κs args s y → r ≡ s
ask-ready-one κs args r s x y p q = p ∙ sym q

pub ask-laid-one : (κs : _) (args : _) (r s : _) (x y : _) → ask-laid-reads.Post κs args r x → ask-laid-reads.Post κs args s y → r ≡ s
ask-laid-one κs args r s x y p q = p ∙ sym q

pub advise-good-one : (κs : _) (args : _) (r s : _) (x y : _) → advise-good-reads.Post κs args r x → advise-good-reads.Post κs args s y → r ≡ s
advise-good-one κs args r s x y p q = p ∙ sym q

pub advise-ready-one : (κs : _) (args : _) (r s : _) (x y : _) → advise-ready-reads.Post κs args r x → advise-ready-reads.Post κs args s y → r ≡ s
advise-ready-one κs args r s x y p q = p ∙ sym q

pub away-good-one : (κs : _) (args : _) (r s : _) (x y : _) → away-good-reads.Post κs args r x → away-good-reads.Post κs args s y → r ≡ s
away-good-one κs args r s x y p q = p ∙ sym q

pub away-ready-one : (κs : _) (args : _) (r s : _) (x y : _) → away-ready-reads.Post κs args r x → away-ready-reads.Post κs args s y → r ≡ s
away-ready-one κs args r s x y p q = p ∙ sym q

-- ---- `telling`: The program's text

pub tell-one : (κs : _) (args : _) (r s : _) (x y : _) → tell-reads.Post κs args r x → tell-reads.Post κs args s y → r ≡ s
tell-one κs args r s x y p q = p ∙ sym q

pub text-empty-one : (κs : _) (args : _) (r s : _) (x y : _) → text-empty-reads.Post κs args r x → text-empty-reads.Post κs args s y → r ≡ s
text-empty-one κs args r s x y p q = p ∙ sym q

pub text-put-byte-one : (κs : _) (args : _) (r s : _) (x y : _) → text-put-byte-reads.Post κs args r x → text-put-byte-reads.Post κs args s y → r ≡ s
text-put-byte-one κs args r s x y p q = p ∙ sym q

pub text-put-one : (κs : _) (args : _) (r s : _) (x y : _) → text-put-reads.Post κs args r x → text-put-reads.Post κs args s y → r ≡ s
text-put-one κs args r s x y p q = p ∙ sym q

pub text-put-number-one : (κs : _) (args : _) (r s : _) (x y : _) → text-put-number-reads.Post κs args r x → text-put-number-reads.Post κs args s y → r ≡ s
text-put-number-one κs args r s x y p q = p ∙ sym q

pub put-case-one : (κs : _) (args : _) (r s : _) (x y : _) → put-case-reads.Post κs args r x → put-case-reads.Post κs args s y → r ≡ s
put-case-one κs args r s x y p q = p ∙ sym q

pub put-asked-one : (κs : _) (args : _) (r s : _) (x y : _) → put-asked-reads.Post κs args r x → put-asked-reads.Post κs args s y → r ≡ s
put-asked-one κs args r s x y p q = p ∙ sym q

pub put-plan-one : (κs : _) (args : _) (r s : _) (x y : _) → put-plan-reads.Post κs args r x → put-plan-reads.Post κs args s y → r ≡ s
put-plan-one κs args r s x y p q = p ∙ sym q

pub put-verdict-one : (κs : _) (args : _) (r s : _) (x y : _) → put-verdict-reads.Post κs args r x → put-verdict-reads.Post κs args s y → r ≡ s
put-verdict-one κs args r s x y p q = p ∙ sym q

pub put-refusal-one : (κs : _) (args : _) (r s : _) (x y : _) → put-refusal-reads.Post κs args r x → put-refusal-reads.Post κs args s y → r ≡ s
put-refusal-one κs args r s x y p q = p ∙ sym q

-- ---- `replies`: Positions from bytes, and answers as numbers

pub position-of-one : (κs : _) (args : _) (r s : _) (x y : _) → position-of-reads.Post κs args r x → position-of-reads.Post κs args s y → persons r ≡ persons s
position-of-one κs args r s x y p q = p ∙ sym q

pub plan-reply-one : (κs : _) (args : _) (r s : _) (x y : _) → plan-reply-reads.Post κs args r x → plan-reply-reads.Post κs args s y → r ≡ s
plan-reply-one κs args r s x y p q = p ∙ sym q

pub verdict-reply-one : (κs : _) (args : _) (r s : _) (x y : _) → verdict-reply-reads.Post κs args r x → verdict-reply-reads.Post κs args s y → r ≡ s
verdict-reply-one κs args r s x y p q = p ∙ sym q

pub advice-reply-one : (κs : _) (args : _) (r s : _) (x y : _) → advice-reply-reads.Post κs args r x → advice-reply-reads.Post κs args s y → r ≡ s
advice-reply-one κs args r s x y p q = p ∙ sym q

pub away-reply-one : (κs : _) (args : _) (r s : _) (x y : _) → away-reply-reads.Post κs args r x → away-reply-reads.Post κs args s y → r ≡ s
away-reply-one κs args r s x y p q = p ∙ sym q

pub refused-one : (κs : _) (args : _) (r s : _) (x y : _) → refused-reads.Post κs args r x → refused-reads.Post κs args s y → r ≡ s
refused-one κs args r s x y p q = p ∙ sym q

pub said-one : (κs : _) (args : _) (r s : _) (x y : _) → said-reads.Post κs args r x → said-reads.Post κs args s y → r ≡ s
said-one κs args r s x y p q = p ∙ sym q

-- ---- `rodcrank`: The calls for other languages

pub rodcrank-judge-one : (κs : _) (args : _) (r s : _) (x y : _) → rodcrank-judge-reads.Post κs args r x → rodcrank-judge-reads.Post κs args s y → x.1.0.now ≡ y.1.0.now
rodcrank-judge-one κs args r s x y p q = p ∙ sym q

pub rodcrank-plan-one : (κs : _) (args : _) (r s : _) (x y : _) → rodcrank-plan-reads.Post κs args r x → rodcrank-plan-reads.Post κs args s y → x.1.1.0.now ≡ y.1.1.0.now
rodcrank-plan-one κs args r s x y p q = p ∙ sym q

pub rodcrank-static-one : (κs : _) (args : _) (r s : _) (x y : _) → rodcrank-static-reads.Post κs args r x → rodcrank-static-reads.Post κs args s y → x.1.1.1.0.now ≡ y.1.1.1.0.now
rodcrank-static-one κs args r s x y p q = p ∙ sym q

pub rodcrank-decremental-one : (κs : _) (args : _) (r s : _) (x y : _) → rodcrank-decremental-reads.Post κs args r x → rodcrank-decremental-reads.Post κs args s y → x.1.1.1.0.now ≡ y.1.1.1.0.now
rodcrank-decremental-one κs args r s x y p q = p ∙ sym q

pub rodcrank-one-shot-one : (κs : _) (args : _) (r s : _) (x y : _) → rodcrank-one-shot-reads.Post κs args r x → rodcrank-one-shot-reads.Post κs args s y → x.1.1.1.0.now ≡ y.1.1.1.0.now
rodcrank-one-shot-one κs args r s x y p q = p ∙ sym q

pub rodcrank-dynamic-one : (κs : _) (args : _) (r s : _) (x y : _) → rodcrank-dynamic-reads.Post κs args r x → rodcrank-dynamic-reads.Post κs args s y → x.1.1.1.0.now ≡ y.1.1.1.0.now
rodcrank-dynamic-one κs args r s x y p q = p ∙ sym q

pub rodcrank-advice-one : (κs : _) (args : _) (r s : _) (x y : _) → rodcrank-advice-reads.Post κs args r x → rodcrank-advice-reads.Post κs args s y → x.1.1.1.1.1.1.0.now ≡ y.1.1.1.1.1.1.0.now
rodcrank-advice-one κs args r s x y p q = p ∙ sym q

pub rodcrank-away-one : (κs : _) (args : _) (r s : _) (x y : _) → rodcrank-away-reads.Post κs args r x → rodcrank-away-reads.Post κs args s y → x.1.1.1.1.0.now ≡ y.1.1.1.1.0.now
rodcrank-away-one κs args r s x y p q = p ∙ sym q

pub rodcrank-verdicts-one : (κs : _) (args : _) (r s : _) (x y : _) → rodcrank-verdicts-reads.Post κs args r x → rodcrank-verdicts-reads.Post κs args s y → (r ≡ s) × (x.1.0.now ≡ y.1.0.now)
rodcrank-verdicts-one κs args r s x y p q = (p.0 ∙ sym q.0, p.1 ∙ sym q.1)
