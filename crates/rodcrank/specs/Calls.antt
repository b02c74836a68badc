-- What each exported call answers for a file: the file's refusal, or the planner's answer for the case that the file holds.
use Rattle.std.specs.Prelude.{List, ◌++◌, ℕ, ◌^◌, Result, Ok, Err, leb, ltb, length, drop}
use Rattle.sets.specs.Lists.{pick}
use Rattle.sets.specs.Stored.{width}
use Rattle.cases.specs.declared.Case.{Case}
use Rattle.refusals.specs.declared.Refusal.{Refusal}
use Rattle.refusals.specs.Refusals.{Judged, refusal}
use Rattle.layout.specs.Layout.{case_of}
use Rattle.files.specs.Checks.{judged_file}
use Rattle.asking.specs.Asking.{judged_away}
use Rattle.planner.specs.declared.AdviceAnswer.{AdviceAnswer}
use Rattle.planner.specs.Calls.{plan_call, static_call, decremental_call, one_shot_call, dynamic_call, advice_call, away_call}
use Rattle.replies.specs.Replies.{says_yes, refused_reply, said_reply, plan_reply, verdict_reply, advice_reply, away_reply}
use Rattle.replies.specs.Pairs.{persons_in}

-- an answer where nothing is refused, else the refusal
abbrev pub if_good : Judged → List ℕ → List ℕ
if_good (Ok nothing) answer = answer
if_good (Err r) answer = refused_reply r

-- Judge: yes, the file is good.
unfoldable pub judge_file : List ℕ → List ℕ
judge_file f = if_good (judged_file f) (said_reply says_yes 0)

-- Plan, and the verdicts with absence number t, under limit l.
unfoldable pub plan_file : List ℕ → ℕ → List ℕ
plan_file f l = if_good (judged_file f) (plan_reply (plan_call (case_of f) l))

unfoldable pub static_file : List ℕ → ℕ → ℕ → List ℕ
static_file f t l = if_good (judged_file f) (verdict_reply (static_call (case_of f) t l))

unfoldable pub decremental_file : List ℕ → ℕ → ℕ → List ℕ
decremental_file f t l = if_good (judged_file f) (verdict_reply (decremental_call (case_of f) t l))

unfoldable pub one_shot_file : List ℕ → ℕ → ℕ → List ℕ
one_shot_file f t l = if_good (judged_file f) (verdict_reply (one_shot_call (case_of f) t l))

unfoldable pub dynamic_file : List ℕ → ℕ → ℕ → List ℕ
dynamic_file f t l = if_good (judged_file f) (verdict_reply (dynamic_call (case_of f) t l))

-- what advice with an unknown absentee is refused by: what away is, else 14
abbrev pub unknown_absent : Judged → Refusal
unknown_absent (Ok nothing) = refusal 14 0
unknown_absent (Err r) = r

-- Advice at position p with A absent. Somebody past the width is unknown.
unfoldable pub advised : Case → List ℕ → ℕ → ℕ → ℕ → Result AdviceAnswer Refusal
advised c p t A l = pick (ltb A (2 ^ width)) (advice_call c p t A l) (Err (unknown_absent (judged_away c p t)))

-- its answer: the step advised on is the one after the position's entries
abbrev pub advice_on : Case → List ℕ → ℕ → ℕ → ℕ → List ℕ
advice_on c p t A l = advice_reply (length p) (advised c p t A l)

-- Advice at a position given in pairs, with A absent; away at such a position.
unfoldable pub advice_file : List ℕ → List ℕ → ℕ → ℕ → ℕ → List ℕ
advice_file f b t A l = if_good (judged_file f) (advice_on (case_of f) (persons_in b) t A l)

unfoldable pub away_file : List ℕ → List ℕ → ℕ → ℕ → List ℕ
away_file f b t l = if_good (judged_file f) (away_reply (away_call (case_of f) (persons_in b) t l))

-- a lent buffer after a text was put into it: behind the text it stays, and so does all of it where the text does not fit
unfoldable pub filled_with : List ℕ → List ℕ → List ℕ
filled_with text buffer = pick (leb (length text) (length buffer)) (text ++ drop (length text) buffer) buffer
