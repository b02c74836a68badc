-- What is put into an empty record is held there.
use mathlib.Core.Path.{◌≡◌, sym, ap, ap₂, ◌∙◌}
use mathlib.Core.List.{List, [], ◌∷◌, ◌++◌, append_assoc}
use Prim.Native.Nat.{ℕ, suc, ◌+◌, ◌-◌, ◌≤◌, ◌<◌}
use native.Mathlib.Omega.{arith}
use lib.ListN.{length, take, set, replicate, length-append}
use lib.Seq.{set-append_seam, take-append_seam}
use Rattle.sets.proofs.Lists.{pick-lt}
use Rattle.cases.specs.declared.Case.{Case}
use Rattle.std.specs.Prelude.{Result}
use Rattle.refusals.specs.declared.Refusal.{Refusal}
use Rattle.refusals.specs.Refusals.{Judged, Good, Refused, judged_by, or_else}
use Rattle.words.specs.Word.{AllBytes}
use Rattle.asking.specs.Asking.{number_check}
use Rattle.files.specs.declared.FileRead.{FileRead}
use Rattle.files.specs.Reading.{read_of}
use Rattle.planner.specs.declared.PlanAnswer.{PlanAnswer}
use Rattle.planner.specs.declared.VerdictAnswer.{VerdictAnswer}
use Rattle.planner.specs.Calls.{plan_call, static_call, decremental_call, one_shot_call, dynamic_call}
use Rattle.telling.specs.declared.text.Text.{Text}
use Rattle.telling.specs.Lines.{bytes}
use Rattle.telling.specs.Telling.{case_line, asked_line, plan_line, verdict_line, refused_line}
use Rattle.telling.specs.Telling.{answer_lines, told, text_of, judged_input, absent_in, limit_in, file_in}
use Rattle.telling.specs.Held.{room, held, put_byte, put}
use Rattle.telling.proofs.Growing.{then-put, put_same}
use Rattle.telling.proofs.Lists.{append-nil}
use Rattle.telling.proofs.Fits.{text-fits}

held-byte : (a : List ℕ) (b : ℕ) → length a < room → put_byte (held a) b ≡ held (a ++ (b ∷ []))
unfolding held put_byte
held-byte a b h =
    let rest = room - suc (length a) in
    let more : room - length a ≡ suc rest = omega arith in
    let longer : length a + 1 ≡ length (a ++ (b ∷ [])) = omega (arith, length-append a (b ∷ [])) in
    let less : rest ≡ room - length (a ++ (b ∷ [])) = omega (arith, length-append a (b ∷ [])) in
    sym (pick-lt (length a) room (record { bytes = set (a ++ replicate (room - length a) 0) (length a) b; len = length a + 1 }) (held a) h)
    ∙ ap₂ (λ (l : List ℕ) (n : ℕ). record { bytes = l; len = n })
    (ap (λ (n : ℕ). set (a ++ replicate n 0) (length a) b) more
    ∙ set-append_seam a 0 (replicate rest 0) b
    ∙ sym (append_assoc a (b ∷ []) (replicate rest 0))
    ∙ ap (λ (n : ℕ). (a ++ (b ∷ [])) ++ replicate n 0) less)
    longer

held-put : (a w : List ℕ) → length a + length w ≤ room → put (held a) w ≡ held (a ++ w)
unfolding put
held-put a [] h = ap held (sym (append-nil a))
held-put a (b ∷ w) h =
    ap (λ (t : Text). put t w) (held-byte a b (omega arith))
    ∙ held-put (a ++ (b ∷ [])) w (omega (arith, length-append a (b ∷ [])))
    ∙ ap held (append_assoc a (b ∷ []) w)

-- the lines, one put after the other
pub lines-put : (c : Case) (t l : ℕ) (x₀ x₁ x₂ x₃ x₄ x₅ x₆ x₇ : Text) (p : Result PlanAnswer Refusal) (s e o d : Result VerdictAnswer Refusal) → x₀ ≡ held []
    → x₁ ≡ put x₀ (case_line c.counts) → x₂ ≡ put x₁ (asked_line t l) → p ≡ plan_call c l → x₃ ≡ put x₂ (plan_line p)
    → s ≡ static_call c t l → x₄ ≡ put x₃ (verdict_line (bytes "static") s)
    → e ≡ decremental_call c t l → x₅ ≡ put x₄ (verdict_line (bytes "decremental") e)
    → o ≡ one_shot_call c t l → x₆ ≡ put x₅ (verdict_line (bytes "one-shot") o)
    → d ≡ dynamic_call c t l → x₇ ≡ put x₆ (verdict_line (bytes "dynamic") d) → x₇ ≡ put (held []) (answer_lines c t l)
unfolding answer_lines
lines-put c t l x₀ x₁ x₂ x₃ x₄ x₅ x₆ x₇ p s e o d h₀ h₁ h₂ hp h₃ hs h₄ he h₅ ho h₆ hd h₇ =
    let one = h₁ ∙ ap (λ (x : Text). put x (case_line c.counts)) h₀ in
    let two = then-put _ _ _ _ one _ h₂ in
    let three = then-put _ _ _ _ two _ (h₃ ∙ ap (λ (a : Result PlanAnswer Refusal). put x₂ (plan_line a)) hp) in
    let four = then-put _ _ _ _ three _ (verdict-put x₃ x₄ (bytes "static") hs h₄) in
    let five = then-put _ _ _ _ four _ (verdict-put x₄ x₅ (bytes "decremental") he h₅) in
    let six = then-put _ _ _ _ five _ (verdict-put x₅ x₆ (bytes "one-shot") ho h₆) in
    let seven = then-put _ _ _ _ six _ (verdict-put x₆ x₇ (bytes "dynamic") hd h₇) in
    put_same _ _ _ _ seven (simp append_assoc)
  where
    verdict-put : (x y : Text) (name : List ℕ) {a b : Result VerdictAnswer Refusal} → a ≡ b → y ≡ put x (verdict_line name a) → y ≡ put x (verdict_line name b)
    verdict-put x y name h k = k ∙ ap (λ (a : Result VerdictAnswer Refusal). put x (verdict_line name a)) h

-- ---- an input is judged and told

pub input-judged : (input : List ℕ) (f : FileRead) (t : ℕ) (j k : Judged) → f ≡ read_of (file_in input) → t ≡ absent_in input
    → k ≡ judged_by (number_check t ∷ []) → j ≡ or_else f.judged k → judged_input input ≡ j
unfolding judged_input
input-judged input f t j k ef et ek ej =
    sym
    (ej
    ∙ ap₂ or_else (ap (λ (x : FileRead). x.judged) ef) (ek ∙ ap (λ (n : ℕ). judged_by (number_check n ∷ [])) et))

text-held : (input : List ℕ) (x : Text) → AllBytes input → x ≡ put (held []) (text_of input) → x ≡ held (text_of input)
text-held input x b e = e ∙ held-put [] (text_of input) (omega (arith, text-fits input b))

pub told-refused : (input : List ℕ) (r : Refusal) (x₀ x : Text) → AllBytes input → judged_input input ≡ Refused r → x₀ ≡ held []
    → x ≡ put x₀ (refused_line r) → x ≡ held (text_of input)
unfolding text_of
told-refused input r x₀ x b e h f =
    text-held input x b
    (f
    ∙ ap (λ (y : Text). put y (refused_line r)) h
    ∙ ap (λ (j : Judged). put (held []) (told j (answer_lines (read_of (file_in input)).held (absent_in input) (limit_in input)))) (sym e))

pub told-good : (input : List ℕ) (f : FileRead) (t l : ℕ) (x : Text) → AllBytes input → judged_input input ≡ Good → f ≡ read_of (file_in input)
    → t ≡ absent_in input → l ≡ limit_in input → x ≡ put (held []) (answer_lines f.held t l) → x ≡ held (text_of input)
unfolding text_of
told-good input f t l x b e ef et el h =
    let lines : answer_lines f.held t l ≡ answer_lines (read_of (file_in input)).held (absent_in input) (limit_in input) = cc in
    text-held input x b
    (h
    ∙ ap (put (held [])) lines
    ∙ ap (λ (j : Judged). put (held []) (told j (answer_lines (read_of (file_in input)).held (absent_in input) (limit_in input)))) (sym e))

-- ---- what a caller does with a text that is held

module _ (x : Text) (l : List ℕ) (e : x ≡ held l) where
  -- its length is within its bytes
  pub held-within : x.len ≤ length x.bytes
  unfolding held
  held-within =
      let long : x.len ≡ length l = ap (λ (t : Text). t.len) e in
      let bytes : length x.bytes ≡ length (l ++ replicate (room - length l) 0) = ap (λ (t : Text). length t.bytes) e in
      omega (arith, length-append l (replicate (room - length l) 0))

  -- its bytes, as many as its length says, are the text
  pub held-shown : take x.len x.bytes ≡ l
  unfolding held
  held-shown = ap (λ (t : Text). take t.len t.bytes) e ∙ take-append_seam l (replicate (room - length l) 0)
