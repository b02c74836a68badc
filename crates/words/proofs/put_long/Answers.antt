-- What was copied are the number's four bytes, the highest of which needs no remainder.
use Rattle.std.proofs.Common.{◌≡◌, ℕ, ◌+◌, ◌-◌, ◌/◌, ◌%◌, ◌<◌, List, length, ap, ◌∙◌, [], ◌∷◌, append_assoc, arith}
use Rattle.std.proofs.lemmas.List.Edits.{sets, sets-eq}
use Rattle.std.proofs.Math.Seq.{drop-drop}
use borrow.Rule.Slice.PartMut.{put_mid}
use Rattle.words.specs.Word.{le4}
use Rattle.words.proofs.put_long.Goals as goal

stored : (s new : List ℕ) (i v : ℕ) → new ≡ le4 v → i + 3 < length s → put_mid i (i + 4 - i) s new ≡ sets s i (le4 v)
stored s new i v e h =
    let four : i + 4 - i ≡ 4 = omega arith in
    rw (sets-eq (le4 v) s i (omega arith), four, e, drop-drop 4 i s, append_assoc)

highest : (v : ℕ) → v < 4294967296 → v / 16777216 % 256 ≡ v / 16777216
highest v h = omega arith

four : (v : ℕ) → v < 4294967296 → v % 256 ∷ v / 256 % 256 ∷ v / 65536 % 256 ∷ v / 16777216 % 256 ∷ [] ≡ le4 v
four v h = ap (λ d. v % 256 ∷ v / 256 % 256 ∷ v / 65536 % 256 ∷ d ∷ []) (highest v h)

pub returns : goal.returns
returns c = stored c.args.s.now c.copy_from_slice.new.self c.args.i c.args.v (c.copy_from_slice.ensures.after ∙ c.to_le_bytes.ensures ∙ four c.args.v (omega arith)) c.requires
