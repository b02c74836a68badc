-- Sums and products as they are told: it does not matter whether their parts are told so before.
use mathlib.Core.Path.{◌≡◌, sym, ap, ◌∙◌}
use Prim.Native.Nat.{ℕ, zero, suc, ◌+◌, ◌*◌, ◌≤◌, ◌<◌}
use native.Mathlib.Nat.{mul-add, mul_assoc, mul_comm, zero-mul, mul-le-mul}
use native.Mathlib.Decide.{dec_lt}
use native.Mathlib.Omega.{arith}
use Rattle.sums.specs.Sums.{most, capped}

pub capped-plus : (a b : ℕ) → capped (capped a + capped b) ≡ capped (a + b)
capped-plus a b = omega arith

pub capped_left : (a b : ℕ) → capped (capped a + b) ≡ capped (a + b)
capped_left a b = omega arith

pub capped-right : (a b : ℕ) → capped (a + capped b) ≡ capped (a + b)
capped-right a b = omega arith

pub capped_le : (a : ℕ) → capped a ≤ most
capped_le a = omega arith

pub capped-times : (a b : ℕ) → capped (a * capped b) ≡ capped (a * b)
capped-times zero b = ap capped (zero-mul (capped b) ∙ sym (zero-mul b))
capped-times (suc a) b = go (dec_lt most b)
  where
    large : (x : ℕ) → most ≤ x → most ≤ suc a * x
    large x h = omega (arith, mul-le-mul {n₁ = 1} {m₁ = x} {n₂ = suc a} {m₂ = x} (omega arith) (omega arith))

    go : Dec (most < b) → capped (suc a * capped b) ≡ capped (suc a * b)
    go (yes l) = omega (arith, large (capped b) (omega arith), large b (omega arith))
    go (no l) = let same : capped b ≡ b = omega arith in ap (λ (x : ℕ). capped (suc a * x)) same

pub capped-times-left : (a b : ℕ) → capped (capped a * b) ≡ capped (a * b)
capped-times-left a b = ap capped (mul_comm (capped a) b) ∙ capped-times b a ∙ ap capped (mul_comm b a)

-- what is told of s + c * (x + w * y), from what is told of s + c * x and of c * w
pub capped-next : (s c x w y : ℕ) → capped (capped (s + capped (c * x)) + capped (c * w) * y) ≡ capped (s + c * capped (x + w * y))
capped-next s c x w y =
    capped_left (s + capped (c * x)) (capped (c * w) * y)
    ∙ middle (c * x) (capped (c * w) * y)
    ∙ sym (capped-right (s + c * x) (capped (c * w) * y))
    ∙ ap (λ (z : ℕ). capped (s + c * x + z)) (capped-times-left (c * w) y)
    ∙ capped-right (s + c * x) (c * w * y)
    ∙ ap capped whole
    ∙ sym (capped-right s (c * (x + w * y)))
    ∙ ap (λ (z : ℕ). capped (s + z)) (sym (capped-times c (x + w * y)))
    ∙ capped-right s (c * capped (x + w * y))
  where
    middle : (p q : ℕ) → capped (s + capped p + q) ≡ capped (s + p + q)
    middle p q = omega arith

    whole : s + c * x + c * w * y ≡ s + c * (x + w * y)
    whole = omega (arith, mul-add c x (w * y), mul_assoc c w y)
