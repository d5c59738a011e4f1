-- The exponent is made even, and a subnormal number's digits are shifted up: the number that is
-- left is the same. Assumes nothing.
use Rattle.std.proofs.Common.{◌≡◌, ℕ, zero, suc, ◌+◌, ◌-◌, ◌*◌, ◌/◌, ◌%◌, ◌^◌, ◌<◌, ◌≤◌, sym, refl, ap, ◌∙◌, le_trans, le_of_eq, lt_of_lt_of_le, lt_of_le_of_lt, mul-le-mul_right, mod-eq_of_lt, mul_assoc, mul-le-mul_left, lt_of_not-le, not-le_of_lt, arith, pow_mono, pow-add, shl_lt}
use lib.Count.{count_leading_zeros, leading_top}
use Rattle.numeric.specs.Inner.Step.{Significand, Digits}

-- ---- an even exponent

parity : (r : ℕ) → r < 2 → 2 ^ r ≡ 1 + r
parity zero h = refl
parity (suc zero) h = refl
parity (suc (suc r)) h = absurd (many r h)
  where
    many : (r : ℕ) → suc (suc r) < 2 → ⊥
    many r h = omega arith

pub even_exponent : (d e : ℕ) → 52 ≤ e → d * 2 ^ e ≡ d * (1 + e % 2) * 2 ^ 52 * (2 ^ (e / 2 - 26) * 2 ^ (e / 2 - 26))
even_exponent d e h =
    let k = e / 2 - 26 in
    let split : e ≡ e % 2 + (52 + (k + k)) = omega arith in
    ap (λ (x : ℕ). d * 2 ^ x) split
    ∙ ap (λ (x : ℕ). d * x) (pow-add 2 (e % 2) (52 + (k + k)))
    ∙ ap (λ (x : ℕ). d * (x * 2 ^ (52 + (k + k)))) (parity (e % 2) (omega arith))
    ∙ ap (λ (x : ℕ). d * ((1 + e % 2) * x)) (pow-add 2 52 (k + k) ∙ ap (λ (x : ℕ). 2 ^ 52 * x) (pow-add 2 k k))
    ∙ sym (mul_assoc d (1 + e % 2) (2 ^ 52 * (2 ^ k * 2 ^ k)))
    ∙ sym (mul_assoc (d * (1 + e % 2)) (2 ^ 52) (2 ^ k * 2 ^ k))

pub significand : (d e : ℕ) → Digits d → Significand (d * (1 + e % 2))
significand d e h =
    let lo : d * 1 ≤ d * (1 + e % 2) = mul-le-mul_left d (omega arith) in
    let hi : d * (1 + e % 2) ≤ d * 2 = mul-le-mul_left d (omega arith) in
    record { least = omega arith; most = omega arith }

-- ---- digits that are shifted up

pub together : (q j e : ℕ) → j + 1074 ≡ e → q * 2 ^ j * 2 ^ 1074 ≡ q * 2 ^ e
together q j e h = mul_assoc q (2 ^ j) (2 ^ 1074) ∙ ap (λ (x : ℕ). q * x) (sym (pow-add 2 j 1074) ∙ ap (λ (x : ℕ). 2 ^ x) h)

-- what is known of a subnormal number's leading zeros z
pub record Lead (b z : ℕ) : Type 0 where
  pub least : 12 ≤ z
  pub most : z ≤ 63
  pub digits : Digits (b * 2 ^ (z - 11) % 2 ^ 64)
  pub value : b * 2 ^ (z - 11) % 2 ^ 64 * 2 ^ (1074 - (z - 11)) ≡ b * 2 ^ 1074

lead_at : (b z j : ℕ) → b < 2 ^ 52 → z + suc j ≡ 64 → 2 ^ j ≤ b → b < 2 ^ suc j → Lead b z
lead_at b z j h e lo hi =
    let u = z - 11 in
    let low : j < 52 = lt_of_not-le (λ (g : 52 ≤ j). not-le_of_lt (lt_of_le_of_lt lo h) (pow_mono g)) in
    let ge : 2 ^ 52 ≤ b * 2 ^ u = le_trans (le_of_eq (ap (λ (x : ℕ). 2 ^ x) (places j z e low) ∙ pow-add 2 j u)) (mul-le-mul_right (2 ^ u) lo) in
    let lt : b * 2 ^ u < 2 ^ 53 = lt_of_lt_of_le (shl_lt (suc j) u hi) (le_of_eq (ap (λ (x : ℕ). 2 ^ x) (one_more j z e low))) in
    let same : b * 2 ^ u % 2 ^ 64 ≡ b * 2 ^ u = mod-eq_of_lt (wide (b * 2 ^ u) lt) in
    record {
      least = omega arith;
      most = omega arith;
      digits = record { least = omega arith; most = omega arith };
      value = ap (λ (x : ℕ). x * 2 ^ (1074 - u)) same ∙ mul_assoc b (2 ^ u) (2 ^ (1074 - u)) ∙ ap (λ (x : ℕ). b * x) (sym (pow-add 2 u (1074 - u)) ∙ ap (λ (x : ℕ). 2 ^ x) (back j z e low));
    }
  where
    places : (j z : ℕ) → z + suc j ≡ 64 → j < 52 → 52 ≡ j + (z - 11)
    places j z e l = omega arith

    one_more : (j z : ℕ) → z + suc j ≡ 64 → j < 52 → suc j + (z - 11) ≡ 53
    one_more j z e l = omega arith

    wide : (x : ℕ) → x < 2 ^ 53 → x < 2 ^ 64
    wide x l = omega arith

    back : (j z : ℕ) → z + suc j ≡ 64 → j < 52 → z - 11 + (1074 - (z - 11)) ≡ 1074
    back j z e l = omega arith

pub lead : (b : ℕ) → 0 < b → b < 2 ^ 52 → Lead b (count_leading_zeros 64 b)
lead b B h =
    let t = leading_top 64 b B (wider b h) in
    lead_at b (count_leading_zeros 64 b) t.0 h t.1 t.2 t.3
  where
    wider : (b : ℕ) → b < 2 ^ 52 → b < 2 ^ 64
    wider b h = omega arith
