-- `root` of a value by its size in units of the smallest double, and the pattern of the result.
-- Assumes nothing.
use Rattle.std.proofs.Common.{◌≡◌, ℕ, zero, suc, ◌+◌, ◌-◌, ◌*◌, ◌/◌, ◌%◌, ◌^◌, ◌<◌, ◌≤◌, Bool, true, false, cond, eqb, ltb, leb, sym, refl, ap, ◌∙◌, subst, true≢false, lt_of_lt_of_le, lt_irrefl, mod-eq_of_lt, zero-lt-suc, mul_assoc, div-lt_iff_lt-mul, mul-pos, pow-suc, zero-mul, mul_right_comm, not-le_of_lt, mul-div_cancel, two-mul, arith, le→leb, eqb→eq, lt→ltb, leb→le, pow_pos, pow_mono, pow-add, shl_lt}
use lib.Dec.{not_T}
use lib.Count.{count_trailing_zeros, under}
use lib.Ieee.{Float, nan, inf, fin, Format, binary64, low, up, down, minus, odd, units, of_fields, of_bits}
use lib.Ieee.Bits.{is_true, is_false, cond_no}
use lib.Ieee.Fits.{down_pos}
use lib.Ieee.Exact.{HasValue, odd_sign}
use Rattle.numeric.specs.Root.{root, root_units}

-- ---- `root`, by the value

-- a number that is not negative and is a units in size: its root is that of a times the square of
-- 2 ^ low
units_squared : (l y a d : ℕ) → 0 < d → y * 2 ^ l ≡ a * d → y * 2 ^ (2 * l) / d ≡ a * 2 ^ l
units_squared l y a d D e =
    ap (λ (x : ℕ). y * x / d) (ap (λ (x : ℕ). 2 ^ x) (two-mul l) ∙ pow-add 2 l l)
    ∙ ap (λ (x : ℕ). x / d) (sym (mul_assoc y (2 ^ l) (2 ^ l)) ∙ ap (λ (x : ℕ). x * 2 ^ l) e ∙ mul_right_comm a d (2 ^ l))
    ∙ mul-div_cancel (a * 2 ^ l) D

no_zero : (u c a d : ℕ) → 0 < a → 0 < d → 0 * u * c ≡ a * d → ⊥
no_zero u c a d A D e = lt_irrefl 0 (subst (λ (x : ℕ). 0 < x) (sym e ∙ ap (λ (x : ℕ). x * c) (zero-mul u) ∙ zero-mul c) (mul-pos A D))

pub root_of_units : (f : Format) (x : Float) (a : ℕ) → HasValue x false a (2 ^ low f) → 0 < a → root f x ≡ root_units f (a * 2 ^ low f)
unfolding root
root_of_units f nan a h A = absurd h
root_of_units f (inf s) a h A = absurd h
root_of_units f (fin true m e) a h A = absurd (true≢false h.0)
root_of_units f (fin false zero e) a h A = absurd (no_zero (up e) (2 ^ low f) a (down e) A (down_pos e) h.1)
root_of_units f (fin false (suc m) e) a h A = ap (root_units f) (units_squared (low f) (suc m * up e) a (down e) (down_pos e) h.1)

pub root_of_negative : (f : Format) (x : Float) (a c : ℕ) → HasValue x true a c → 0 < a → root f x ≡ nan
unfolding root
root_of_negative f nan a c h A = absurd h
root_of_negative f (inf s) a c h A = absurd h
root_of_negative f (fin false m e) a c h A = absurd (true≢false (sym h.0))
root_of_negative f (fin true zero e) a c h A = absurd (no_zero (up e) c a (down e) A (down_pos e) h.1)
root_of_negative f (fin true (suc m) e) a c h A = refl

-- ---- what a pattern stands for

of_bits_is : (b : ℕ) → of_bits binary64 b ≡ of_fields binary64 (leb (2 ^ 63) b) (b % 2 ^ 63 / 2 ^ 52) (b % 2 ^ 52)
unfolding of_bits
of_bits_is b = refl

pub sign_clear : (b : ℕ) → b < 2 ^ 63 → of_bits binary64 b ≡ of_fields binary64 false (b / 2 ^ 52) (b % 2 ^ 52)
sign_clear b h =
    of_bits_is b
    ∙ ap (λ (s : Bool). of_fields binary64 s (b % 2 ^ 63 / 2 ^ 52) (b % 2 ^ 52)) (is_false (leb (2 ^ 63) b) (not_T (leb (2 ^ 63) b) (λ t. not-le_of_lt h (leb→le (2 ^ 63) b t))))
    ∙ ap (λ (x : ℕ). of_fields binary64 false (x / 2 ^ 52) (b % 2 ^ 52)) (mod-eq_of_lt h)

pub sign_set : (b : ℕ) → 2 ^ 63 ≤ b → of_bits binary64 b ≡ of_fields binary64 true (b % 2 ^ 63 / 2 ^ 52) (b % 2 ^ 52)
sign_set b h = of_bits_is b ∙ ap (λ (s : Bool). of_fields binary64 s (b % 2 ^ 63 / 2 ^ 52) (b % 2 ^ 52)) (is_true (leb (2 ^ 63) b) (le→leb (2 ^ 63) b h))

pub field_mid : (s : Bool) (x t : ℕ) → suc x < 2047 → of_fields binary64 s (suc x) t ≡ odd 53 s (2 ^ 52 + t) x 1074
unfolding of_fields
field_mid s x t h = cond_no (eqb (suc x) 2047) (cond (eqb t 0) (inf s) nan) (odd 53 s (2 ^ 52 + t) x 1074) (not_T (eqb (suc x) 2047) (λ u. differ x h (eqb→eq (suc x) 2047 u)))
  where
    differ : (x : ℕ) → suc x < 2047 → suc x ≡ 2047 → ⊥
    differ x h e = omega arith

pub field_low : (s : Bool) (t : ℕ) → of_fields binary64 s 0 t ≡ odd 53 s t 0 1074
unfolding of_fields
field_low s t = refl

pub field_top : (s : Bool) → of_fields binary64 s 2047 0 ≡ inf s
unfolding of_fields
field_top s = refl

pub normal_is : (b : ℕ) → 2 ^ 52 ≤ b → b < 2047 * 2 ^ 52 → of_bits binary64 b ≡ odd 53 false (2 ^ 52 + b % 2 ^ 52) (b / 2 ^ 52 - 1) 1074
normal_is b l h =
    let e : b / 2 ^ 52 ≡ suc (b / 2 ^ 52 - 1) = omega arith in
    sign_clear b (omega arith) ∙ ap (λ (x : ℕ). of_fields binary64 false x (b % 2 ^ 52)) e ∙ field_mid false (b / 2 ^ 52 - 1) (b % 2 ^ 52) (omega arith)

pub small_is : (b : ℕ) → b < 2 ^ 52 → of_bits binary64 b ≡ odd 53 false b 0 1074
small_is b h =
    let x : b / 2 ^ 52 ≡ 0 = omega arith in
    let t : b % 2 ^ 52 ≡ b = omega arith in
    sign_clear b (omega arith) ∙ ap (λ (y : ℕ). of_fields binary64 false y (b % 2 ^ 52)) x ∙ ap (λ (y : ℕ). of_fields binary64 false 0 y) t ∙ field_low false b

pub root_of_odd : (q k : ℕ) → 0 < q → root binary64 (odd 53 false q k 1074) ≡ root_units binary64 (q * 2 ^ k * 2 ^ 1074)
root_of_odd q k Q = root_of_units binary64 (odd 53 false q k 1074) (q * 2 ^ k) (odd_sign 53 false q k 1074) (mul-pos Q (pow_pos k))

pub root_of_minus : (q k : ℕ) → 0 < q → root binary64 (odd 53 true q k 1074) ≡ nan
root_of_minus q k Q = root_of_negative binary64 (odd 53 true q k 1074) (q * 2 ^ k) (2 ^ 1074) (odd_sign 53 true q k 1074) (mul-pos Q (pow_pos k))

-- ---- the pattern of the result

-- a digit more to look at changes nothing, where one of the others is set
tz_more : (d q : ℕ) → 0 < q → q < 2 ^ d → count_trailing_zeros (suc d) q ≡ count_trailing_zeros d q
unfolding count_trailing_zeros
tz_more zero q Q h = absurd (none q Q h)
  where
    none : (q : ℕ) → 0 < q → q < 1 → ⊥
    none q a b = omega arith
tz_more (suc d) q Q h = go (q % 2) refl (λ H. tz_more d (q / 2) H ((div-lt_iff_lt-mul (zero-lt-suc 1)).1 (subst (λ (x : ℕ). q < x) (pow-suc 2 d) h)))
  where
    half_pos : q % 2 ≡ 0 → 0 < q / 2
    half_pos e = omega arith

    go : (r : ℕ) → q % 2 ≡ r → (0 < q / 2 → count_trailing_zeros (suc d) (q / 2) ≡ count_trailing_zeros d (q / 2)) → under r (count_trailing_zeros (suc d) (q / 2)) ≡ under r (count_trailing_zeros d (q / 2))
    go zero e ih = ap suc (ih (half_pos e))
    go (suc r) e ih = refl

odd_more : (d : ℕ) (s : Bool) (q k l : ℕ) → 0 < q → q < 2 ^ d → odd (suc d) s q k l ≡ odd d s q k l
unfolding odd
odd_more d s zero k l Q h = absurd (lt_irrefl 0 Q)
odd_more d s (suc q) k l Q h = ap (λ (t : ℕ). fin s (suc q / 2 ^ t) (minus (k + t) l)) (tz_more d (suc q) Q h)

pub units_is : (s k : ℕ) → s * 2 ^ k < 2 ^ 2098 → units binary64 false s k ≡ odd 54 false s k 1074
unfolding units
units_is s k h = ap (λ (b : Bool). cond b (odd 54 false s k 1074) (inf false)) (is_true (ltb (s * 2 ^ k) (2 ^ 2098)) (lt→ltb (s * 2 ^ k) (2 ^ 2098) h))

pub units_pattern : (s k : ℕ) → 2 ^ 52 ≤ s → s < 2 ^ 53 → k ≤ 2045 → units binary64 false s k ≡ of_bits binary64 (k * 2 ^ 52 + s)
units_pattern s k l h K =
    let b = k * 2 ^ 52 + s in
    units_is s k (lt_of_lt_of_le (shl_lt 53 k h) (pow_mono (room k K)))
    ∙ odd_more 53 false s k 1074 (positive s l) h
    ∙ sym (normal_is b (low_end s k l) (high_end s k h K) ∙ ap (λ (x : ℕ). odd 53 false x (b / 2 ^ 52 - 1) 1074) (digits s k l h) ∙ ap (λ (x : ℕ). odd 53 false s x 1074) (field s k l h))
  where
    room : (k : ℕ) → k ≤ 2045 → 53 + k ≤ 2098
    room k K = omega arith

    positive : (s : ℕ) → 2 ^ 52 ≤ s → 0 < s
    positive s l = omega arith

    low_end : (s k : ℕ) → 2 ^ 52 ≤ s → 2 ^ 52 ≤ k * 2 ^ 52 + s
    low_end s k l = omega arith

    high_end : (s k : ℕ) → s < 2 ^ 53 → k ≤ 2045 → k * 2 ^ 52 + s < 2047 * 2 ^ 52
    high_end s k h K = omega arith

    digits : (s k : ℕ) → 2 ^ 52 ≤ s → s < 2 ^ 53 → 2 ^ 52 + (k * 2 ^ 52 + s) % 2 ^ 52 ≡ s
    digits s k l h = omega arith

    field : (s k : ℕ) → 2 ^ 52 ≤ s → s < 2 ^ 53 → (k * 2 ^ 52 + s) / 2 ^ 52 - 1 ≡ k
    field s k l h = omega arith
