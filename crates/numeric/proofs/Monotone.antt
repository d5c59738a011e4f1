-- Rounding keeps the order, so a sum with a term that is not negative is no smaller than the other
-- term. In particular a × s × s + c is at least c, for an a that is not negative. Assumes nothing.
use Rattle.std.proofs.Common.{◌≡◌, ℕ, ◌+◌, ◌-◌, ◌*◌, ◌<◌, ◌≤◌, Bool, true, false, cond, not, ◌&&◌, T, ltb, ℤ, sym, refl, ap, ◌∙◌, subst, zero-le, le_trans, le_of_eq, mul-le-mul_right, mul_assoc, mul-pos, zero-mul, not-le_of_lt, arith, ltb→lt, nltb→le}
use lib.Ieee.{Float, nan, inf, fin, Format, binary64, unlike, up, down, round, sum, add, mul, le, fits}
use lib.Ieee.Fits.{down_pos}
use lib.Ieee.Positive.{num, den}
use Rattle.numeric.specs.Double.{plus, times, plus_zero, finite}
use Rattle.numeric.proofs.Finite.{never, sign, plus_finite, times_finite}
use Rattle.numeric.proofs.Order.{Ordered, le→ordered, ordered→le, zero_over, le_through}
use Rattle.numeric.proofs.Rounded.{round_sign, round_ordered, le_held}

-- ---- signs of products

pub times_sign : (x y : Float) → finite (times x y) ≡ true → sign (times x y) ≡ unlike (sign x) (sign y)
unfolding mul
times_sign nan y h = never refl h
times_sign (inf s) nan h = never refl h
times_sign (inf s) (inf t) h = refl
times_sign (inf s) (fin t n d) h = never refl (times_finite (inf s) (fin t n d) h).0
times_sign (fin s m e) nan h = never refl h
times_sign (fin s m e) (inf t) h = never refl (times_finite (fin s m e) (inf t) h).1
times_sign (fin s m e) (fin t n d) h = round_sign binary64 (unlike s t) (m * up e * (n * up d)) (down e * down d)

-- a × s × s has the sign of a
same_again : (s t : Bool) → unlike (unlike s t) t ≡ s
same_again true true = refl
same_again true false = refl
same_again false true = refl
same_again false false = refl

pub square_sign : (a s : Float) → finite (times (times a s) s) ≡ true → sign (times (times a s) s) ≡ sign a
square_sign a s h =
    times_sign (times a s) s h
    ∙ ap (λ (t : Bool). unlike t (sign s)) (times_sign a s (times_finite (times a s) s h).0)
    ∙ same_again (sign a) (sign s)

-- ---- a finite float whose sign is not set is at least 0

pub zero_le_sign : (x : Float) → finite x ≡ true → sign x ≡ false → le plus_zero x ≡ true
zero_le_sign x h p =
    ordered→le plus_zero x refl h
    (subst (λ (s : Bool). Ordered false (num plus_zero * den x) s (num x * den plus_zero)) (sym p) (le_trans (le_of_eq (zero-mul (den x))) zero-le))

-- ---- sums

plus_is : (s : Bool) (m : ℕ) (e : ℤ) (t : Bool) (n : ℕ) (d : ℤ) → plus (fin s m e) (fin t n d) ≡ sum binary64 s (m * up e * down d) t (n * up d * down e) (down e * down d)
unfolding add
plus_is s m e t n d = refl

-- adding ±a / c, which is not negative, to ±b / c
sum_grows : (f : Format) (s : Bool) (a : ℕ) (t : Bool) (b c : ℕ) → 0 < c → Ordered false 0 s a → le (round f t b c) (sum f s a t b c) ≡ true
unfolding sum
sum_grows f false a false b c C h = round_ordered f false b c false (a + b) c C C (mul-le-mul_right c (omega arith))
sum_grows f true a true b c C h = round_ordered f true b c true (a + b) c C C (mul-le-mul_right c (omega arith))
sum_grows f false a true b c C h = go (ltb a b)
  where
    go : (x : Bool) → le (round f true b c) (cond x (round f true (b - a) c) (round f false (a - b) c)) ≡ true
    go true = round_ordered f true b c true (b - a) c C C (mul-le-mul_right c (omega arith))
    go false = round_ordered f true b c false (a - b) c C C tt
sum_grows f true a false b c C h = go (ltb a b) (ltb b a) (nltb→le a b) (ltb→lt b a)
  where
    go : (x y : Bool) → (T (not x) → b ≤ a) → (T y → b < a) → le (round f false b c) (cond x (round f false (b - a) c) (round f (true && y) (a - b) c)) ≡ true
    go true y p q = round_ordered f false b c false (b - a) c C C (mul-le-mul_right c (omega arith))
    go false true p q = let k : b < a = q tt in absurd (not-le_of_lt k (omega arith))
    go false false p q = let k : b ≤ a = p tt in round_ordered f false b c false (a - b) c C C (mul-le-mul_right c (omega arith))

-- a term that is not negative, -0 included
term : (s : Bool) (x k : ℕ) → Ordered false (0 * k) s (x * 1) → (d : ℕ) → Ordered false 0 s (x * d)
term false x k h d = zero-le
term true x k h d = (zero-le, zero_over x 1 d (omega arith) h.1)

pub le_plus : (t c : Float) → le plus_zero t ≡ true → fits binary64 c ≡ true → finite (plus t c) ≡ true → le c (plus t c) ≡ true
le_plus nan c z p h = never refl (plus_finite nan c h).0
le_plus (inf s) c z p h = never refl (plus_finite (inf s) c h).0
le_plus (fin s m e) nan z p h = never refl (plus_finite (fin s m e) nan h).1
le_plus (fin s m e) (inf t) z p h = never refl (plus_finite (fin s m e) (inf t) h).1
le_plus (fin s m e) (fin t n d) z p h =
    let a = m * up e * down d in
    let b = n * up d * down e in
    let c = down e * down d in
    let C : 0 < c = mul-pos (down_pos e) (down_pos d) in
    subst (λ (x : Float). le (fin t n d) x ≡ true) (sym (plus_is s m e t n d))
    (le_through (fin t n d) (round binary64 t b c) (sum binary64 s a t b c)
    (le_held binary64 (fin t n d) b c C refl p (sym (mul_assoc (n * up d) (down e) (down d))))
    (sum_grows binary64 s a t b c C (term s (m * up e) (down e) (le→ordered plus_zero (fin s m e) refl refl z) (down d))))

-- ---- the variance a × s × s + c, where it is finite, is at least c

pub variance_ge : (a s c : Float) → sign a ≡ false → fits binary64 c ≡ true → finite (plus (times (times a s) s) c) ≡ true → le c (plus (times (times a s) s) c) ≡ true
variance_ge a s c p k h =
    let t = times (times a s) s in
    let F : finite t ≡ true = (plus_finite t c h).0 in
    le_plus t c (zero_le_sign t F (square_sign a s F ∙ p)) k h
