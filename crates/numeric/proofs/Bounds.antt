-- Bounds by powers of two. `Within k x` says that x is finite and that |x| ≤ 2 ^ k, exactly. A
-- power of two is a double and rounding keeps the order, so the bound of an exact result is the
-- bound of the rounded one. Assumes nothing.
use Rattle.std.proofs.lemmas.Float.{T_from_true}
use Rattle.std.proofs.Common.{◌≡◌, ℕ, suc, ◌+◌, ◌-◌, ◌*◌, ◌^◌, ◌<◌, ◌≤◌, Bool, true, false, cond, ◌&&◌, T, ltb, pos, negsuc, sym, refl, ap, ◌∙◌, subst, zero-le, le_trans, le_of_eq, mul-le-mul_right, zero-lt-suc, mul_assoc, mul_comm, mul-le-mul, mul-pos, one-mul, mul-one, mul_right_comm, le_of_mul-le-mul_right, arith, pow_mono, pow-add}
use native.Mathlib.Nat.{mul-mul-mul_comm}
use mathlib.Core.Bool.{beq}
use lib.Pow.{pow-lt}
use lib.Ieee.{Float, nan, inf, fin, Format, binary64, prec, emax, low, unlike, up, down, round, neg, sum, add, sub, mul, le}
use lib.Ieee.Bits.{is_true}
use lib.Ieee.Fits.{two, down_pos}
use lib.Ieee.Exact.{HasValue, round_exact}
use lib.Ieee.Order.{round_mono}
use lib.Ieee.Positive.{num, den, den_pos, positive, between}
use Rattle.numeric.specs.Double.{plus, minus, times, finite}
use Rattle.numeric.proofs.Finite.{never, sign, neg_finite}
use Rattle.numeric.proofs.Order.{Ordered, le→ordered}
use Rattle.numeric.proofs.Rounded.{value_finite, value_fraction, round_sign, round_neg}

pub record Within (k : ℕ) (x : Float) : Type 0 where
  pub is_finite : finite x ≡ true
  pub at_most : num x ≤ 2 ^ k * den x

pub within_mono : {k l : ℕ} {x : Float} → Within k x → k ≤ l → Within l x
within_mono {x} w h = record { is_finite = w.is_finite; at_most = le_trans w.at_most (mul-le-mul_right (den x) (pow_mono h)) }

num_neg : (x : Float) → num (neg x) ≡ num x
unfolding neg
num_neg nan = refl
num_neg (inf s) = refl
num_neg (fin s m e) = refl

den_neg : (x : Float) → den (neg x) ≡ den x
unfolding neg
den_neg nan = refl
den_neg (inf s) = refl
den_neg (fin s m e) = refl

pub within_neg : {k : ℕ} {x : Float} → Within k x → Within k (neg x)
within_neg {k} {x} w = record {
  is_finite = neg_finite x ∙ w.is_finite;
  at_most = le_trans (le_of_eq (num_neg x)) (le_trans w.at_most (le_of_eq (ap (λ (n : ℕ). 2 ^ k * n) (sym (den_neg x)))));
}

-- ---- a rounded fraction

one_below : (p : ℕ) → 2 ≤ p → 1 < 2 ^ p
one_below p h = pow-lt {i = 0} (omega arith)

power_value : (f : Format) (k : ℕ) → k ≤ emax f → HasValue (round f false (2 ^ k) 1) false (2 ^ k) 1
power_value f k h =
    round_exact f false (2 ^ k) 1 1 (k + low f) (zero-lt-suc 0) (one_below (prec f) (two f))
    (subst (λ (x : ℕ). x < 2 ^ (low f + suc (emax f))) (sym (one-mul (2 ^ (k + low f)))) (pow-lt (room (emax f) (low f) k h)))
    (sym (pow-add 2 k (low f)) ∙ sym (one-mul (2 ^ (k + low f))) ∙ sym (mul-one (1 * 2 ^ (k + low f))))
  where
    room : (t l k : ℕ) → k ≤ t → k + l < l + suc t
    room t l k h = omega arith

-- what is not negative and is at most a finite float is finite
finite_under : (x y : Float) → sign x ≡ false → finite y ≡ true → le x y ≡ true → finite x ≡ true
unfolding le
finite_under nan y p q h = never refl h
finite_under (inf true) y p q h = never p refl
finite_under (inf false) nan p q h = never refl q
finite_under (inf false) (inf t) p q h = never refl q
finite_under (inf false) (fin t n d) p q h = never refl h
finite_under (fin s m e) y p q h = refl

within_positive : (f : Format) (a c k : ℕ) → 0 < c → k ≤ emax f → a ≤ 2 ^ k * c → Within k (round f false a c)
within_positive f a c k C K h =
    let x = round f false a c in
    let y = round f false (2 ^ k) 1 in
    let v = power_value f k K in
    let p : sign x ≡ false = round_sign f false a c in
    let q : finite y ≡ true = value_finite y false (2 ^ k) 1 v in
    let l : le x y ≡ true = is_true (le x y) (round_mono f a c (2 ^ k) 1 C (zero-lt-suc 0) (le_trans (le_of_eq (mul-one a)) h)) in
    let F : finite x ≡ true = finite_under x y p q l in
    let o : num x * den y ≤ num y * den x =
    subst (λ (s : Bool). Ordered s (num x * den y) false (num y * den x)) p
    (subst (λ (s : Bool). Ordered (sign x) (num x * den y) s (num y * den x)) (round_sign f false (2 ^ k) 1) (le→ordered x y F q l)) in
    let e : num y ≡ 2 ^ k * den y = sym (mul-one (num y)) ∙ value_fraction y false (2 ^ k) 1 v in
    record {
      is_finite = F;
      at_most = le_of_mul-le-mul_right (le_trans o (le_of_eq (ap (λ (n : ℕ). n * den x) e ∙ mul_right_comm (2 ^ k) (den y) (den x)))) (den_pos y);
    }

pub round_within : (f : Format) (s : Bool) (a c k : ℕ) → 0 < c → k ≤ emax f → a ≤ 2 ^ k * c → Within k (round f s a c)
round_within f false a c k C K h = within_positive f a c k C K h
round_within f true a c k C K h = subst (λ (x : Float). Within k x) (sym (round_neg f a c)) (within_neg (within_positive f a c k C K h))

-- ---- products

times_bound : (i j a b c d : ℕ) → a ≤ 2 ^ i * c → b ≤ 2 ^ j * d → a * b ≤ 2 ^ (i + j) * (c * d)
times_bound i j a b c d h k = le_trans (mul-le-mul h k) (le_of_eq (mul-mul-mul_comm (2 ^ i) c (2 ^ j) d ∙ ap (λ (x : ℕ). x * (c * d)) (sym (pow-add 2 i j))))

times_at : (i j : ℕ) (x y : Float) → Within i x → Within j y → i + j ≤ 1023 → Within (i + j) (times x y)
unfolding mul
times_at i j nan y w v h = never refl w.is_finite
times_at i j (inf s) y w v h = never refl w.is_finite
times_at i j (fin s m e) nan w v h = never refl v.is_finite
times_at i j (fin s m e) (inf t) w v h = never refl v.is_finite
times_at i j (fin s m e) (fin t n d) w v h =
    round_within binary64 (unlike s t) (m * up e * (n * up d)) (down e * down d) (i + j) (mul-pos (down_pos e) (down_pos d)) h
    (times_bound i j (m * up e) (n * up d) (down e) (down d) w.at_most v.at_most)

pub times_within : {i j : ℕ} {x y : Float} → Within i x → Within j y → i + j ≤ 1023 → Within (i + j) (times x y)
times_within {i} {j} {x} {y} w v h = times_at i j x y w v h

-- ---- sums and differences

within_cond : {k : ℕ} (b : Bool) {x y : Float} → Within k x → Within k y → Within k (cond b x y)
within_cond true w v = w
within_cond false w v = v

doubled : (p c q : ℕ) → q ≡ p * 2 → q * c ≡ p * c + p * c
doubled p c q h = ap (λ (x : ℕ). x * c) h ∙ mul_right_comm p 2 c ∙ twice (p * c)
  where
    twice : (n : ℕ) → n * 2 ≡ n + n
    twice n = omega arith

sum_within : (s : Bool) (a : ℕ) (t : Bool) (b c k : ℕ) → 0 < c → k + 1 ≤ 1023 → a ≤ 2 ^ k * c → b ≤ 2 ^ k * c → Within (k + 1) (sum binary64 s a t b c)
unfolding sum
sum_within s a t b c k C K h l =
    let e : 2 ^ (k + 1) * c ≡ 2 ^ k * c + 2 ^ k * c = doubled (2 ^ k) c (2 ^ (k + 1)) (pow-add 2 k 1) in
    within_cond (beq s t) (round_within binary64 s (a + b) c (k + 1) C K (omega arith))
    (within_cond (ltb a b) (round_within binary64 t (b - a) c (k + 1) C K (omega arith)) (round_within binary64 (s && ltb b a) (a - b) c (k + 1) C K (omega arith)))

plus_at : (k : ℕ) (x y : Float) → Within k x → Within k y → k + 1 ≤ 1023 → Within (k + 1) (plus x y)
unfolding add
plus_at k nan y w v h = never refl w.is_finite
plus_at k (inf s) y w v h = never refl w.is_finite
plus_at k (fin s m e) nan w v h = never refl v.is_finite
plus_at k (fin s m e) (inf t) w v h = never refl v.is_finite
plus_at k (fin s m e) (fin t n d) w v h =
    sum_within s (m * up e * down d) t (n * up d * down e) (down e * down d) k (mul-pos (down_pos e) (down_pos d)) h
    (le_trans (mul-le-mul_right (down d) w.at_most) (le_of_eq (mul_assoc (2 ^ k) (down e) (down d))))
    (le_trans (mul-le-mul_right (down e) v.at_most) (le_of_eq (mul_assoc (2 ^ k) (down d) (down e) ∙ ap (λ (x : ℕ). 2 ^ k * x) (mul_comm (down d) (down e)))))

pub plus_within : {k : ℕ} {x y : Float} → Within k x → Within k y → k + 1 ≤ 1023 → Within (k + 1) (plus x y)
plus_within {k} {x} {y} w v h = plus_at k x y w v h

pub minus_within : {k : ℕ} {x y : Float} → Within k x → Within k y → k + 1 ≤ 1023 → Within (k + 1) (minus x y)
unfolding sub
minus_within {k} {x} {y} w v h = plus_at k x (neg y) w (within_neg v) h

-- ---- a zero; a sum of products, term by term; and a × s × s + c

pub zero_within : (k : ℕ) (s : Bool) → Within k (fin s 0 (pos 0))
zero_within k s = record { is_finite = refl; at_most = zero-le }

pub dot_within : {i j : ℕ} (k : ℕ) {z x y : Float} → Within (i + j + k) z → Within i x → Within j y → i + j + suc k ≤ 1023 → Within (i + j + suc k) (plus z (times x y))
dot_within {i} {j} k {z} {x} {y} w v u h =
    let e : i + j + k + 1 ≡ i + j + suc k = omega arith in
    let t : Within (i + j + k) (times x y) = within_mono (times_within v u (omega arith)) (omega arith) in
    subst (λ (n : ℕ). Within n (plus z (times x y))) e (plus_within w t (omega arith))

pub variance_within : {i j : ℕ} {a s c : Float} → Within i a → Within j s → Within i c → i + j + j + 1 ≤ 1023 → Within (i + j + j + 1) (plus (times (times a s) s) c)
variance_within w v u h = plus_within (times_within (times_within w v (omega arith)) v (omega arith)) (within_mono u (omega arith)) h

-- ---- a float between two powers of two

positive_within : (k : ℕ) (x : Float) → T (positive x) → le x (fin false 1 (pos k)) ≡ true → Within k x
positive_within k nan p h = absurd p
positive_within k (inf s) p h = absurd p
positive_within k (fin true m e) p h = absurd p
positive_within k (fin false m e) p h = record {
  is_finite = refl;
  at_most = le_trans (le_of_eq (sym (mul-one (m * up e)))) (le_trans (le→ordered (fin false m e) (fin false 1 (pos k)) refl refl h) (le_of_eq (ap (λ (x : ℕ). x * down e) (one-mul (2 ^ k)))));
}

pub range_within : (j k : ℕ) (x : Float) → le (fin false 1 (negsuc j)) x ≡ true → le x (fin false 1 (pos k)) ≡ true → Within k x
range_within j k x l h = positive_within k x (between (fin false 1 (negsuc j)) x (fin false 1 (pos k)) tt tt (T_from_true _ l) (T_from_true _ h)) h
