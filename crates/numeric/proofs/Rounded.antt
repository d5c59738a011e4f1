-- `round` of a fraction with a sign: the result has that sign, is no NaN, keeps the order, and is
-- the fraction itself where the format holds it. Assumes nothing.
use Rattle.std.proofs.lemmas.Float.{T_from_true}
use Rattle.std.proofs.Common.{◌≡◌, ℕ, zero, suc, ◌+◌, ◌-◌, ◌*◌, ◌%◌, ◌^◌, ◌<◌, ◌≤◌, Bool, true, false, cond, ◌&&◌, T, eqb, ltb, leb, ℤ, pos, negsuc, sym, refl, ap, ◌∙◌, subst, zero-le, le_trans, le_of_eq, le_of_suc-le-suc, mul_assoc, mul_comm, le_antisymm, lt_of_mul-lt-mul_right, mul-lt-mul_of_pos_right, lt_of_not-le, zero-mul, mul-one, mul_right_comm, not-le_of_lt, le_of_mul-le-mul_right, ltb→lt, leb→le, pow_pos, pow-add}
use native.Mathlib.Nat.{eq_of_mul-eq-mul_right}
use lib.Pow.{pow-lt}
use lib.Ieee.{Float, nan, inf, fin, Format, prec, emax, low, up, down, odd, units, round, neg, le, fits, is_nan}
use lib.Ieee.Bits.{is_true}
use lib.Ieee.Digits.{back}
use lib.Ieee.Fits.{round_is, down_pos, and_l, and_r}
use lib.Ieee.Exact.{HasValue, round_exact}
use lib.Ieee.Order.{round_mono, drop, kept}
use lib.Ieee.Positive.{num, den}
use Rattle.numeric.specs.Double.{finite}
use Rattle.numeric.proofs.Finite.{never, sign}
use Rattle.numeric.proofs.Order.{Ordered, ordered→le, ordered_refl, zero_over, le_neg}

-- ---- a value, by its sign and its fraction

pub value_finite : (x : Float) (s : Bool) (a c : ℕ) → HasValue x s a c → finite x ≡ true
value_finite nan s a c h = absurd h
value_finite (inf t) s a c h = absurd h
value_finite (fin t m e) s a c h = refl

pub value_sign : (x : Float) (s : Bool) (a c : ℕ) → HasValue x s a c → sign x ≡ s
value_sign nan s a c h = absurd h
value_sign (inf t) s a c h = absurd h
value_sign (fin t m e) s a c h = h.0

pub value_fraction : (x : Float) (s : Bool) (a c : ℕ) → HasValue x s a c → num x * c ≡ a * den x
value_fraction nan s a c h = absurd h
value_fraction (inf t) s a c h = absurd h
value_fraction (fin t m e) s a c h = h.1

-- ---- the sign

odd_sign : (d : ℕ) (s : Bool) (q k l : ℕ) → sign (odd d s q k l) ≡ s
unfolding odd
odd_sign d s zero k l = refl
odd_sign d s (suc q) k l = refl

odd_number : (d : ℕ) (s : Bool) (q k l : ℕ) → is_nan (odd d s q k l) ≡ false
unfolding odd is_nan
odd_number d s zero k l = refl
odd_number d s (suc q) k l = refl

odd_neg : (d q k l : ℕ) → odd d true q k l ≡ neg (odd d false q k l)
unfolding odd neg
odd_neg d zero k l = refl
odd_neg d (suc q) k l = refl

units_sign : (f : Format) (s : Bool) (q k : ℕ) → sign (units f s q k) ≡ s
unfolding units
units_sign f s q k = go (ltb (q * 2 ^ k) (2 ^ (low f + suc (emax f))))
  where
    go : (b : Bool) → sign (cond b (odd (suc (prec f)) s q k (low f)) (inf s)) ≡ s
    go true = odd_sign (suc (prec f)) s q k (low f)
    go false = refl

units_number : (f : Format) (s : Bool) (q k : ℕ) → is_nan (units f s q k) ≡ false
unfolding units
units_number f s q k = go (ltb (q * 2 ^ k) (2 ^ (low f + suc (emax f))))
  where
    go : (b : Bool) → is_nan (cond b (odd (suc (prec f)) s q k (low f)) (inf s)) ≡ false
    go true = odd_number (suc (prec f)) s q k (low f)
    go false = unfold is_nan in refl

units_neg : (f : Format) (q k : ℕ) → units f true q k ≡ neg (units f false q k)
unfolding units
units_neg f q k = go (ltb (q * 2 ^ k) (2 ^ (low f + suc (emax f))))
  where
    go : (b : Bool) → cond b (odd (suc (prec f)) true q k (low f)) (inf true) ≡ neg (cond b (odd (suc (prec f)) false q k (low f)) (inf false))
    go true = odd_neg (suc (prec f)) q k (low f)
    go false = unfold neg in refl

-- `round`, as a number of units
round_units : (f : Format) (s : Bool) (a c : ℕ) → round f s a c ≡ units f s (kept (prec f) (a * 2 ^ low f) c) (drop (prec f) (a * 2 ^ low f) c)
round_units f s a c = round_is f s a c

pub round_sign : (f : Format) (s : Bool) (a c : ℕ) → sign (round f s a c) ≡ s
round_sign f s a c = ap sign (round_units f s a c) ∙ units_sign f s (kept (prec f) (a * 2 ^ low f) c) (drop (prec f) (a * 2 ^ low f) c)

pub round_number : (f : Format) (s : Bool) (a c : ℕ) → is_nan (round f s a c) ≡ false
round_number f s a c = ap is_nan (round_units f s a c) ∙ units_number f s (kept (prec f) (a * 2 ^ low f) c) (drop (prec f) (a * 2 ^ low f) c)

pub round_neg : (f : Format) (a c : ℕ) → round f true a c ≡ neg (round f false a c)
round_neg f a c =
    round_units f true a c
    ∙ units_neg f (kept (prec f) (a * 2 ^ low f) c) (drop (prec f) (a * 2 ^ low f) c)
    ∙ ap neg (sym (round_units f false a c))

-- ---- the order

-- what is not negative is not below what is
le_signs : (x y : Float) → is_nan x ≡ false → is_nan y ≡ false → sign x ≡ true → sign y ≡ false → le x y ≡ true
unfolding le is_nan
le_signs nan y p q s t = never p refl
le_signs (inf false) y p q s t = never refl s
le_signs (inf true) nan p q s t = never q refl
le_signs (inf true) (inf true) p q s t = never t refl
le_signs (inf true) (inf false) p q s t = refl
le_signs (inf true) (fin u n d) p q s t = refl
le_signs (fin false m e) y p q s t = never refl s
le_signs (fin true m e) nan p q s t = never q refl
le_signs (fin true m e) (inf true) p q s t = never t refl
le_signs (fin true m e) (inf false) p q s t = refl
le_signs (fin true m e) (fin true n d) p q s t = never t refl
le_signs (fin true m e) (fin false n d) p q s t = ordered→le (fin true m e) (fin false n d) refl refl tt

-- two zeros are level, whatever their signs
ordered_zeros : (s : Bool) (a : ℕ) (t : Bool) (b : ℕ) → a ≤ 0 → b ≤ 0 → Ordered s a t b
ordered_zeros false a false b h k = le_trans h zero-le
ordered_zeros false a true b h k = (h, k)
ordered_zeros true a false b h k = tt
ordered_zeros true a true b h k = le_trans k zero-le

zero_value : (f : Format) (s : Bool) (c : ℕ) → 0 < c → HasValue (round f s 0 c) s 0 c
zero_value f s c C = round_exact f s 0 c 0 0 C (pow_pos (prec f)) (pow_pos (low f + suc (emax f))) (zero-mul (2 ^ low f) ∙ sym (zero-mul c))

zero_rounds : (f : Format) (s : Bool) (a b d : ℕ) → 0 < b → 0 < d → a * d ≤ 0 → (finite (round f s a b) ≡ true) × ((k : ℕ) → num (round f s a b) * k ≤ 0)
zero_rounds f s a b d B D h =
    let z : 0 ≡ a = le_antisymm zero-le (le_of_mul-le-mul_right (le_trans h (le_of_eq (sym (zero-mul d)))) D) in
    let x = round f s a b in
    let v : HasValue x s 0 b = subst (λ (n : ℕ). HasValue (round f s n b) s 0 b) z (zero_value f s b B) in
    (value_finite x s 0 b v, λ k. zero_over (num x) b k B (le_of_eq (value_fraction x s 0 b v ∙ zero-mul (den x))))

pub round_ordered : (f : Format) (s : Bool) (a b : ℕ) (t : Bool) (c d : ℕ) → 0 < b → 0 < d → Ordered s (a * d) t (c * b) → le (round f s a b) (round f t c d) ≡ true
round_ordered f false a b false c d B D h = is_true (le (round f false a b) (round f false c d)) (round_mono f a b c d B D h)
round_ordered f false a b true c d B D h =
    let x = round f false a b in
    let y = round f true c d in
    let v = zero_rounds f false a b d B D h.0 in
    let w = zero_rounds f true c d b D B h.1 in
    ordered→le x y v.0 w.0 (ordered_zeros (sign x) (num x * den y) (sign y) (num y * den x) (v.1 (den y)) (w.1 (den x)))
round_ordered f true a b false c d B D h =
    le_signs (round f true a b) (round f false c d) (round_number f true a b) (round_number f false c d) (round_sign f true a b) (round_sign f false c d)
round_ordered f true a b true c d B D h =
    subst (λ (x : Float). le x (round f true c d) ≡ true) (sym (round_neg f a b))
    (subst (λ (y : Float). le (neg (round f false a b)) y ≡ true) (sym (round_neg f c d))
    (le_neg (round f false a b) (round f false c d) (is_true (le (round f false c d) (round f false a b)) (round_mono f c d a b D B h))))

-- ---- a fraction that the format holds

-- m * 2 ^ e is m * 2 ^ shift of the smallest values of the format
pub record Units (f : Format) (m : ℕ) (e : ℤ) : Type 0 where
  pub digits : m < 2 ^ prec f
  pub shift : ℕ
  pub equal : m * up e * 2 ^ low f ≡ m * 2 ^ shift * down e
  pub under : m * 2 ^ shift < 2 ^ (low f + suc (emax f))

exponent_le : (i j : ℕ) → 2 ^ i ≤ 2 ^ j → i ≤ j
exponent_le i j h = le_of_suc-le-suc (lt_of_not-le (λ (g : suc j ≤ i). not-le_of_lt (pow-lt g) h))

shift_by : (l m : ℕ) (e : ℤ) → down e ≤ 2 ^ l → (j : ℕ) × (m * up e * 2 ^ l ≡ m * 2 ^ j * down e)
shift_by l m (pos k) h = (k + l, mul_assoc m (2 ^ k) (2 ^ l) ∙ ap (λ (x : ℕ). m * x) (sym (pow-add 2 k l)) ∙ sym (mul-one (m * 2 ^ (k + l))))
shift_by l m (negsuc k) h =
    let j = l - suc k in (
      j,
      ap (λ (x : ℕ). x * 2 ^ l) (mul-one m)
          ∙ ap (λ (x : ℕ). m * 2 ^ x) (sym (back l (suc k) (exponent_le (suc k) l h)))
          ∙ ap (λ (x : ℕ). m * x) (pow-add 2 j (suc k))
          ∙ sym (mul_assoc m (2 ^ j) (2 ^ suc k)),
    )

shift_under : (f : Format) (m : ℕ) (e : ℤ) (j : ℕ) → m * up e * 2 ^ low f ≡ m * 2 ^ j * down e → m * up e < 2 ^ suc (emax f) * down e → m * 2 ^ j < 2 ^ (low f + suc (emax f))
shift_under f m e j p h =
    let l = 2 ^ low f in
    let q : 2 ^ suc (emax f) * down e * l ≡ 2 ^ (low f + suc (emax f)) * down e =
    mul_right_comm (2 ^ suc (emax f)) (down e) l ∙ ap (λ (x : ℕ). x * down e) (mul_comm (2 ^ suc (emax f)) l ∙ sym (pow-add 2 (low f) (suc (emax f)))) in
    lt_of_mul-lt-mul_right (down e) (subst (λ (x : ℕ). x < 2 ^ (low f + suc (emax f)) * down e) p (subst (λ (x : ℕ). m * up e * l < x) q (mul-lt-mul_of_pos_right h (pow_pos (low f)))))

pub shift_of : (f : Format) (s : Bool) (m : ℕ) (e : ℤ) → T (fits f (fin s m e)) → Units f m e
unfolding fits
shift_of f s zero e t = record { digits = pow_pos (prec f); shift = 0; equal = ap (λ (x : ℕ). x * 2 ^ low f) (zero-mul (up e)) ∙ zero-mul (2 ^ low f) ∙ sym (zero-mul (down e)); under = pow_pos (low f + suc (emax f)) }
shift_of f s (suc m) e t =
    let a : Bool = eqb (suc m % 2) 1 in
    let b : Bool = ltb (suc m) (2 ^ prec f) in
    let c : Bool = leb (down e) (2 ^ low f) in
    let d : Bool = ltb (suc m * up e) (2 ^ suc (emax f) * down e) in
    let l = shift_by (low f) (suc m) e (leb→le (down e) (2 ^ low f) (and_r (a && b) c (and_l (a && b && c) d t))) in
    record {
      digits = ltb→lt (suc m) (2 ^ prec f) (and_r a b (and_l (a && b) c (and_l (a && b && c) d t)));
      shift = l.0;
      equal = l.1;
      under = shift_under f (suc m) e l.0 l.1 (ltb→lt (suc m * up e) (2 ^ suc (emax f) * down e) (and_r (a && b && c) d t));
    }

-- the format holds a / c, if it holds a float x that is a / c in size
pub held : (f : Format) (x : Float) (a c : ℕ) → 0 < c → finite x ≡ true → fits f x ≡ true → num x * c ≡ a * den x → HasValue (round f (sign x) a c) (sign x) a c
held f nan a c C p h e = never refl p
held f (inf s) a c C p h e = never refl p
held f (fin s m e) a c C p h v =
    let l = 2 ^ low f in
    let u = shift_of f s m e (T_from_true _ h) in
    let j = u.shift in
    round_exact f s a c m j C u.digits u.under
    (eq_of_mul-eq-mul_right (down e) (down_pos e) (a * l) (m * 2 ^ j * c)
    (mul_right_comm a l (down e) ∙ ap (λ (x : ℕ). x * l) (sym v) ∙ mul_right_comm (m * up e) c l ∙ ap (λ (x : ℕ). x * c) u.equal ∙ mul_right_comm (m * 2 ^ j) (down e) c))

-- two fractions of one value
level_value : (x y : Float) (a c : ℕ) → 0 < c → num x * c ≡ a * den x → num y * c ≡ a * den y → num x * den y ≡ num y * den x
level_value x y a c C p q =
    eq_of_mul-eq-mul_right c C (num x * den y) (num y * den x)
    (mul_right_comm (num x) (den y) c ∙ ap (λ (z : ℕ). z * den y) p ∙ mul_right_comm a (den x) (den y) ∙ ap (λ (z : ℕ). z * den x) (sym q) ∙ mul_right_comm (num y) c (den x))

-- so `round` gives it back
pub le_held : (f : Format) (x : Float) (a c : ℕ) → 0 < c → finite x ≡ true → fits f x ≡ true → num x * c ≡ a * den x → le x (round f (sign x) a c) ≡ true
le_held f x a c C p h v =
    let y = round f (sign x) a c in
    let w = held f x a c C p h v in
    let e : num x * den y ≡ num y * den x = level_value x y a c C v (value_fraction y (sign x) a c w) in
    ordered→le x y p (value_finite y (sign x) a c w)
    (subst (λ (t : Bool). Ordered (sign x) (num x * den y) t (num y * den x)) (sym (value_sign y (sign x) a c w))
    (subst (λ (b : ℕ). Ordered (sign x) (num x * den y) (sign x) b) e (ordered_refl (sign x) (num x * den y))))
