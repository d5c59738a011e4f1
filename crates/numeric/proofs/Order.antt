-- The order of finite floats is that of the fractions ±`num` / `den` that they stand for. So `le`
-- is transitive, and `neg` turns it round. Assumes nothing.
use Rattle.std.proofs.Common.{◌≡◌, ℕ, ◌+◌, ◌*◌, ◌<◌, ◌≤◌, Bool, true, false, not, ◌&&◌, ◌||◌, T, eqb, ltb, ◌⊎◌, sym, refl, inl, inr, le_trans, le_of_eq, le_refl, le_of_lt, mul-le-mul_right, eq-zero-or-pos, eq-or-lt_of_le, zero-mul, le_of_mul-le-mul_right, arith, eqb→eq, ltb→lt, lt→ltb}
use Rattle.std.proofs.lemmas.Float.{T_from_true, le_trans as float_le_trans}
use mathlib.Core.Bool.{beq}
use lib.Ieee.{Float, nan, inf, fin, up, down, below, level, le, neg}
use lib.Ieee.Bits.{is_true}
use lib.Ieee.Fits.{and_i, and_l, and_r, eq→eqb}
use lib.Ieee.Positive.{num, den}
use Rattle.numeric.specs.Double.{finite}
use Rattle.numeric.proofs.Finite.{never, sign}

-- ---- ±a ≤ ±b, by the signs: -a ≤ b whatever a and b are, and a ≤ -b for two zeros alone

abbrev pub Ordered : Bool → ℕ → Bool → ℕ → Type 0
Ordered false a false b = a ≤ b
Ordered false a true b = (a ≤ 0) × (b ≤ 0)
Ordered true a false b = Unit {0}
Ordered true a true b = b ≤ a

or_l : (a b : Bool) → T a → T (a || b)
or_l true b t = tt
or_l false b t = absurd t

or_r : (a b : Bool) → T b → T (a || b)
or_r true b t = tt
or_r false b t = t

or_split : (a b : Bool) → T (a || b) → T a ⊎ T b
or_split true b t = inl tt
or_split false b t = inr t

both_zero : (a b : ℕ) → a + b ≡ 0 → (a ≡ b) × (a ≡ 0)
both_zero a b h = (omega arith, omega arith)

ordered→below : (s : Bool) (a : ℕ) (t : Bool) (b : ℕ) → Ordered s a t b → T (below s a t b || level s a t b)
ordered→below false a false b h = elim (eq-or-lt_of_le h) [
  | inl p ↦ or_r (ltb a b) (eqb a b && (true || eqb a 0)) (and_i (eqb a b) true (eq→eqb p) tt)
  | inr q ↦ or_l (ltb a b) (eqb a b && (true || eqb a 0)) (lt→ltb a b q)
]
ordered→below false a true b h =
    let p : a ≡ b = omega arith in
    let q : a ≡ 0 = omega arith in
    and_i (eqb a b) (false || eqb a 0) (eq→eqb p) (eq→eqb q)
ordered→below true a false b h = elim (eq-zero-or-pos (a + b)) [
  | inl p ↦ or_r (ltb 0 (a + b)) (eqb a b && (false || eqb a 0)) (and_i (eqb a b) (false || eqb a 0) (eq→eqb (both_zero a b p).0) (eq→eqb (both_zero a b p).1))
  | inr q ↦ or_l (ltb 0 (a + b)) (eqb a b && (false || eqb a 0)) (lt→ltb 0 (a + b) q)
]
ordered→below true a true b h = elim (eq-or-lt_of_le h) [
  | inl p ↦ or_r (ltb b a) (eqb a b && (true || eqb a 0)) (and_i (eqb a b) true (eq→eqb (sym p)) tt)
  | inr q ↦ or_l (ltb b a) (eqb a b && (true || eqb a 0)) (lt→ltb b a q)
]

below→ordered : (s : Bool) (a : ℕ) (t : Bool) (b : ℕ) → T (below s a t b || level s a t b) → Ordered s a t b
below→ordered false a false b h = elim (or_split (ltb a b) (eqb a b && (true || eqb a 0)) h) [
  | inl p ↦ le_of_lt (ltb→lt a b p)
  | inr q ↦ le_of_eq (eqb→eq a b (and_l (eqb a b) true q))
]
below→ordered false a true b h =
    let p : a ≡ b = eqb→eq a b (and_l (eqb a b) (eqb a 0) h) in
    let q : a ≡ 0 = eqb→eq a 0 (and_r (eqb a b) (eqb a 0) h) in
    (omega arith, omega arith)
below→ordered true a false b h = tt
below→ordered true a true b h = elim (or_split (ltb b a) (eqb a b && (true || eqb a 0)) h) [
  | inl p ↦ le_of_lt (ltb→lt b a p)
  | inr q ↦ le_of_eq (sym (eqb→eq a b (and_l (eqb a b) true q)))
]

-- ---- `le` of two finite floats

pub le→ordered : (x y : Float) → finite x ≡ true → finite y ≡ true → le x y ≡ true → Ordered (sign x) (num x * den y) (sign y) (num y * den x)
unfolding le
le→ordered nan y p q h = never refl p
le→ordered (inf s) y p q h = never refl p
le→ordered (fin s m e) nan p q h = never refl q
le→ordered (fin s m e) (inf t) p q h = never refl q
le→ordered (fin s m e) (fin t n d) p q h = below→ordered s (m * up e * down d) t (n * up d * down e) (T_from_true _ h)

pub ordered→le : (x y : Float) → finite x ≡ true → finite y ≡ true → Ordered (sign x) (num x * den y) (sign y) (num y * den x) → le x y ≡ true
unfolding le
ordered→le nan y p q h = never refl p
ordered→le (inf s) y p q h = never refl p
ordered→le (fin s m e) nan p q h = never refl q
ordered→le (fin s m e) (inf t) p q h = never refl q
ordered→le (fin s m e) (fin t n d) p q h =
    is_true (below s (m * up e * down d) t (n * up d * down e) || level s (m * up e * down d) t (n * up d * down e))
    (ordered→below s (m * up e * down d) t (n * up d * down e) h)

pub ordered_refl : (s : Bool) (a : ℕ) → Ordered s a s a
ordered_refl false a = le_refl a
ordered_refl true a = le_refl a

-- a fraction x / q that is 0 is 0 over any divisor
pub zero_over : (x q r : ℕ) → 0 < q → x * q ≤ 0 → x * r ≤ 0
zero_over x q r Q h =
    let z : x ≤ 0 = le_of_mul-le-mul_right (le_trans h (le_of_eq (sym (zero-mul q)))) Q in
    le_trans (mul-le-mul_right r z) (le_of_eq (zero-mul r))

-- ---- `le` is transitive, infinities included

pub le_through : (x y z : Float) → le x y ≡ true → le y z ≡ true → le x z ≡ true
le_through x y z h k = is_true (le x z) (float_le_trans x y z (T_from_true _ h) (T_from_true _ k))

-- ---- `neg` turns the order round

ordered_neg : (s : Bool) (a : ℕ) (t : Bool) (b : ℕ) → Ordered t b s a → Ordered (not s) a (not t) b
ordered_neg true a true b h = h
ordered_neg true a false b h = (h.1, h.0)
ordered_neg false a true b h = tt
ordered_neg false a false b h = h

turned : (s t : Bool) → T (t && not s || beq t s) → T (not s && not (not t) || beq (not s) (not t))
turned true true h = tt
turned true false h = absurd h
turned false true h = tt
turned false false h = tt

twice : (t : Bool) → T (t || false) → T (not (not t) || false)
twice true h = tt
twice false h = absurd h

pub le_neg : (x y : Float) → le y x ≡ true → le (neg x) (neg y) ≡ true
unfolding le neg
le_neg nan nan h = never refl h
le_neg nan (inf t) h = never refl h
le_neg nan (fin t n d) h = never refl h
le_neg (inf s) nan h = never refl h
le_neg (inf s) (inf t) h = is_true (not s && not (not t) || beq (not s) (not t)) (turned s t (T_from_true _ h))
le_neg (inf s) (fin t n d) h = h
le_neg (fin s m e) nan h = never refl h
le_neg (fin s m e) (inf t) h = is_true (not (not t) || false) (twice t (T_from_true _ h))
le_neg (fin s m e) (fin t n d) h =
    ordered→le (fin (not s) m e) (fin (not t) n d) refl refl
    (ordered_neg s (m * up e * down d) t (n * up d * down e) (le→ordered (fin t n d) (fin s m e) refl refl h))
