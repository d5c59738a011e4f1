-- A number of two words divided word by word, and a power of five divided out of it in parts: what
-- one more part does to the quotient, and to whether all was exact. Assumes nothing.
use mathlib.Core.Path.{◌≡◌, refl, sym, ap, ap₂, ◌∙◌, subst}
use mathlib.Core.Logic.{inl, inr}
use Prim.Native.Nat.{ℕ, ◌+◌, ◌*◌, ◌/◌, ◌%◌, ◌^◌, ◌≤◌, ◌<◌}
use native.Mathlib.Nat.{lt_of_le_of_lt, zero-lt-suc, one-le-pow, pow-le-pow_right, add-mul, mul_comm, mul_right_comm, zero-mul, mul-pos, div-add-mod', div-div-eq-div-mul, eq-zero-or-pos}
use native.Mathlib.Omega.{arith}
use lib.Dec.{lit<}
use lib.Arith.{digits_div, digits_mod, mod-mul}
use lib.Pow.{pow-add}
use Rattle.std.specs.Prelude.{Bool, not, ◌||◌, eqb, nat_lt}
use Rattle.std.proofs.Common.{lt-ltb}
use mathlib.Core.Bool.{or-true, or-false}
use native.Mathlib.Nat.{zero-add}
use Rattle.decimal.specs.declared.divide.Quotient.{Quotient}
use Rattle.decimal.specs.Inner.Steps.{wide, IsDivided, IsDividedOnce, IsQuotient}
use Rattle.decimal.proofs.Zero.{not_zero}

pub five_pos : (k : ℕ) → 0 < 5 ^ k
five_pos k = one-le-pow k 5 (zero-lt-suc 4)

pub five_short : (k : ℕ) → k ≤ 13 → 5 ^ k < 2 ^ 32
five_short k h = lt_of_le_of_lt (pow-le-pow_right (zero-lt-suc 4) h) (lit< tt)

-- ---- the upper word divided by itself, and then the lower with what is left of it
module _ (hi lo by l r : ℕ) (is : l * by + r ≡ hi % by * 2 ^ 64 + lo) (less : r < by) where
  both : wide (hi / by) l * by + r ≡ wide hi lo
  both =
      let h : hi / by * by + hi % by ≡ hi = div-add-mod' hi by in
      let m : wide (hi / by) l * by ≡ hi / by * by * 2 ^ 64 + l * by = add-mul (hi / by * 2 ^ 64) l by ∙ ap (λ (z : ℕ). z + l * by) (mul_right_comm (hi / by) (2 ^ 64) by) in
      omega arith

  pub words_div : wide (hi / by) l ≡ wide hi lo / by
  words_div = sym (digits_div (wide (hi / by) l) less) ∙ ap (λ (z : ℕ). z / by) both

  pub words_mod : r ≡ wide hi lo % by
  words_mod = sym (digits_mod (wide (hi / by) l) less) ∙ ap (λ (z : ℕ). z % by) both

pub once : (q : Quotient) (by l r : ℕ) (b : Bool) → IsDivided (wide (q.whole.high % by) q.whole.low) by (record { quotient = l; rest = r })
    → b ≡ (q.inexact || not (eqb r 0))
    → IsDividedOnce q by (record { whole = record { high = q.whole.high / by; low = l }; inexact = b })
once q by l r b d e = record {
  whole = words_div q.whole.high q.whole.low by l r d.whole d.less;
  sticky =
      e
      ∙ ap (λ (t : Bool). q.inexact || t)
      (not_zero r ∙ ap (λ (z : ℕ). nat_lt 0 z) (words_mod q.whole.high q.whole.low by l r d.whole d.less));
}

-- ---- d is divided out of n, and one more factor
any : (a b d : ℕ) → 0 < d → (nat_lt 0 b || nat_lt 0 a) ≡ nat_lt 0 (a * d + b)
any a b d D =
    elim (eq-zero-or-pos a) [
      | inl z ↦ rw (z, zero-mul, zero-add, or-false) refl
      | inr h ↦ let p : 0 < a * d = mul-pos h D in rw (lt-ltb 0 a h, lt-ltb 0 (a * d + b) (omega arith), or-true) refl
    ]

pub once_more : (n d by : ℕ) (q r : Quotient) → 0 < d → 0 < by → IsQuotient n d q → IsDividedOnce q by r → IsQuotient n (d * by) r
once_more n d by q r D B i o = record {
  whole = o.whole ∙ ap (λ (z : ℕ). z / by) i.whole ∙ div-div-eq-div-mul n d by;
  sticky =
      o.sticky
      ∙ ap₂ (λ (x : Bool) (y : ℕ). x || nat_lt 0 (y % by)) i.sticky i.whole
      ∙ any (n / d % by) (n % d) d D
      ∙ ap (λ (z : ℕ). nat_lt 0 z) (sym (ap (λ (z : ℕ). n % z) (mul_comm d by) ∙ mod-mul n B D));
}

-- ---- 5 ^ k is divided out of n, and a power more, which makes up 5 ^ all
pub further : (n k part all by : ℕ) (q r : Quotient) → k + part ≡ all → by ≡ 5 ^ part
    → IsQuotient n (5 ^ k) q → IsDividedOnce q by r → IsQuotient n (5 ^ all) r
further n k part all by q r h e i o =
    subst (λ (d : ℕ). IsQuotient n d r)
    (ap (λ (x : ℕ). 5 ^ k * x) e ∙ sym (pow-add 5 k part) ∙ ap (λ (x : ℕ). 5 ^ x) h)
    (once_more n (5 ^ k) by q r (five_pos k) (subst (λ (x : ℕ). 0 < x) (sym e) (five_pos part)) i o)

-- a power that is left is no more than 32 bits long
pub short_power : (k by : ℕ) → k ≤ 13 → by ≡ 5 ^ k → (0 < by) × (by < 2 ^ 32)
short_power k by h e = subst (λ (x : ℕ). (0 < x) × (x < 2 ^ 32)) (sym e) (five_pos k, five_short k h)

pub same_power : (k n : ℕ) → n ≡ k → 5 ^ k ≡ 5 ^ n
same_power k n e = ap (λ (x : ℕ). 5 ^ x) (sym e)
