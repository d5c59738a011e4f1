-- Comparison with zero, by the sign and the coefficient. Assumes nothing.
use mathlib.Core.Path.{◌≡◌, refl, sym, ap, ◌∙◌}
use mathlib.Core.Bool.{Bool, true, false, not, ◌&&◌, cond}
use Prim.Native.Nat.{ℕ, zero, suc, ◌<◌}
use native.Mathlib.Nat.{pos_of_ne-zero, ne_of_gt}
use Rattle.std.proofs.Common.{arith, eqb→eq}
use Rattle.std.proofs.lemmas.Float.{T_from_true}
use lib.Dec.{eqb, leb-zero, leb-suc-zero, leb-suc-suc, eqb-suc-zero}
use lib.IntN.{ℤ, pos, neg_ℤ}
use lib.Signed.{lt_z}
use borrow.Author.Tests.{eqb-false, ne_eqb}
use Rattle.std.specs.Prelude.{nat_lt}
use Rattle.decimal.specs.declared.Decimal.{Decimal}
use Rattle.decimal.specs.Decimal.{coefficient, is_zero, is_negative, is_positive}

-- what is not 0 is above it
pub not_zero : (n : ℕ) → not (eqb n 0) ≡ nat_lt 0 n
not_zero zero = refl
not_zero (suc n) = ap not (eqb-suc-zero n) ∙ sym (leb-suc-suc 0 n ∙ leb-zero n)

abbrev signed : Bool → ℕ → ℤ
signed s c = cond s (neg_ℤ (pos c)) (pos c)

below : (s : Bool) (c : ℕ) → lt_z (signed s c) (pos 0) ≡ s && not (eqb c 0)
below true zero = refl
below true (suc c) = sym (ap not (eqb-suc-zero c))
below false c = leb-suc-zero c

above : (s : Bool) (c : ℕ) → lt_z (pos 0) (signed s c) ≡ not s && not (eqb c 0)
above true zero = refl
above true (suc c) = refl
above false zero = refl
above false (suc c) = leb-suc-suc 0 c ∙ leb-zero c ∙ sym (ap not (eqb-suc-zero c))

pub negative_is : (d : Decimal) → is_negative d ≡ d.negative && not (is_zero d)
unfolding is_negative is_zero
negative_is d = below d.negative (coefficient d)

pub positive_is : (d : Decimal) → is_positive d ≡ not d.negative && not (is_zero d)
unfolding is_positive is_zero
positive_is d = above d.negative (coefficient d)

pub nonzero : (d : Decimal) → is_zero d ≡ false → 0 < coefficient d
unfolding is_zero
nonzero d e = pos_of_ne-zero (eqb-false (coefficient d) 0 e)

-- a coefficient is 0 where both of its words are
pub zero_by_words : (d : Decimal) → is_zero d ≡ (eqb d.high 0 && eqb d.low 0)
unfolding is_zero
zero_by_words d = by_test (eqb d.high 0) refl
  where
    by_test : (b : Bool) → eqb d.high 0 ≡ b → eqb (coefficient d) 0 ≡ b && eqb d.low 0
    by_test true e = let h : d.high ≡ 0 = eqb→eq d.high 0 (T_from_true _ e) in ap (λ (x : ℕ). eqb x 0) (omega arith)
    by_test false e =
        let h : 0 < d.high = pos_of_ne-zero (eqb-false d.high 0 e) in ne_eqb (coefficient d) 0 (ne_of_gt (omega arith))
