-- A finite double is above zero exactly where it is not at most zero, and a positive one is not.
-- Assumes nothing.
use Rattle.std.proofs.Common.{◌≡◌, ℕ, zero, suc, ◌*◌, Bool, true, false, not, ◌||◌, T, pos, sym, refl, true≢false, add-zero, zero-mul, arith}
use lib.Dec.{leb-zero, leb-suc-zero, leb-suc-suc, eqb-suc-zero}
use lib.Ieee.{Float, nan, inf, fin, lt, le, eq, below, level, up, down}
use lib.Ieee.Positive.{positive, num, den, den_pos, own_value, value_pos}
use Rattle.numeric.specs.Double.{plus_zero, finite}
use Rattle.numeric.proofs.Order.{le→ordered}

compared : (s : Bool) (b : ℕ) → below false 0 s b ≡ not (below s b false 0 || level s b false 0)
compared false zero = refl
compared false (suc b) = rw (leb-suc-suc 0 b, leb-zero b, leb-suc-zero (suc b), eqb-suc-zero b)
compared true zero = refl
compared true (suc b) = rw (add-zero, leb-suc-suc 0 b, leb-zero b)

pub above_zero : (x : Float) → finite x ≡ true → lt plus_zero x ≡ not (le x plus_zero)
unfolding lt le eq
above_zero nan h = absurd (true≢false (sym h))
above_zero (inf s) h = absurd (true≢false (sym h))
above_zero (fin s m e) h = simp zero-mul (compared s (m * up e * down (pos 0)))

pub positive_above : (x : Float) → T (positive x) → le x plus_zero ≡ false
positive_above nan p = absurd p
positive_above (inf s) p = absurd p
positive_above (fin true m e) p = absurd p
positive_above (fin false m e) p = go (le (fin false m e) plus_zero) refl
  where
    go : (b : Bool) → le (fin false m e) plus_zero ≡ b → le (fin false m e) plus_zero ≡ false
    go false h = h
    go true h =
        let x = fin false m e in
        absurd (omega (arith, le→ordered x plus_zero refl refl h, value_pos x (num x) (den x) p (den_pos x) (own_value x p)))
