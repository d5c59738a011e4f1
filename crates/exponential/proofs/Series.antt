-- One more degree, and one more squaring. Assumes nothing.
use mathlib.Core.Path.{◌≡◌, ap, ◌∙◌}
use mathlib.Core.List.{List}
use Prim.Native.Nat.{ℕ, suc, ◌+◌, ◌-◌, ◌≤◌, ◌<◌}
use native.Mathlib.Numerals.{add-one}
use native.Mathlib.Omega.{arith}
use lib.Ieee.{Float}
use Rattle.matrix.specs.Matrix.{product, square}
use Rattle.exponential.specs.Exponential.{horner_step, horner, squared}

-- the value after the degrees above `degree`, and one degree more
pub degree_more :
    (n : ℕ) (a value value' : List Float) (degree : ℕ) → 0 < degree → degree ≤ 18
    → value ≡ horner n a (18 - degree) → value' ≡ horner_step n a degree value
    → value' ≡ horner n a (18 - (degree - 1))
unfolding horner
degree_more n a value value' degree h l e p =
    p
    ∙ ap (horner_step n a degree) e
    ∙ ap (λ (d : ℕ). horner_step n a d (horner n a (18 - degree))) this
    ∙ ap (horner n a) next
  where
    this : degree ≡ 18 - (18 - degree)
    this = omega arith

    next : suc (18 - degree) ≡ 18 - (degree - 1)
    next = omega arith

-- the result of k squarings, squared
pub squared_more :
    (n : ℕ) (start result result' : List Float) (k : ℕ) → result ≡ squared n start k
    → result' ≡ product n result result → result' ≡ squared n start (k + 1)
unfolding squared square
squared_more n start result result' k e p = rw (add-one, p, e)
