-- The exponential of a square matrix, by scaling and squaring. Definitions, and the law of the
-- number of squarings.
use Rattle.std.specs.Prelude.{ℕ, zero, suc, ◌-◌, ◌≤◌, Bool, true, false, ◌&&◌, List, T, pos, Float}
use Rattle.std.specs.Float.{fin, binary64}
use Rattle.std.specs.Float.Ieee.{minus, le, of_int, add, div}
use Rattle.numeric.specs.Double.{plus, over, one, finite}
use Rattle.matrix.specs.Matrix.{product, square, scaled, identity, plus_identity, all_finite}
use Rattle.exponential.specs.Norm.{norm1}

-- ---- the number of squarings

-- Rule 12.3: 2^s / 2, exactly, whatever s is
abbrev pub half_two_to : ℕ → Float
half_two_to s = fin false 1 (minus s 1)

-- Rule 12.3: the first of so many numbers s, from `at` on, with norm ≤ 2^s / 2, and the number
-- after them if none is such
unfoldable pub first_enough : ℕ → ℕ → Float → ℕ
unfolding le
first_enough zero at norm = at
first_enough (suc many) at norm =
    elim (le norm (half_two_to at)) [ true ↦ at | false ↦ first_enough many (suc at) norm ]

-- Rule 12.3: sought up to 1024, and 1025 if none of these will do, which suits every finite norm
unfoldable pub squarings : Float → ℕ
unfolding first_enough
squarings norm = first_enough 1025 0 norm

-- Rule 12.3, the law without the search: s is enough, and no smaller number is
pub record IsLeast (norm : Float) (s : ℕ) : Type 0 where
  pub enough : T (le norm (half_two_to s))
  pub least : (t : ℕ) → T (le norm (half_two_to t)) → s ≤ t

-- ---- the Taylor polynomial, from degree 18 down to 1

-- Rule 12.6: at a degree the product with the result, × (1 / degree), + 1 on the diagonal
unfoldable pub horner_step : ℕ → List Float → ℕ → List Float → List Float
unfolding product scaled plus_identity div of_int
horner_step n a degree result =
    plus_identity n (scaled (over one (of_int binary64 (pos degree))) (product n a result))

-- Rule 12.6: the result after t degrees, begun with the identity; the next degree is 18 - t
unfoldable pub horner : ℕ → List Float → ℕ → List Float
unfolding horner_step identity
horner n a zero = identity n
horner n a (suc t) = horner_step n a (18 - t) (horner n a t)

-- ---- the exponential

-- Rule 12.7: 2^-s, exactly, whatever s is
abbrev pub two_to_minus : ℕ → Float
two_to_minus s = fin false 1 (minus 0 s)

-- Rule 12.7: the result after s squarings
unfoldable pub squared : ℕ → List Float → ℕ → List Float
unfolding square
squared n result zero = result
squared n result (suc s) = square n (squared n result s)

-- Rule 12.7: each entry × 2^-s, the 18 degrees, s squarings
unfoldable pub exponential_by : ℕ → List Float → ℕ → List Float
unfolding scaled horner squared
exponential_by n a s = squared n (horner n (scaled (two_to_minus s) a) 18) s

-- Rule 12.7: the exponential, with the number of squarings that its norm asks for
unfoldable pub exponential : ℕ → List Float → List Float
unfolding exponential_by squarings norm1
exponential n a = exponential_by n a (squarings (norm1 n a))

-- Rule 12.8: are the norm, twice the norm and every entry of the exponential finite?
unfoldable pub exponential_finite : ℕ → List Float → Bool
unfolding exponential norm1 all_finite add
exponential_finite n a =
    let norm = norm1 n a in
    let entries = all_finite (exponential n a) in
    finite norm && (finite (plus norm norm) && entries)
