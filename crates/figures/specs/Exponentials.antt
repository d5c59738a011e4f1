-- Figures that antt computes of the definitions: that these say what is meant.
use Rattle.std.specs.Prelude.{◌≡◌, true, false, List, [], ◌∷◌, negsuc, refl, Float}
use Rattle.std.specs.Float.{fin}
use Rattle.numeric.specs.Double.{one, plus_zero}
use Rattle.matrix.specs.Matrix.{entry}
use Rattle.exponential.specs.Exponential.{squarings, exponential, exponential_finite}

-- Rule 12.3: norm 0.5 needs no squaring
norm_half : squarings (fin false 1 (negsuc 0)) ≡ 0
unfolding squarings
norm_half = refl

-- a matrix of dimension 4, as the moments of one factor give it
moments : List Float
moments =
    fin true 5 (negsuc 1) ∷ plus_zero ∷ plus_zero ∷ plus_zero ∷
    plus_zero ∷ fin true 5 (negsuc 0) ∷ plus_zero ∷ one ∷
    plus_zero ∷ plus_zero ∷ plus_zero ∷ one ∷
    plus_zero ∷ plus_zero ∷ plus_zero ∷ plus_zero ∷ []

-- Rule 12.8: it and its exponential are finite
moments_finite_lem : exponential_finite 4 moments ≡ true
unfolding moments exponential_finite
moments_finite_lem = refl

-- Rule 12.7: its entry of the integral and the constant
moments_integral : entry 4 (exponential 4 moments) 2 3 ≡ one
unfolding moments exponential
moments_integral = refl
