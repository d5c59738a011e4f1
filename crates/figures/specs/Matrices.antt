-- A figure that antt computes of the definitions: that these say what is meant.
use Rattle.std.specs.Prelude.{◌≡◌, false, List, [], ◌∷◌, replicate, pos, refl, Float}
use Rattle.std.specs.Float.{nan, fin}
use Rattle.refusal.specs.declared.Refusal.TheVariants.{Exponential}
use Rattle.refusal.specs.Questions.{first_no}
use Rattle.exponentiation.specs.Call.{matrix_inputs, refused, exponential_call}

largest : List Float
largest = fin false 1 (pos 1023) ∷ []

-- Rule 14.14: norm 2^1023 gives 17
norm_large :
    exponential_call (matrix_inputs 1 largest largest (replicate 5 nan)) ≡ refused Exponential
unfolding largest exponential_call first_no
norm_large = refl
