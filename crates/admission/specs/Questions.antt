-- What is asked of a model, in order: of its kernel tables, its parameters and its schedule.
-- Definitions only.
use Rattle.std.specs.Prelude.{not, ◌&&◌, List, [], ◌∷◌, ◌++◌, ℕ, pred, eqb, leb}
use Rattle.std.specs.Prelude.{length, get_or, Float}
use Rattle.std.specs.Float.{nan}
use Rattle.decimal.specs.declared.Decimal.{Decimal}
use Rattle.decimal.specs.Decimal.{is_negative, is_positive}
use Rattle.refusal.specs.declared.Table.TheVariants.{Weights, Discounts}
use Rattle.refusal.specs.declared.Refusal.TheVariants.{WeightCount, DiscountCount, OutOfRange}
use Rattle.refusal.specs.declared.Refusal.TheVariants.{A, C, Lambda, Eta, Spot, FactorCount}
use Rattle.refusal.specs.Questions.{Question, ask, each}
use Rattle.model.specs.declared.Model.{Model}
use Rattle.model.specs.Kernel.{in_range}
use Rattle.model.specs.Parameters.{zero_decimal}
use Rattle.model.specs.Questions.{scale_question}
use Rattle.model.specs.Simulation.{Given}
use Rattle.schedule.specs.Questions.{schedule_questions}

-- ---- the kernel tables

-- Rule 14.3: 2, from 1 to 10 weights; 3, as many discounts
abbrev pub count_questions : ℕ → ℕ → List Question
count_questions weights discounts =
    ask WeightCount (leb 1 weights && leb weights 10)
    ∷ ask DiscountCount (eqb discounts weights)
    ∷ []

-- Rule 14.3: 4, a weight in range, then the discount beside it, at the index i of both tables
abbrev pub questions_of : Float → Float → ℕ → List Question
questions_of weight discount i =
    ask (OutOfRange Weights i) (in_range weight)
    ∷ ask (OutOfRange Discounts i) (in_range discount)
    ∷ []

-- Rule 14.3: 4 of entry i of the tables
abbrev pub entry_questions : List Float → List Float → ℕ → List Question
entry_questions weights discounts i =
    questions_of (get_or weights (pred i) nan) (get_or discounts (pred i) nan) i

-- Rule 14.3: 2 and 3; then 4 of each entry
unfoldable pub kernel_questions : List Float → List Float → List Question
kernel_questions weights discounts =
    count_questions (length weights) (length discounts)
    ++ each (entry_questions weights discounts) (length weights)

-- ---- the parameters

-- Rule 14.5: initial factor i, counted from 1, and 1 of it
abbrev pub factor_at : List Decimal → ℕ → Decimal
factor_at factors i = get_or factors (pred i) zero_decimal

abbrev pub factor_questions : List Decimal → ℕ → List Question
factor_questions factors i = scale_question (factor_at factors i) ∷ []

-- Rule 14.4: 5, a not negative; 6 to 9, c, lambda, eta and spot positive; 10, n initial factors
unfoldable pub range_questions : ℕ → Model → List Question
range_questions n p =
    ask A (not (is_negative p.a))
    ∷ ask C (is_positive p.c)
    ∷ ask Lambda (is_positive p.lambda)
    ∷ ask Eta (is_positive p.eta)
    ∷ ask Spot (is_positive p.spot)
    ∷ ask FactorCount (eqb p.factor_count n)
    ∷ []

-- Rule 14.5: 1 of a, b, c, lambda and eta
abbrev pub parameter_scale_questions : Model → List Question
parameter_scale_questions p =
    scale_question p.a
    ∷ scale_question p.b
    ∷ scale_question p.c
    ∷ scale_question p.lambda
    ∷ scale_question p.eta
    ∷ []

-- Rule 14.5: 1 of these, then of each factor, at last of spot
unfoldable pub scale_questions : ℕ → Model → List Question
scale_questions n p =
    parameter_scale_questions p
    ++ each (factor_questions p.factors) n
    ++ (scale_question p.spot ∷ [])

-- Rule 14.5: 5 to 10, then 1
unfoldable pub params_questions : ℕ → Model → List Question
params_questions n p = range_questions n p ++ scale_questions n p

-- ---- the model

-- Rule 14.7: those of the kernel, of the parameters and of the schedule
unfoldable pub model_questions : Given → List Question
unfolding kernel_questions params_questions schedule_questions
model_questions g =
    kernel_questions g.weights g.discounts
    ++ params_questions (length g.weights) g.model
    ++ schedule_questions g.schedule
