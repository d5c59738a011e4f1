-- Small batches that are admitted, so that the batch's claim is not empty, and what they come to.
use Rattle.std.specs.Prelude.{◌≡◌, ℕ, zero, suc, true, false, Err, refl, Float}
use Rattle.std.specs.Prelude.{List, [], ◌∷◌, length, get_or}
use Rattle.std.proofs.Common.{arith, rules}
use Rattle.std.specs.Float.{nan, inf}
use Rattle.std.specs.Float.Ieee.{lt, le, round, of_bits}
use Rattle.numeric.specs.Double.{plus_zero}
use Rattle.decimal.specs.Decimal.{value, is_negative, is_positive, scale_fits}
use Rattle.refusal.specs.declared.Quantity.{Quantity}
use Rattle.refusal.specs.declared.Quantity.TheVariants as quantity
use Rattle.refusal.specs.Questions.{Outcome, passed, first_no, each}
use Rattle.refusal.specs.Refusal.{no_place}
use Rattle.model.specs.Kernel.{in_range}
use Rattle.model.specs.Parameters.{start_of}
use Rattle.model.specs.TimeGrid.{grid_of, steps_through}
use Rattle.model.specs.Step.{finiteness}
use Rattle.model.specs.Walk.{state_after}
use Rattle.admission.specs.Questions.{range_questions, scale_questions}
use Rattle.batch.specs.Claim.{BatchAnswer, OneTo, state_of, FiniteAt, SomeStepFails, FirstFailure}
use Rattle.batch.specs.Claim.{Reaches, report_of}
use Rattle.vanilla.specs.declared.Terms.TheVariants.{DownAndOut}
use Rattle.vanilla.specs.Call.{VanillaInputs, vanilla_inputs, vanilla_questions}
use Rattle.vanilla.specs.Call.{vanilla_batch, vanilla_payoff}
use Rattle.vix_batch.specs.Call.{VixBatchInputs, vix_batch_inputs, vix_batch_questions}
use Rattle.figures.specs.Given.{bits, decimal, steps, one_step, given_of, call_at100}
use Rattle.figures.specs.Given.{model, calm}

-- ---- the batches

abbrev pub half : Float
half = bits 0x3FE0000000000000

abbrev pub quarter : Float
quarter = bits 0x3FD0000000000000

abbrev pub minus_half : Float
minus_half = bits 0xBFE0000000000000

abbrev pub plus_one : Float
plus_one = bits 0x3FF0000000000000

abbrev pub minus_one : Float
minus_one = bits 0xBFF0000000000000

-- that of P9
abbrev pub nine : VanillaInputs
nine = call_at100 one_step false 2 (half ∷ minus_one ∷ [])

-- that of P10, whose second draw is infinite
abbrev pub ten : VanillaInputs
ten = call_at100 one_step false 2 (half ∷ inf false ∷ [])

-- with another second draw, the first one again
abbrev pub level : VanillaInputs
level = call_at100 one_step false 2 (half ∷ half ∷ [])

-- with paths of two steps
abbrev pub twice : VanillaInputs
twice =
    call_at100 (steps 2) false 2
    (half ∷ half ∷ half ∷ half ∷ [])

-- a put at 200 that vanishes at 60: within their one segment both paths fall from 100 to 50, and
-- rise above 100 again
abbrev pub touched : VanillaInputs
touched =
    vanilla_inputs (given_of model (steps 2))
    (record {
      terms = DownAndOut (decimal 200 0) (decimal 60 0);
      mirrored = false;
      paths = 2;
    })
    (minus_half ∷ plus_one ∷ minus_half ∷ plus_one ∷ [])

-- mirrored: path 2 has the draw of path 1 negated, and path 4 that of path 3
abbrev pub mirrored : VanillaInputs
mirrored = call_at100 one_step true 4 (half ∷ quarter ∷ [])

-- a future on the VIX, with a = 0 and the window of P12
abbrev pub vix : VixBatchInputs
vix =
    vix_batch_inputs (given_of calm one_step)
    (record {
      window = decimal 25 2;
      payoff = record { future = true; put = false; strike = decimal 0 0 };
      paths = 2;
    })
    (half ∷ minus_one ∷ [])

-- the table that each is lent: a row a path, one column
abbrev pub lent : List Float
lent = plus_zero ∷ plus_zero ∷ []

abbrev pub lent_four : List Float
lent_four = plus_zero ∷ plus_zero ∷ plus_zero ∷ plus_zero ∷ []

-- ---- each passes every question before 22

-- with a row a path
unfoldable pub vanilla_asked : VanillaInputs → Outcome
unfolding
    vanilla_questions first_no each in_range le range_questions scale_questions steps_through
    is_negative is_positive scale_fits value round of_bits
vanilla_asked i = first_no (vanilla_questions i i.order.paths)

-- with a workspace of 80 doubles
unfoldable pub vix_asked : VixBatchInputs → Outcome
unfolding
    vix_batch_questions first_no each in_range le range_questions scale_questions steps_through
    is_negative is_positive scale_fits value round of_bits
vix_asked i = first_no (vix_batch_questions i 80 (length lent))

pub nine_admitted : vanilla_asked nine ≡ passed
unfolding vanilla_asked
nine_admitted = refl

pub ten_admitted : vanilla_asked ten ≡ passed
unfolding vanilla_asked
ten_admitted = refl

pub level_admitted : vanilla_asked level ≡ passed
unfolding vanilla_asked
level_admitted = refl

pub twice_admitted : vanilla_asked twice ≡ passed
unfolding vanilla_asked
twice_admitted = refl

pub touched_admitted : vanilla_asked touched ≡ passed
unfolding vanilla_asked
touched_admitted = refl

pub mirrored_admitted : vanilla_asked mirrored ≡ passed
unfolding vanilla_asked
mirrored_admitted = refl

pub vix_admitted : vix_asked vix ≡ passed
unfolding vix_asked
vix_admitted = refl

-- ---- what they come to

abbrev pub report : VanillaInputs → BatchAnswer
report i = report_of (vanilla_batch i) (vanilla_payoff i)

-- a price
abbrev pub priced_at : Float → Float → Float → Float → List ℕ → ℕ → BatchAnswer
priced_at price price_error spot spot_error counts steps =
    record {
      number = 0;
      place = no_place;
      doubles = price ∷ price_error ∷ spot ∷ spot_error ∷ [];
      counts = counts;
      steps = steps;
    }

-- P9: price 25 and error 25, spot 75 and error 75, one path non-positive, 2 steps
abbrev pub price_of_nine : BatchAnswer
price_of_nine =
    priced_at (value (decimal 25 0)) (value (decimal 25 0)) (value (decimal 75 0))
    (value (decimal 75 0))
    (2 ∷ 1 ∷ []) 2

pub nine_report : report nine ≡ price_of_nine
unfolding report_of start_of grid_of value round of_bits
nine_report = refl

-- both spots are 150
pub level_report :
    report level
    ≡ priced_at (value (decimal 50 0)) plus_zero (value (decimal 150 0)) plus_zero (2 ∷ 0 ∷ []) 2
unfolding report_of start_of grid_of value round of_bits
level_report = refl

-- spots 150, 50, 125 and 75: the pairs pay 25 and 12.5 in the mean, and both have the spot 100
abbrev pub price_of_mirrored : BatchAnswer
price_of_mirrored =
    priced_at (value (decimal 1875 2)) (value (decimal 625 2)) (value (decimal 100 0)) plus_zero
    (4 ∷ 0 ∷ []) 4

-- both paths touch the barrier, path 1 ends above it, as path 2 does, and the put pays nothing
pub touched_ends_above :
    lt (value (decimal 60 0)) (state_of (vanilla_batch touched) 1 2).spot ≡ true
unfolding start_of grid_of state_after value round of_bits lt
touched_ends_above = refl

pub touched_price : get_or (report touched).doubles 0 nan ≡ plus_zero
unfolding report_of start_of grid_of value round of_bits
touched_price = refl

-- ---- the lowest spot: that of the start where it rises, and the new one where it falls

-- after the step of P7
pub seven_lowest : (state_of (vanilla_batch nine) 1 1).lowest ≡ value (decimal 100 0)
unfolding start_of grid_of state_after value round of_bits
seven_lowest = refl

-- after the step of P8
pub eight_lowest : (state_of (vanilla_batch nine) 2 1).lowest ≡ plus_zero
unfolding start_of grid_of state_after value round of_bits
eight_lowest = refl

-- ---- which steps are finite

module _ (P : ℕ → Type 0) where
  pub one : P 1 → (i : ℕ) → OneTo 1 i → P i
  one h zero is = absurd (omega (arith, is.from))
  one h (suc zero) is = h
  one h (suc (suc i)) is = absurd (omega (arith, is.upto))

  pub two : P 1 → P 2 → (i : ℕ) → OneTo 2 i → P i
  two h l zero is = absurd (omega (arith, is.from))
  two h l (suc zero) is = h
  two h l (suc (suc zero)) is = l
  two h l (suc (suc (suc i))) is = absurd (omega (arith, is.upto))

-- two paths of one step
both_finite :
    (i : VanillaInputs) → FiniteAt (vanilla_batch i) 1 1 → FiniteAt (vanilla_batch i) 2 1
    → (p k : ℕ) → OneTo 2 p → OneTo 1 k → FiniteAt (vanilla_batch i) p k
both_finite i h l p k is_path is_step =
    one (λ k. FiniteAt (vanilla_batch i) p k)
    (two (λ p. FiniteAt (vanilla_batch i) p 1) h l p is_path) k is_step

pub nine_passes : SomeStepFails (vanilla_batch nine) → ⊥
unfolding start_of grid_of state_after finiteness value round of_bits
nine_passes s =
    s.fails (both_finite nine refl refl s.path s.step s.is_path s.is_step)

pub touched_passes : SomeStepFails (vanilla_batch touched) → ⊥
unfolding start_of grid_of state_after finiteness value round of_bits
touched_passes s =
    let finite : (p : ℕ) → ℕ → Type 0 = FiniteAt (vanilla_batch touched) in
    s.fails
    (two (λ k. finite s.path k) (two (λ p. finite p 1) refl refl s.path s.is_path)
    (two (λ p. finite p 2) refl refl s.path s.is_path) s.step s.is_step)

pub level_passes : SomeStepFails (vanilla_batch level) → ⊥
unfolding start_of grid_of state_after finiteness value round of_bits
level_passes s =
    s.fails (both_finite level refl refl s.path s.step s.is_path s.is_step)

-- P10 stops on path 2, at step 1, with the spot
pub ten_first : FiniteAt (vanilla_batch ten) 1 1
unfolding start_of grid_of state_after finiteness value round of_bits
ten_first = refl

pub ten_fails : finiteness (state_of (vanilla_batch ten) 2 1) ≡ Err quantity.Spot
unfolding start_of grid_of state_after finiteness value round of_bits
ten_fails = refl

pub record StopOfTen (p k : ℕ) (q : Quantity) : Type 0 where
  pub path : p ≡ 2
  pub step : k ≡ 1
  pub quantity : q ≡ quantity.Spot

-- what a failure at a step of path p says
abbrev Stops : ℕ → ℕ → Quantity → Type 0
Stops p k q = finiteness (state_of (vanilla_batch ten) p k) ≡ Err q → StopOfTen p k q

not_on_1 : (q : Quantity) → Stops 1 1 q
not_on_1 q fails = let finite = ten_first in absurd cc

on_2 : (q : Quantity) → Stops 2 1 q
on_2 q fails = let spot = ten_fails in record { path = refl; step = refl; quantity = cc }

pub ten_stops : (p k : ℕ) (q : Quantity) → FirstFailure (vanilla_batch ten) p k q → StopOfTen p k q
unfolding start_of grid_of
ten_stops p k q stop =
    one (λ k. Stops p k q) (two (λ p. Stops p 1 q) (not_on_1 q) (on_2 q) p stop.is_path) k
    stop.is_step stop.fails

pub ten_refused : SomeStepFails (vanilla_batch ten)
unfolding start_of grid_of
ten_refused =
    record {
      path = 2;
      is_path = search rules;
      step = 1;
      is_step = search rules;
      fails = λ finite.
          let fails = ten_fails in
          cc;
    }

-- so it does not reach the end of its segment
pub ten_ends : Reaches (vanilla_batch ten) 2 1 → ⊥
unfolding start_of grid_of state_after finiteness value round of_bits
ten_ends reaches =
    let finite = reaches.steps 1 (omega arith) (omega arith) in
    let fails = ten_fails in
    cc

-- path 1 reaches the end of its segment
pub nine_reaches : Reaches (vanilla_batch nine) 1 1
unfolding start_of grid_of state_after finiteness value round of_bits
nine_reaches =
    record {
      steps = λ k from upto.
          one (λ k. FiniteAt (vanilla_batch nine) 1 k) refl k
          (search rules);
      paths = λ r k from below is. absurd (omega (arith, from, below));
    }

pub twice_reaches : Reaches (vanilla_batch twice) 1 1
unfolding start_of grid_of state_after finiteness value round of_bits
twice_reaches =
    record {
      steps = λ k from upto.
          two (λ k. FiniteAt (vanilla_batch twice) 1 k) refl refl k
          (search rules);
      paths = λ r k from below is. absurd (omega (arith, from, below));
    }
