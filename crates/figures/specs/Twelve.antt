-- Rules 19.1 and 19.4: the figures P1 to P12 and the mirrored ones, as the outer calls answer them,
-- as one list with one theorem. They are proved here and nowhere else. Every double, given or
-- expected, stands by its bits, so that no figure rests on the conversion that it checks.
use Rattle.std.specs.Prelude.{◌≡◌, ℕ, Bool, true, false, refl, Float}
use Rattle.std.specs.Prelude.{List, [], ◌∷◌, ◌++◌, length, replicate, get_or}
use Rattle.std.specs.Float.{nan, binary64}
use Rattle.std.specs.Float.Ieee.{of_bits, round}
use Rattle.numeric.specs.Root.{root}
use Rattle.decimal.specs.declared.Decimal.{Decimal}
use Rattle.decimal.specs.Decimal.{value, convert, is_negative, is_positive, scale_fits}
use Rattle.refusal.specs.Questions.{first_no, each}
use Rattle.model.specs.Kernel.{in_range}
use Rattle.admission.specs.Questions.{range_questions, scale_questions}
use Rattle.model.specs.Parameters.{start_of}
use Rattle.model.specs.TimeGrid.{grid_of, steps_through}
use Rattle.trace.specs.Trace.{tables, table_after}
use Rattle.trace.specs.Call.{trace_inputs, trace_call, trace_tables}
use Rattle.exponentiation.specs.Call.{matrix_inputs, exponential_call, exponential_table}
use Rattle.refusal.specs.Refusal.{no_place}
use Rattle.batch.specs.Answered.{priced_once_asked}
use Rattle.vanilla.specs.Call.{vanilla_questions, vanilla_batch, vanilla_payoff}
use Rattle.batch.specs.Claim.{answer_of}
use Rattle.qrh.specs.Conversion.{conversion}
use Rattle.vix_value.specs.declared.Factors.{Factors}
use Rattle.vix_value.specs.Call.{vix_inputs, vix_call}
use Rattle.figures.specs.Given.{bits, decimal, weights, discounts, model, calm, one_step}
use Rattle.figures.specs.Given.{given_of, call_at100}

-- an answer's number and place, its doubles and its whole numbers
pub record Figure : Type 0 where
  pub number : ℕ
  pub place : List ℕ
  pub doubles : List Float
  pub wholes : List ℕ

abbrev pub figure : ℕ → List ℕ → List Float → List ℕ → Figure
figure number place doubles wholes =
    record { number = number; place = place; doubles = doubles; wholes = wholes }

-- ---- the calls

abbrev pub converted : Decimal → Figure
converted d = let a = conversion (convert d) in figure a.number a.place (a.value ∷ []) []

abbrev pub rooted : Float → Figure
rooted x = figure 0 no_place (root binary64 x ∷ []) []

-- a table of so many zeros, to be written
abbrev pub lent : ℕ → List Float
lent length = replicate length (bits 0)

-- what a trace of one step has written last
abbrev pub after : List Float → Float
after table = get_or table 1 nan

-- a trace of one step: spot, factor, z and variance after it
abbrev pub stepped : Float → Figure
stepped draw =
    let i = trace_inputs (given_of model one_step) (draw ∷ []) in
    let room = tables (lent 2) (lent 2) (lent 2) (lent 2) in
    let a = trace_call i room in
    let t = trace_tables i room in
    figure a.number a.place
    (after t.spots ∷ after t.factors ∷ after t.z ∷ after t.variances ∷ [])
    (a.steps ∷ [])

-- a call at 100 over paths of one step, mirrored or not
abbrev pub priced : Bool → ℕ → List Float → Figure
priced mirrored paths draws =
    let i = call_at100 one_step mirrored paths draws in
    let asked = first_no (vanilla_questions i (length (lent paths))) in
    let b = vanilla_batch i in
    let a = answer_of b (priced_once_asked asked b (vanilla_payoff i)) in
    figure a.number a.place a.doubles (a.counts ++ (a.steps ∷ []))

-- a matrix of dimension 2
abbrev pub powered : List Float → Figure
powered input =
    let i = matrix_inputs 2 input (lent 4) (lent 20) in
    let a = exponential_call i in
    figure a.number a.place (exponential_table i) (a.squarings ∷ [])

-- with a = 0, at the factor 0
abbrev pub factor_zero : Factors
factor_zero = record { count = 1; factors = decimal 0 0 ∷ [] }

abbrev pub evaluated : Decimal → Figure
evaluated window =
    let i = vix_inputs weights discounts calm window factor_zero in
    let a = vix_call i 80 in
    figure a.number a.place (a.squared ∷ a.index ∷ []) []

-- ---- the figures

abbrev pub answered : List Figure
answered =
    converted (decimal 1 1)
    ∷ converted (decimal 9007199254740993 0)
    ∷ converted (decimal 9007199254740995 0)
    ∷ converted (decimal 90071992547409930000001 7)
    ∷ converted (decimal 0 29)
    ∷ converted (decimal 1 29)
    -- 2^-1074
    ∷ rooted (bits 1)
    -- 0.5; -1; both; 0.5 and infinity
    ∷ stepped (bits 0x3FE0000000000000)
    ∷ stepped (bits 0xBFF0000000000000)
    ∷ priced false 2 (bits 0x3FE0000000000000 ∷ bits 0xBFF0000000000000 ∷ [])
    ∷ priced false 2 (bits 0x3FE0000000000000 ∷ bits 0x7FF0000000000000 ∷ [])
    -- [0 1; 0 0]
    ∷ powered (bits 0 ∷ bits 0x3FF0000000000000 ∷ bits 0 ∷ bits 0 ∷ [])
    ∷ evaluated (decimal 25 2)
    -- mirrored: 0.5 and 0.25; 0.5 alone
    ∷ priced true 4 (bits 0x3FE0000000000000 ∷ bits 0x3FD0000000000000 ∷ [])
    ∷ priced true 2 (bits 0x3FE0000000000000 ∷ [])
    ∷ []

abbrev pub expected : List Figure
expected =
    -- P1 to P5: bits 3FB999999999999A; 9007199254740992; 9007199254740996; 9007199254740994; +0.0,
    -- and refusal 1
    figure 0 no_place (bits 0x3FB999999999999A ∷ []) []
    ∷ figure 0 no_place (bits 0x4340000000000000 ∷ []) []
    ∷ figure 0 no_place (bits 0x4340000000000002 ∷ []) []
    ∷ figure 0 no_place (bits 0x4340000000000001 ∷ []) []
    ∷ figure 0 no_place (bits 0 ∷ []) []
    ∷ figure 1 no_place (bits 0 ∷ []) []
    -- P6: 2^-537
    ∷ figure 0 no_place (bits 0x1E60000000000000 ∷ []) []
    -- P7: spot 150, factor and z 0.25, variance 4.0625; P8: spot 0, factor and z -0.5, variance
    -- 4.25
    ∷ figure 0 no_place
    (bits 0x4062C00000000000
    ∷ bits 0x3FD0000000000000
    ∷ bits 0x3FD0000000000000
    ∷ bits 0x4010400000000000
    ∷ [])
    (1 ∷ [])
    ∷ figure 0 no_place
    (bits 0 ∷ bits 0xBFE0000000000000 ∷ bits 0xBFE0000000000000 ∷ bits 0x4011000000000000 ∷ [])
    (1 ∷ [])
    -- P9: price 25 and error 25, spot 75 and error 75, 2 paths, one of them non-positive, 2 steps;
    -- P10: 22 at path 2, step 1, spot, 2 steps
    ∷ figure 0 no_place
    (bits 0x4039000000000000
    ∷ bits 0x4039000000000000
    ∷ bits 0x4052C00000000000
    ∷ bits 0x4052C00000000000
    ∷ [])
    (2 ∷ 1 ∷ 2 ∷ [])
    ∷ figure 22 (2 ∷ 1 ∷ 1 ∷ 2 ∷ []) (bits 0 ∷ bits 0 ∷ bits 0 ∷ bits 0 ∷ []) (0 ∷ 0 ∷ 2 ∷ [])
    -- P11: [1 1; 0 1], one squaring
    ∷ figure 0 no_place
    (bits 0x3FF0000000000000 ∷ bits 0x3FF0000000000000 ∷ bits 0 ∷ bits 0x3FF0000000000000 ∷ [])
    (1 ∷ [])
    -- P12: VIX squared 40000, index 200
    ∷ figure 0 no_place (bits 0x40E3880000000000 ∷ bits 0x4069000000000000 ∷ []) []
    -- mirrored: price 18.75 and error 6.25, spot 100 and error 0, 4 paths, none of them
    -- non-positive, 4 steps; one pair alone: 28
    ∷ figure 0 no_place
    (bits 0x4032C00000000000 ∷ bits 0x4019000000000000 ∷ bits 0x4059000000000000 ∷ bits 0 ∷ [])
    (4 ∷ 0 ∷ 4 ∷ [])
    ∷ figure 28 no_place (bits 0 ∷ bits 0 ∷ bits 0 ∷ bits 0 ∷ []) (0 ∷ 0 ∷ 0 ∷ [])
    ∷ []

pub figures : answered ≡ expected
unfolding convert root of_bits round value is_negative is_positive scale_fits
    first_no each in_range range_questions scale_questions steps_through table_after
    trace_call trace_tables vanilla_questions priced_once_asked start_of grid_of
    exponential_call exponential_table vix_call
figures = refl
