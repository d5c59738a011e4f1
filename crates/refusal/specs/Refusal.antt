-- The number and the place of each refusal. Definitions only.
use Rattle.std.specs.Prelude.{List, [], ◌∷◌, ℕ, Some, None}
use Rattle.refusal.specs.declared.Quantity.{Quantity}
use Rattle.refusal.specs.declared.Quantity.TheVariants as quantity
use Rattle.refusal.specs.declared.Table.{Table}
use Rattle.refusal.specs.declared.Table.TheVariants.{Weights, Discounts}
use Rattle.refusal.specs.declared.Reported.{Reported}
use Rattle.refusal.specs.declared.Reported.TheVariants.{Payoff, PayoffError}
use Rattle.refusal.specs.declared.Reported.TheVariants.{Underlying, UnderlyingError}
use Rattle.refusal.specs.declared.BadSquared.TheVariants.{NotFinite, NotPositive}
use Rattle.refusal.specs.declared.Refusal.{Refusal}
use Rattle.refusal.specs.declared.Refusal.TheVariants as no

-- Rule 14.2: spot, z and variance are 1, 2 and 3
abbrev pub quantity_number : Quantity → ℕ
quantity_number quantity.Spot = 1
quantity_number quantity.Z = 2
quantity_number quantity.Variance = 3

-- Rule 14.2: the tables of weights and of discounts are 1 and 2
abbrev pub table_number : Table → ℕ
table_number Weights = 1
table_number Discounts = 2

-- Rule 14.2: the four estimates are 1 to 4, in reported order
abbrev pub estimate_number : Reported → ℕ
estimate_number Payoff = 1
estimate_number PayoffError = 2
estimate_number Underlying = 3
estimate_number UnderlyingError = 4

-- Rule 14.2: the number of a refusal
abbrev pub number_of : Refusal → ℕ
number_of no.Scale = 1
number_of no.WeightCount = 2
number_of no.DiscountCount = 3
number_of (no.OutOfRange table index) = 4
number_of no.A = 5
number_of no.C = 6
number_of no.Lambda = 7
number_of no.Eta = 8
number_of no.Spot = 9
number_of no.FactorCount = 10
number_of no.NoSegment = 11
number_of no.TooManySegments = 12
number_of (no.Segment segment) = 13
number_of (no.TooManySteps segment) = 14
number_of no.Window = 15
number_of no.Workspace = 16
number_of no.Exponential = 17
number_of no.Strike = 18
number_of no.Paths = 19
number_of no.Draws = 20
number_of no.Lengths = 21
number_of (no.NonFinite path step quantity steps) = 22
number_of (no.Squared NotFinite path) = 23
number_of (no.Squared NotPositive path) = 24
number_of (no.Estimate reported) = 25
number_of no.Matrix = 26
number_of no.Barrier = 27
number_of no.Pairs = 28

-- Rule 14.2: no place is four zeros
abbrev pub no_place : List ℕ
no_place = 0 ∷ 0 ∷ 0 ∷ 0 ∷ []

-- Rule 14.2: a place of one number
abbrev pub at : ℕ → List ℕ
at i = i ∷ 0 ∷ 0 ∷ 0 ∷ []

-- Rule 14.2: the place of a refusal, four numbers, of which those without a meaning are 0
abbrev pub place_of : Refusal → List ℕ
place_of (no.OutOfRange table index) = table_number table ∷ index ∷ 0 ∷ 0 ∷ []
place_of (no.Segment segment) = at segment
place_of (no.TooManySteps segment) = at segment
place_of (no.NonFinite path step quantity steps) =
    path ∷ step ∷ quantity_number quantity ∷ steps ∷ []
place_of (no.Squared fault (Some path)) = at path
place_of (no.Estimate reported) = at (estimate_number reported)
place_of (no.Squared fault None) = no_place
place_of no.Scale = no_place
place_of no.WeightCount = no_place
place_of no.DiscountCount = no_place
place_of no.A = no_place
place_of no.C = no_place
place_of no.Lambda = no_place
place_of no.Eta = no_place
place_of no.Spot = no_place
place_of no.FactorCount = no_place
place_of no.NoSegment = no_place
place_of no.TooManySegments = no_place
place_of no.Window = no_place
place_of no.Workspace = no_place
place_of no.Exponential = no_place
place_of no.Strike = no_place
place_of no.Paths = no_place
place_of no.Draws = no_place
place_of no.Lengths = no_place
place_of no.Matrix = no_place
place_of no.Barrier = no_place
place_of no.Pairs = no_place
