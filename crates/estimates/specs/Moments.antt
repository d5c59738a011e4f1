-- Welford's moments of the samples of a batch, and its estimates. Definitions only.
use Rattle.std.specs.Prelude.{Bool, true, false, ℕ, zero, suc, pred, ◌*◌, ◌/◌, Float}
use Rattle.std.specs.Prelude.{Option, Some, None}
use Rattle.std.specs.Float.{binary64}
use Rattle.std.specs.Float.Ieee.{add, sub, mul, div}
use Rattle.numeric.specs.Double.{plus, minus, times, over, one, two, plus_zero, finite}
use Rattle.numeric.specs.Root.{root}
use Rattle.refusal.specs.declared.Reported.{Reported}
use Rattle.refusal.specs.declared.Reported.TheVariants as reported
use Rattle.estimates.specs.declared.Moments.{Moments}
use Rattle.estimates.specs.declared.MeanAndError.{MeanAndError}
use Rattle.estimates.specs.declared.Estimates.{Estimates}

-- Rule 10.1: from zeros
abbrev pub no_moments : Moments
no_moments = record { count = plus_zero; mean = plus_zero; squared_deviations = plus_zero }

-- Rule 10.1: with the value v more
unfoldable pub with_value : Moments → Float → Moments
unfolding add sub mul div
with_value m v =
    let count = plus m.count one in
    let e = minus v m.mean in
    let mean = plus m.mean (over e count) in
    record {
      count = count;
      mean = mean;
      squared_deviations = plus m.squared_deviations (times e (minus v mean));
    }

-- Rule 10.1: of the first n values, in their order, `value i` being value i, counted from 1
unfoldable pub moments_of : (ℕ → Float) → ℕ → Moments
unfolding with_value
moments_of value zero = no_moments
moments_of value (suc n) = with_value (moments_of value n) (value (suc n))

-- Rule 10.2: the average of a mirrored pair, each operation rounded
unfoldable pub average : Float → Float → Float
unfolding add div
average first second = over (plus first second) two

-- Rule 10.2: sample i of a batch, `value p` being that of path p: in a mirrored batch the average
-- of pair i, which is paths 2i - 1 and 2i, and else the value of path i
abbrev pub sample_of : Bool → (ℕ → Float) → ℕ → Float
sample_of true value i = average (value (pred (2 * i))) (value (2 * i))
sample_of false value i = value i

-- Rule 10.2: how many samples so many paths make
abbrev pub samples_in : Bool → ℕ → ℕ
samples_in true paths = paths / 2
samples_in false paths = paths

-- Rule 10.3: the mean and its standard error
unfoldable pub estimate_of : Moments → MeanAndError
unfolding sub div root
estimate_of m =
    let variance = over m.squared_deviations (minus m.count one) in
    record { mean = m.mean; error = root binary64 (over variance m.count) }

-- Rules 10.2 and 10.3: over the samples of so many paths
abbrev pub estimate_over : Bool → (ℕ → Float) → ℕ → MeanAndError
estimate_over mirrored value paths =
    estimate_of (moments_of (sample_of mirrored value) (samples_in mirrored paths))

-- Rule 10.6: the estimates of payoff and underlying, `paid p` being what path p pays, and
-- `underlying p` what it pays on
unfoldable pub estimates_of : Bool → (ℕ → Float) → (ℕ → Float) → ℕ → Estimates
unfolding moments_of average estimate_of
estimates_of mirrored paid underlying paths =
    record {
      payoff = estimate_over mirrored paid paths;
      underlying = estimate_over mirrored underlying paths;
    }

-- Rule 14.12: the first of the four estimates that is not finite
abbrev pub first_of_four : Bool → Bool → Bool → Bool → Option Reported
first_of_four false b c d = Some reported.Payoff
first_of_four true false c d = Some reported.PayoffError
first_of_four true true false d = Some reported.Underlying
first_of_four true true true false = Some reported.UnderlyingError
first_of_four true true true true = None

-- Rule 14.12: in the order of rule 10.6
unfoldable pub not_finite : Estimates → Option Reported
not_finite e =
    first_of_four (finite e.payoff.mean) (finite e.payoff.error)
    (finite e.underlying.mean) (finite e.underlying.error)
