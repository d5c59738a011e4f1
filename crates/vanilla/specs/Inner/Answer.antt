-- The answer that crosses the edge, of each case of a price. Definitions only.
use Rattle.std.specs.Prelude.{Ok, Err}
use Rattle.numeric.specs.Double.{plus_zero}
use Rattle.refusal.specs.Refusal.{number_of, place_of, no_place}
use Rattle.batch.specs.Report.{Priced}
use Rattle.vanilla.specs.declared.Estimate.{Estimate}

-- Rules 17.1 and 17.2: price and mean terminal spot, each with its standard error, paths,
-- non-positive paths and the steps taken; at a refusal zeros, but for the steps
abbrev pub written : Priced → Estimate
written (Ok report) =
    record {
      number = 0;
      place = no_place;
      price = report.estimates.payoff.mean;
      price_error = report.estimates.payoff.error;
      spot_mean = report.estimates.underlying.mean;
      spot_error = report.estimates.underlying.error;
      paths = report.paths;
      non_positive = report.non_positive;
      steps = report.steps;
    }
written (Err r) =
    record {
      number = number_of r.refusal;
      place = place_of r.refusal;
      price = plus_zero;
      price_error = plus_zero;
      spot_mean = plus_zero;
      spot_error = plus_zero;
      paths = 0;
      non_positive = 0;
      steps = r.steps;
    }
