-- The answer that crosses the edge, of each case of a price. Definitions only.
use Rattle.std.specs.Prelude.{Ok, Err}
use Rattle.numeric.specs.Double.{plus_zero}
use Rattle.refusal.specs.Refusal.{number_of, place_of, no_place}
use Rattle.batch.specs.Report.{Priced}
use Rattle.vix_batch.specs.declared.VixEstimate.{VixEstimate}

-- Rules 17.1 and 17.2: payoff and index, each with its standard error, paths and the steps taken;
-- at a refusal zeros, but for the steps
abbrev pub written : Priced → VixEstimate
written (Ok report) =
    record {
      number = 0;
      place = no_place;
      payoff = report.estimates.payoff.mean;
      payoff_error = report.estimates.payoff.error;
      index = report.estimates.underlying.mean;
      index_error = report.estimates.underlying.error;
      paths = report.paths;
      steps = report.steps;
    }
written (Err r) =
    record {
      number = number_of r.refusal;
      place = place_of r.refusal;
      payoff = plus_zero;
      payoff_error = plus_zero;
      index = plus_zero;
      index_error = plus_zero;
      paths = 0;
      steps = r.steps;
    }
