-- The tally that is kept while the paths of a batch end, in their order. Definitions only.
use Rattle.std.specs.Prelude.{Bool, true, false, cond, ℕ, ◌%◌, eqb, Float}
use Rattle.estimates.specs.declared.Payoff.{Payoff}
use Rattle.estimates.specs.declared.Sample.{Sample}
use Rattle.estimates.specs.declared.Sampling.{Sampling}
use Rattle.estimates.specs.declared.Sampling.TheVariants.{Paths, Pairs, PairBegun}
use Rattle.estimates.specs.declared.Tally.{Tally}
use Rattle.estimates.specs.declared.Estimates.{Estimates}
use Rattle.estimates.specs.Payoff.{payoff_of}
use Rattle.estimates.specs.Moments.{no_moments, with_value, moments_of, average, sample_of}
use Rattle.estimates.specs.Moments.{samples_in, estimate_of}

-- ---- as paths end

-- Rule 10.2: of a pair
unfoldable pub averaged : Sample → Sample → Sample
unfolding average
averaged first second =
    record {
      paid = average first.paid second.paid;
      underlying = average first.underlying second.underlying;
    }

-- Rule 10.2: before the first path
abbrev pub sampled_by : Bool → Sampling
sampled_by true = Pairs
sampled_by false = Paths

-- before the first path
abbrev pub no_paths : Bool → Tally
no_paths mirrored =
    record { payoffs = no_moments; underlyings = no_moments; sampling = sampled_by mirrored }

-- with a sample more
unfoldable pub with_sample : Tally → Sample → Sampling → Tally
unfolding with_value
with_sample t sample sampling =
    record {
      payoffs = with_value t.payoffs sample.paid;
      underlyings = with_value t.underlyings sample.underlying;
      sampling = sampling;
    }

-- with a path more: it is a sample, or it waits for the second of its pair, or it is the second
abbrev pub taken_in : Tally → Sample → Sampling → Tally
taken_in t path Paths = with_sample t path Paths
taken_in t path Pairs =
    record { payoffs = t.payoffs; underlyings = t.underlyings; sampling = PairBegun path }
taken_in t path (PairBegun first) = with_sample t (averaged first path) Pairs

-- with a path more, whose underlying is u, and its lowest spot this
unfoldable pub with_path : Payoff → Tally → Float → Float → Tally
unfolding with_sample averaged payoff_of
with_path payoff t u lowest =
    taken_in t (record { paid = payoff_of payoff u lowest; underlying = u }) t.sampling

-- ---- of the first n paths, `paid p` being what path p pays, and `underlying p` what it pays on

-- path p
abbrev pub path_of : (ℕ → Float) → (ℕ → Float) → ℕ → Sample
path_of paid underlying p = record { paid = paid p; underlying = underlying p }

-- after an odd number of paths the last one waits
abbrev pub sampling_after : Bool → (ℕ → Float) → (ℕ → Float) → ℕ → Sampling
sampling_after false paid underlying n = Paths
sampling_after true paid underlying n =
    cond (eqb (n % 2) 0) Pairs (PairBegun (path_of paid underlying n))

unfoldable pub tally_of : Bool → (ℕ → Float) → (ℕ → Float) → ℕ → Tally
unfolding moments_of average
tally_of mirrored paid underlying n =
    record {
      payoffs = moments_of (sample_of mirrored paid) (samples_in mirrored n);
      underlyings = moments_of (sample_of mirrored underlying) (samples_in mirrored n);
      sampling = sampling_after mirrored paid underlying n;
    }

-- ---- Rule 10.6: its estimates
unfoldable pub estimates_from : Tally → Estimates
unfolding estimate_of
estimates_from t =
    record { payoff = estimate_of t.payoffs; underlying = estimate_of t.underlyings }
