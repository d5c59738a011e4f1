-- Rules 13.1 and 13.2: the quadratic form of the VIX, from the exponential of the generator.
-- Definitions only.
use Rattle.std.specs.Prelude.{Bool, List, ℕ, ◌+◌, pos, Float}
use Rattle.std.specs.Float.{binary64}
use Rattle.std.specs.Float.Ieee.{of_int, div}
use Rattle.numeric.specs.Double.{over}
use Rattle.numeric.specs.Table.{tabulate}
use Rattle.model.specs.declared.Kernel.{Kernel}
use Rattle.model.specs.declared.Params.{Params}
use Rattle.matrix.specs.Matrix.{entry}
use Rattle.exponential.specs.Exponential.{exponential, exponential_finite}
use Rattle.generator_rows.specs.State.{pairs_before, integral_at, constant_at, dimension}
use Rattle.generator.specs.Generator.{generator}
use Rattle.vix.specs.declared.Vix.{Vix}

-- Rule 13.1: the integral's row of a matrix over the state makes a form in n factors: the
-- coefficients of the factors, of the pairs and the constant. Its scale is 10000 / window.
unfoldable pub form_of : ℕ → Float → List Float → Vix
unfolding tabulate div of_int pairs_before
form_of n window m =
    let row = entry (dimension n) m (integral_at n) in
    record {
      n = n;
      scale = over (of_int binary64 (pos 10000)) window;
      constant = row (constant_at n);
      linear = tabulate n row;
      pairs = tabulate (pairs_before n n) (λ i. row (n + i));
    }

-- Rule 13.1: the form over a window, from the exponential of the generator
unfoldable pub vix_of : Kernel → Params → Float → Vix
unfolding form_of exponential generator pairs_before
vix_of k p window =
    form_of k.n window (exponential (dimension k.n) (generator k p window))

-- Rule 13.2: the exponential of the generator is finite (rule 12.8)
unfoldable pub moments_finite : Kernel → Params → Float → Bool
unfolding exponential_finite generator pairs_before
moments_finite k p window = exponential_finite (dimension k.n) (generator k p window)
