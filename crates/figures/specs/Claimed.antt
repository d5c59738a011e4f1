-- The batch's claim holds of a computed answer and table of each kind of batch. Assumes nothing.
use Rattle.std.specs.Prelude.{◌≡◌, ℕ, zero, suc, ◌<◌, ◌≤◌, true, [], ◌∷◌, get_or, refl}
use Rattle.std.proofs.Common.{arith}
use Rattle.std.specs.Float.{nan}
use Rattle.std.specs.Float.Ieee.{fits, le, round, of_bits}
use Rattle.numeric.specs.Double.{plus_zero, magnitude}
use Rattle.decimal.specs.declared.Decimal.{Decimal}
use Rattle.decimal.specs.Decimal.{value}
use Rattle.model.specs.Inner.Admitted.{Converted, Admitted}
use Rattle.model.specs.Inner.Laid.{Laid}
use Rattle.model.specs.Kernel.{in_range}
use Rattle.model.specs.Parameters.{start_of}
use Rattle.model.specs.TimeGrid.{last_step, grid_of}
use Rattle.model.specs.Simulation.{simulation_of}
use Rattle.paths.specs.Run.{table_after}
use Rattle.batch.specs.Report.{priced_run}
use Rattle.batch.specs.Claim.{BatchClaim}
use Rattle.batch.proofs.Claim.{batch_claim}
use Rattle.vanilla.specs.Call.{vanilla_batch, vanilla_payoff}
use Rattle.vix_batch.specs.Call.{vix_batch, payoff_for}
use Rattle.vix_value.specs.Call.{vix_call}
use Rattle.figures.specs.Given.{decimal, kernel, with_a, model, calm, one_step, given_of}
use Rattle.figures.specs.Admitted.{nine, mirrored, vix, lent, lent_four, price_of_nine}
use Rattle.figures.specs.Admitted.{price_of_mirrored, priced_at}

-- ---- what the questions leave of the model

rising :
    (f : ℕ → ℕ) → f 0 < f 1 → (i j : ℕ) → i < j → j ≤ 1 → f i < f j
rising f h zero zero l m = absurd (omega (arith, l))
rising f h zero (suc zero) l m = h
rising f h zero (suc (suc j)) l m = absurd (omega (arith, m))
rising f h (suc i) j l m = absurd (omega (arith, l, m))

one_laid : Laid (grid_of one_step)
unfolding grid_of
one_laid =
    record {
      some = omega arith;
      few = omega arith;
      short = omega arith;
      rises = rising (last_step (grid_of one_step)) (omega arith);
      ends = refl;
    }

at_first : (P : ℕ → Type 0) → P 0 → (i : ℕ) → i < 1 → P i
at_first P h zero l = h
at_first P h (suc i) l = absurd (omega (arith, l))

-- with an a as converted
admitted :
    (a : Decimal) → magnitude (value a) ≡ value a → Converted (value a)
    → Admitted (simulation_of (given_of (with_a a) one_step))
unfolding start_of in_range value round of_bits le fits
admitted a not_negative converted =
    record {
      few = omega arith;
      weight = at_first (λ i. in_range (get_or kernel.weights i nan) ≡ true) refl;
      params =
          record {
            a_not_negative = not_negative;
            a = converted;
            b = record { double = refl; small = refl };
            c = record { double = refl; small = refl };
            lambda = record { double = refl; small = refl };
            eta = record { double = refl; small = refl };
            spot = record { double = refl; small = refl };
            spot_above = refl;
            factor =
                at_first (λ i. Converted (get_or (start_of kernel (with_a a)).factors i nan))
                (record { double = refl; small = refl });
          };
      start_read = refl;
    }

model_admitted : Admitted (simulation_of (given_of model one_step))
unfolding value round of_bits le fits
model_admitted = admitted (decimal 1 0) refl (record { double = refl; small = refl })

calm_admitted : Admitted (simulation_of (given_of calm one_step))
unfolding value round of_bits le fits
calm_admitted = admitted (decimal 0 0) refl (record { double = refl; small = refl })

-- ---- the claim, of what the definitions answer

-- P9: price 25 and error 25, spot 75 and error 75, one path non-positive, 2 steps
pub nine_claimed :
    BatchClaim (vanilla_batch nine) (vanilla_payoff nine) lent
    (value (decimal 150 0) ∷ plus_zero ∷ []) price_of_nine
unfolding start_of grid_of table_after priced_run value round of_bits
nine_claimed =
    batch_claim (vanilla_batch nine) (vanilla_payoff nine) one_laid model_admitted lent refl

-- spots 150, 50, 125 and 75
pub mirrored_claimed :
    BatchClaim (vanilla_batch mirrored) (vanilla_payoff mirrored) lent_four
    (value (decimal 150 0)
    ∷ value (decimal 50 0)
    ∷ value (decimal 125 0)
    ∷ value (decimal 75 0)
    ∷ [])
    price_of_mirrored
unfolding start_of grid_of table_after priced_run value round of_bits
mirrored_claimed =
    batch_claim (vanilla_batch mirrored) (vanilla_payoff mirrored) one_laid model_admitted lent_four
    refl

-- VIX squared 40000 and index 200, on both paths
pub vix_claimed :
    BatchClaim (vix_batch vix) (payoff_for vix.order.payoff) lent
    (value (decimal 40000 0) ∷ value (decimal 40000 0) ∷ [])
    (priced_at (value (decimal 200 0)) plus_zero (value (decimal 200 0)) plus_zero (2 ∷ []) 2)
unfolding start_of grid_of vix_call table_after priced_run value round of_bits
vix_claimed =
    batch_claim (vix_batch vix) (payoff_for vix.order.payoff) one_laid calm_admitted lent refl
