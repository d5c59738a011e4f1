-- What passes the questions is admitted: Decimals that are converted, weights in range, and a start
-- that is read off them. Assumes nothing.
use mathlib.Core.Path.{◌≡◌, refl, sym, ap, ◌∙◌, subst}
use mathlib.Core.Bool.{true, false}
use mathlib.Core.List.{List, [], ◌∷◌, ◌++◌}
use Prim.Native.Nat.{ℕ, ◌*◌, ◌^◌, ◌≤◌, ◌<◌}
use native.Mathlib.Nat.{le_trans, le_of_eq, mul-one, one-mul}
use borrow.Author.Tests.{not-true}
use lib.IntN.{ℤ, pos}
use lib.ListN.{get_or, length}
use lib.Seq.{get_or-take}
use lib.Ieee.{Float, nan, fin, le, up, down}
use lib.Ieee.Bits.{is_true}
use Rattle.numeric.specs.Double.{magnitude}
use Rattle.numeric.proofs.Order.{ordered→le}
use Rattle.numeric.proofs.Tables.{get_d_tabulate}
use Rattle.decimal.specs.declared.Decimal.{Decimal}
use Rattle.decimal.specs.Decimal.{coefficient, is_negative, is_positive, scale_fits, value}
use Rattle.decimal.proofs.Value.{converts, positive_value, value_fits}
use Rattle.std.specs.Prelude.{Ok, Err}
use Rattle.refusal.specs.Questions.{first_no, each, passed}
use Rattle.refusal.specs.declared.Refusal.{Refusal}
use Rattle.refusal.proofs.Laws.{passed_first, passed_then, passed_head, passed_tail, stops, then}
use Rattle.model.specs.declared.Kernel.{Kernel}
use Rattle.model.specs.declared.Model.{Model}
use Rattle.admission.specs.declared.params.Initial.{Initial}
use Rattle.model.specs.declared.Params.{Params}
use Rattle.model.specs.declared.State.{State}
use Rattle.model.specs.declared.TimeGrid.{TimeGrid}
use Rattle.model.specs.declared.Simulation.{Simulation}
use Rattle.model.specs.Parameters.{zero_decimal, params_of, factors_of, start_of}
use Rattle.admission.specs.Questions.{factor_questions, range_questions, scale_questions, params_questions}
use Rattle.model.specs.Step.{read}
use Rattle.model.specs.Questions.{scale_question}
use Rattle.model.specs.Inner.InUse.{kernel_in_use, state_in_use, simulation_in_use}
use Rattle.model.specs.Inner.Admitted.{Converted, ParamsReady, Admitted}
use Rattle.model.specs.Simulation.{Given, simulation_of}
use Rattle.schedule.specs.Questions.{schedule_questions}
use Rattle.schedule.specs.Inner.Admission.{SchedulePrepared}
use Rattle.admission.specs.Questions.{kernel_questions, model_questions}
use Rattle.admission.specs.Inner.Admission.{KernelPrepared, ParamsPrepared, ModelPrepared}

-- ---- one Decimal
at_most : (m : ℕ) (e : ℤ) → m * up e ≤ 2 ^ 96 * down e → le (fin false m e) (fin false 1 (pos 96)) ≡ true
at_most m e h =
    ordered→le (fin false m e) (fin false 1 (pos 96)) refl refl
    (le_trans (le_of_eq (mul-one (m * up e))) (le_trans h (le_of_eq (ap (λ (x : ℕ). x * down e) (sym (one-mul (2 ^ 96)))))))

module _ (d : Decimal) (W : coefficient d < 2 ^ 96) where
  pub value_converted : Converted (value d)
  value_converted =
      let c = converts d W in
      record {
        double = is_true _ (value_fits d);
        small = ap (λ (x : Float). le (magnitude x) (fin false 1 (pos 96))) c.is ∙ at_most c.m c.e c.most;
      }

  pub value_not_negative : is_negative d ≡ false → magnitude (value d) ≡ value d
  value_not_negative h =
      let c = converts d W in
      let unsigned : value d ≡ fin false c.m c.e = c.is ∙ rw h in
      ap magnitude unsigned ∙ sym unsigned

-- ---- the parameters
-- Every value of the struct is a Decimal: its coefficient has 96 bits.
pub record Coefficients (p : Model) : Type 0 where
  pub a : coefficient p.a < 2 ^ 96
  pub b : coefficient p.b < 2 ^ 96
  pub c : coefficient p.c < 2 ^ 96
  pub lambda : coefficient p.lambda < 2 ^ 96
  pub eta : coefficient p.eta < 2 ^ 96
  pub spot : coefficient p.spot < 2 ^ 96
  pub factor : (i : ℕ) → i < 10 → coefficient (get_or p.factors i zero_decimal) < 2 ^ 96

module _ (n : ℕ) (p : Model) where
  a_passed : first_no (params_questions n p) ≡ passed → is_negative p.a ≡ false
  unfolding params_questions range_questions
  a_passed h = not-true (is_negative p.a) (passed_head _ _ (passed_first (range_questions n p) (scale_questions n p) h))

  -- the spot is positive, and its scale, asked last, fits
  spot_passed : first_no (params_questions n p) ≡ passed → is_positive p.spot ≡ true
  unfolding params_questions range_questions
  spot_passed h =
      let ranges = passed_first (range_questions n p) (scale_questions n p) h in
      passed_head _ _ (passed_tail _ _ (passed_tail _ _ (passed_tail _ _ (passed_tail _ _ ranges))))

  spot_fits : first_no (params_questions n p) ≡ passed → scale_fits p.spot ≡ true
  unfolding params_questions scale_questions
  spot_fits h =
      let scales = passed_then (range_questions n p) (scale_questions n p) h in
      let factors = passed_tail _ _ (passed_tail _ _ (passed_tail _ _ (passed_tail _ _ (passed_tail _ _ scales)))) in
      passed_head (scale_question p.spot) [] (passed_then (each (factor_questions p.factors) n) (scale_question p.spot ∷ []) factors)

  module _ (few : n ≤ 10) (held : Coefficients p) where
    factor_converted : (i : ℕ) → i < n → Converted (get_or (factors_of n p.factors) i nan)
    unfolding factors_of
    factor_converted i h =
        rw (get_d_tabulate n i (λ j. value (get_or p.factors j zero_decimal)) nan h) (value_converted (get_or p.factors i zero_decimal) (held.factor i (le_trans h few)))

pub params_ready : (k : Kernel) (p : Model) → k.n ≤ 10 → Coefficients p → first_no (params_questions k.n p) ≡ passed → ParamsReady k.n (params_of p) (start_of (kernel_in_use k) p)
unfolding start_of read
params_ready k p few held all =
    record {
      a_not_negative = value_not_negative p.a held.a (a_passed k.n p all);
      a = value_converted p.a held.a;
      b = value_converted p.b held.b;
      c = value_converted p.c held.c;
      lambda = value_converted p.lambda held.lambda;
      eta = value_converted p.eta held.eta;
      spot = value_converted p.spot held.spot;
      spot_above = positive_value p.spot held.spot (spot_passed k.n p all) (spot_fits k.n p all);
      factor = factor_converted k.n p few held;
    }

-- what admission ensures
module _ (k : Kernel) (p : Model) where
  pub params_prepared : (x : Initial) → k.n ≤ 10 → Coefficients p → first_no (range_questions k.n p) ≡ passed → first_no (scale_questions k.n p) ≡ passed → x.params ≡ params_of p → state_in_use k.n x.start ≡ start_of (kernel_in_use k) p → ParamsPrepared k p (Ok x)
  unfolding params_questions
  params_prepared x few held values scales params start =
      let all = then (range_questions k.n p) (scale_questions k.n p) values ∙ scales in
      record {
        outcome = sym all;
        ready =
            record {
              params = params;
              start = start;
              ready =
                  subst (λ (y : Params). ParamsReady k.n y (state_in_use k.n x.start)) (sym params)
                  (subst (ParamsReady k.n (params_of p)) (sym start) (params_ready k p few held all));
            };
      }

-- ---- the model
-- a start is read off its own spot and factors
starts_read : (k : Kernel) (p : Model) (params : Params) (s : State) → params ≡ params_of p → s ≡ start_of k p → s ≡ read k params s.spot s.spot s.factors
unfolding start_of read
starts_read k p params s r e =
    subst (λ (x : Params). s ≡ read k x s.spot s.spot s.factors) (sym r)
    (subst (λ (x : State). x ≡ read k (params_of p) x.spot x.spot x.factors) (sym e) refl)

module _ (m : Given) (r : Refusal) where
  -- a refusal prepares nothing
  pub model_refused : first_no (model_questions m) ≡ Err r → ModelPrepared m (Err r)
  model_refused e = record { outcome = sym e; ready = tt }

  pub kernel_first : first_no (kernel_questions m.weights m.discounts) ≡ Err r → ModelPrepared m (Err r)
  unfolding model_questions
  kernel_first e =
      let kernel = kernel_questions m.weights m.discounts in
      let params = params_questions (length m.weights) m.model in
      model_refused (stops (kernel ++ params) (schedule_questions m.schedule) r (stops kernel params r e))

-- the parameters are asked of as many factors as there are weights
pub params_asked :
    {weights discounts : List Float} {k : Kernel} → KernelPrepared weights discounts (Ok k)
    → (p : Model)
    → first_no (params_questions k.n p) ≡ first_no (params_questions (length weights) p)
params_asked tables p = ap (λ (x : Kernel). first_no (params_questions x.n p)) tables.ready.in_use

module _ (m : Given) (k : Kernel) (tables : KernelPrepared m.weights m.discounts (Ok k)) where
  pub params_first : (r : Refusal) → ParamsPrepared k m.model (Err r) → ModelPrepared m (Err r)
  unfolding model_questions
  params_first r e =
      let kernel = kernel_questions m.weights m.discounts in
      let params = params_questions (length m.weights) m.model in
      let asked = then kernel params (sym tables.outcome) ∙ sym (params_asked tables m.model) ∙ sym e.outcome in
      model_refused m r (stops (kernel ++ params) (schedule_questions m.schedule) r asked)

  module _ (x : Initial) (initial : ParamsPrepared k m.model (Ok x)) where
    params_passed : first_no (params_questions (length m.weights) m.model) ≡ passed
    params_passed = sym (params_asked tables m.model) ∙ sym initial.outcome

    through : first_no (model_questions m) ≡ first_no (schedule_questions m.schedule)
    unfolding model_questions
    through =
        let kernel = kernel_questions m.weights m.discounts in
        let params = params_questions (length m.weights) m.model in
        then (kernel ++ params) (schedule_questions m.schedule)
        (then kernel params (sym tables.outcome) ∙ params_passed)

    pub schedule_first : (r : Refusal) → SchedulePrepared m.schedule (Err r) → ModelPrepared m (Err r)
    schedule_first r e = model_refused m r (through ∙ sym e.outcome)

    module _ (grid : TimeGrid) (laid : SchedulePrepared m.schedule (Ok grid)) where
      abbrev over : Simulation
      over = record { kernel = k; params = x.params; start = x.start; grid = grid }

      pub admitted : Admitted (simulation_in_use over)
      admitted =
          record {
            few = tables.ready.few;
            weight = λ i h. rw (get_or-take k.n k.weights i nan h) (tables.ready.weight i h);
            params = initial.ready.ready;
            start_read =
                starts_read (kernel_in_use k) m.model x.params (state_in_use k.n x.start) initial.ready.params
                initial.ready.start;
          }

      in_use : simulation_in_use over ≡ simulation_of m
      in_use =
          let start = initial.ready.start ∙ ap (λ (y : Kernel). start_of y m.model) tables.ready.in_use in
          rw (tables.ready.in_use, initial.ready.params, start, laid.ready.in_use)

      pub model_prepared : ModelPrepared m (Ok over)
      model_prepared =
          record {
            outcome = sym (through ∙ sym laid.outcome);
            ready =
                record {
                  in_use = in_use;
                  admitted = admitted;
                  laid = laid.ready.laid;
                  some = tables.ready.some;
                  few = tables.ready.few;
                };
          }
