-- The form as the code has it, and what its admission answers. Definitions only.
use Rattle.std.specs.Prelude.{◌≡◌, List, length, take, Float}
use Rattle.std.specs.Prelude.{Result, IfOk}
use Rattle.decimal.specs.declared.Decimal.{Decimal}
use Rattle.decimal.specs.Decimal.{value}
use Rattle.refusal.specs.declared.Refusal.{Refusal}
use Rattle.refusal.specs.Questions.{first_no, KeptUnlessPassed}
use Rattle.refusal.specs.Inner.Outcomes.{outcome_of}
use Rattle.model.specs.declared.Kernel.{Kernel}
use Rattle.model.specs.declared.Params.{Params}
use Rattle.generator_rows.specs.State.{pairs_before}
use Rattle.vix.specs.declared.Vix.{Vix}
use Rattle.vix.specs.Build.{vix_of}
use Rattle.vix.specs.Questions.{window_questions, form_questions}

-- The code keeps the coefficients in arrays of ten and of 55, of which the first n and
-- n × (n + 1) / 2 are in use.
abbrev pub vix_in_use : Vix → Vix
vix_in_use v =
    record {
      n = v.n;
      scale = v.scale;
      constant = v.constant;
      linear = take v.n v.linear;
      pairs = take (pairs_before v.n v.n) v.pairs;
    }

-- What the admission of the form answers: the outcome of its questions and, where all got a Yes,
-- the form. The workspace is as lent unless 15, 1 and 16 are passed.
pub record FormPrepared (k : Kernel) (p : Params) (window : Decimal) (lent after : List Float)
    (r : Result Vix Refusal) : Type 0 where
  pub outcome : outcome_of r ≡ first_no (form_questions k p window (length lent))
  pub ready : IfOk r (λ v. vix_in_use v ≡ vix_of k p (value window))
  pub workspace : KeptUnlessPassed (first_no (window_questions k.n window (length lent)))
      lent after
