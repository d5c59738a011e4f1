-- A form at the factors given. Definitions only.
use Rattle.std.specs.Prelude.{Result, Err}
use Rattle.refusal.specs.declared.Refusal.{Refusal}
use Rattle.refusal.specs.Questions.{first_no, once_asked}
use Rattle.model.specs.Parameters.{factors_of}
use Rattle.vix.specs.declared.Vix.{Vix}
use Rattle.vix.specs.declared.Evaluation.{Evaluation}
use Rattle.vix.specs.Evaluation.{evaluation}
use Rattle.vix_value.specs.declared.Factors.{Factors}
use Rattle.vix_value.specs.Answer.{of_no_path}
use Rattle.vix_value.specs.Call.{given_questions}

-- the form at them, once they are asked
unfoldable pub value_at : Vix → Factors → Result Evaluation Refusal
unfolding given_questions evaluation factors_of
value_at form given =
    once_asked (first_no (given_questions form.n given)) Err
    (of_no_path (evaluation form (factors_of form.n given.factors)))
