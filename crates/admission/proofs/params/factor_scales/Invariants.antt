-- `admission::params::factor_scales` meets its contract. After i factors, question 1 of each is
-- passed. Assumes nothing.
use Rattle.std.proofs.Common.{◌≡◌}
use Rattle.refusal.specs.Questions.{first_no, each, passed}
use Rattle.admission.specs.Questions.{factor_questions}
use Rattle.admission.proofs.params.factor_scales.Given as goal

abbrev pub invariant-loop-i : goal.invariant-loop-i
invariant-loop-i l = first_no (each (factor_questions l.factors) l.i) ≡ passed
