-- `admission::kernel::tables` meets its contract. After i entries, those of both tables are asked.
-- Assumes nothing.
use Rattle.std.proofs.Common.{◌≡◌}
use Rattle.refusal.specs.Questions.{first_no, each, passed}
use Rattle.admission.specs.Questions.{entry_questions}
use Rattle.admission.proofs.kernel.tables.Given as goal

abbrev pub invariant-loop-i : goal.invariant-loop-i
invariant-loop-i l = first_no (each (entry_questions l.weights l.discounts) l.i) ≡ passed
