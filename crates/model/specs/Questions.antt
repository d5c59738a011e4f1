-- The question that is asked of every Decimal. Definitions only.
use Rattle.decimal.specs.declared.Decimal.{Decimal}
use Rattle.decimal.specs.Decimal.{scale_fits}
use Rattle.refusal.specs.Questions.{Question, ask}
use Rattle.refusal.specs.declared.Refusal.TheVariants.{Scale}

-- Rule 14.5: 1, a Decimal fits
abbrev pub scale_question : Decimal → Question
scale_question d = ask Scale (scale_fits d)
