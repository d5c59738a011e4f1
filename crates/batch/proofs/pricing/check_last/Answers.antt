use Rattle.refusal.specs.Questions.{first_no}
use Rattle.batch.proofs.pricing.check_last.Goals as goal

pub returns-in-Spot : goal.returns-in-Spot
unfolding first_no
returns-in-Spot c = rw c.in-Spot.is
