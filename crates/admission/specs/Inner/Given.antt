-- What a call is given, as the code hands it on. Definitions only.
use Rattle.model.specs.Simulation.{Given, given}
use Rattle.admission.specs.declared.Given.{Given as Handed}

-- Rule 5.1: the tables, the model and the schedule
abbrev pub given_of : Handed → Given
given_of g = given g.weights.now g.discounts.now g.model g.schedule
