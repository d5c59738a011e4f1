-- What the questions leave of a simulation: doubles of a known size, and a start that is read off
-- them. Definitions only.
use Rattle.std.specs.Prelude.{◌≡◌, true, false, ℕ, ◌≤◌, ◌<◌, pos, get_or, Float}
use Rattle.std.specs.Float.{nan, fin, binary64}
use Rattle.std.specs.Float.Ieee.{fits, le}
use Rattle.numeric.specs.Double.{plus_zero, magnitude}
use Rattle.model.specs.declared.Params.{Params}
use Rattle.model.specs.declared.State.{State}
use Rattle.model.specs.declared.Simulation.{Simulation}
use Rattle.model.specs.Kernel.{in_range}
use Rattle.model.specs.Step.{read}

-- Rule 3.4: a Decimal as converted is a double, and at most 2^96 in size, since its coefficient has
-- 96 bits (3.1)
pub record Converted (x : Float) : Type 0 where
  pub double : fits binary64 x ≡ true
  pub small : le (magnitude x) (fin false 1 (pos 96)) ≡ true

-- Rules 14.4 and 5.4: a is not negative, the spot is above zero, and each Decimal of the
-- parameters, with n factors, is converted
pub record ParamsReady (n : ℕ) (p : Params) (start : State) : Type 0 where
  pub a_not_negative : magnitude p.a ≡ p.a
  pub a : Converted p.a
  pub b : Converted p.b
  pub c : Converted p.c
  pub lambda : Converted p.lambda
  pub eta : Converted p.eta
  pub spot : Converted start.spot
  pub spot_above : le start.spot plus_zero ≡ false
  pub factor : (i : ℕ) → i < n → Converted (get_or start.factors i nan)

-- Rules 14.3 and 5.8: at most 10 weights, each in range; the parameters as above; and a start whose
-- z and variance are read off its factors, and whose lowest spot is its spot
pub record Admitted (s : Simulation) : Type 0 where
  pub few : s.kernel.n ≤ 10
  pub weight : (i : ℕ) → i < s.kernel.n → in_range (get_or s.kernel.weights i nan) ≡ true
  pub params : ParamsReady s.kernel.n s.params s.start
  pub start_read :
      s.start
      ≡ read s.kernel s.params s.start.spot s.start.spot s.start.factors
