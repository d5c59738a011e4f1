-- What the steps of the conversion of rule 3.4 give. Definitions only.
use Rattle.std.specs.Prelude.{◌≡◌, Bool, ◌||◌, cond, nat_lt}
use Rattle.std.specs.Prelude.{ℕ, ◌+◌, ◌*◌, ◌/◌, ◌%◌, ◌^◌, ◌≤◌, ◌<◌}
use Rattle.decimal.specs.declared.divide.Wide.{Wide}
use Rattle.decimal.specs.declared.divide.Aligned.{Aligned}
use Rattle.decimal.specs.declared.divide.Divided.{Divided}
use Rattle.decimal.specs.declared.divide.Quotient.{Quotient}

-- a number of two words
abbrev pub wide : ℕ → ℕ → ℕ
wide high low = high * 2 ^ 64 + low

abbrev pub number : Wide → ℕ
number w = wide w.high w.low

-- the last binary digit of a number that goes on below it: 1 where anything follows, else 0
abbrev pub digit : Bool → ℕ
digit follows = cond follows 1 0

-- n is moved left by `shift` digits, so that bit 127 is its highest
pub record IsAligned (n : ℕ) (r : Aligned) : Type 0 where
  pub same : number r.number ≡ n * 2 ^ r.shift
  pub top : 2 ^ 63 ≤ r.number.high
  pub short : r.shift < 128

-- a whole quotient and what is left of n
pub record IsDivided (n by : ℕ) (r : Divided) : Type 0 where
  pub whole : r.quotient * by + r.rest ≡ n
  pub less : r.rest < by

-- one more factor is divided out of a quotient, which is inexact where this division was or one
-- before it
pub record IsDividedOnce (q : Quotient) (by : ℕ) (r : Quotient) : Type 0 where
  pub whole : number r.whole ≡ number q.whole / by
  pub sticky : r.inexact ≡ (q.inexact || nat_lt 0 (number q.whole % by))

-- the whole quotient of n by d, and whether anything is left over
pub record IsQuotient (n d : ℕ) (r : Quotient) : Type 0 where
  pub whole : number r.whole ≡ n / d
  pub sticky : r.inexact ≡ nat_lt 0 (n % d)
