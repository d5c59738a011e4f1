-- `decimal::Decimal::nearest_double` meets its contract: what its steps answer is what `double_of`
-- asks. Assumes nothing.
use Rattle.std.proofs.Common.{◌≡◌, ℕ, ◌-◌, Bool, true, ◌||◌, nat_lt, sym, ap, ◌∙◌, rules, lt-ltb}
use native.Mathlib.Nat.{pos_of_ne-zero}
use lib.Ieee.{binary64, units}
use Rattle.decimal.specs.Decimal.{coefficient}
use Rattle.decimal.proofs.Whole.{quotient_pos, double_of}
use Rattle.decimal.proofs.Zero.{not_zero}
use Rattle.decimal.proofs.Decimal.nearest_double.Goals.{After-assembled, then-top-ne0, else-top-ne0}
use Rattle.decimal.proofs.Decimal.nearest_double.Goals as goal

follows : (c : After-assembled) → c.if-top-ne0.inexact ≡ (nat_lt 0 c.aligned-top.result.number.low || c.by_fives-quotient.result.inexact)
follows c =
    let more = c.by_fives-quotient.result.inexact in
    let low = c.aligned-top.result.number.low in
    elim c.if-top-ne0.branch [
      | then-top-ne0 w ↦
          let some : nat_lt 0 low ≡ true = lt-ltb 0 low (pos_of_ne-zero w.if-top-ne0.true) in
          w.inexact-is ∙ not_zero low ∙ some ∙ sym (ap (λ (t : Bool). t || more) some)
      | else-top-ne0 w ↦ w.inexact-is ∙ sym (ap (λ (n : ℕ). nat_lt 0 n || more) w.if-top-ne0.false)
    ]

pub aligned-top-requires : goal.aligned-top-requires
aligned-top-requires c =
    let d = c.args.self in
    quotient_pos (coefficient d) d.scale c.aligned-first.result c.by_fives-quotient.result c.requires.1 c.aligned-first.ensures
    c.by_fives-quotient.ensures

pub returns : goal.returns
returns c =
    let d = c.args.self in
    let first = c.aligned-first in
    let quotient = c.by_fives-quotient in
    let top = c.aligned-top in
    c.assembled.ensures
    ∙ ap (λ (z : ℕ). units binary64 d.negative z (1149 - first.result.shift - top.result.shift - d.scale)) c.rounded-significand.ensures
    ∙ sym (double_of (coefficient d) d.scale first.result quotient.result c.requires.1 first.ensures quotient.ensures
    top.result c.if-top-ne0.inexact d.negative top.ensures (search rules) (search rules) (follows c))
