use mathlib.Core.Path.{sym, ◌∙◌}
use native.Mathlib.Omega.{arith}
use lib.Ieee.{nan}
use lib.Seq.{ext_get_or}
use Rattle.matrix.proofs.Lists.{length_scaled, get_d_scaled}
use Rattle.matrix.proofs.entries.scale.Goals as goal

pub returns : goal.returns
returns c =
    ext_get_or nan c.loop-x.m _ (c.loop-x.auto.m ∙ sym (length_scaled _ _))
    (λ j h. c.loop-x.invariant.done j (omega arith) ∙ sym (get_d_scaled _ _ j))
