use native.Mathlib.Omega.{arith}
use lib.Ieee.{nan}
use lib.Seq.{ext_get_or}
use Rattle.matrix.proofs.entries.copy.Goals as goal

pub returns : goal.returns
returns c =
    let same = c.loop-k.invariant in
    ext_get_or nan c.loop-k.into c.args.from.now same.long (λ j h. same.done j (omega arith))
