-- `trace::walk::write_factors` meets its contract: a part of the table is copied. Assumes nothing.
use mathlib.Core.Path.{ap, ◌∙◌}
use Prim.Native.Nat.{◌+◌, ◌*◌, ◌-◌}
use native.Mathlib.Omega.{arith}
use lib.Ieee.{nan}
use lib.ListN.{get_or, length}
use Rattle.numeric.proofs.Parts.{put_before, put_in, put_after}
use Rattle.trace.proofs.walk.write_factors.Goals as goal

pub returns : goal.returns
returns c =
    let n = length c.args.values.now in
    let at = c.args.point * n in
    let lent = c.args.factors.now in
    let new = c.copy_from_slice.new.self in
    record {
      front = put_before nan lent new at (at + n - at) (omega arith);
      new = λ i h.
          put_in nan lent new at (at + n - at) (omega arith) i (omega arith)
          ∙ ap (λ xs. get_or xs i nan) c.copy_from_slice.ensures.after;
      back = put_after nan lent new at (at + n) (omega arith) (omega arith) (omega arith);
    }
