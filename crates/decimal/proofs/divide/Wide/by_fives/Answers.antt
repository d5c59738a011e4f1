use mathlib.Core.Path.{refl}
use Prim.Native.Nat.{◌-◌}
use Rattle.std.proofs.Common.{arith}
use Rattle.decimal.specs.Inner.Steps.{number}
use Rattle.decimal.proofs.Fives.{further, short_power}
use Rattle.decimal.proofs.divide.Wide.by_fives.Goals as goal

pub loop-left-preserved : goal.loop-left-preserved
loop-left-preserved c =
    let head = c.loop-left in (
      omega arith,
      further (number c.args.self) (c.args.scale - head.left) 13 _ _ head.q _ (omega arith) refl
          head.invariant.1 c.divided-q.ensures,
    )

pub divided-requires : goal.divided-requires
divided-requires c =
    short_power c.loop-left.left c.five_to.result (omega arith) c.five_to.ensures

pub returns : goal.returns
returns c =
    let head = c.loop-left in
    further (number c.args.self) (c.args.scale - head.left) head.left _ _ head.q _ (omega arith)
    c.five_to.ensures head.invariant.1 c.divided.ensures
