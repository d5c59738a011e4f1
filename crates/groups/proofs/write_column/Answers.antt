use Prim.Native.Nat.{ℕ, ◌+◌, ◌*◌, ◌≤◌, ◌<◌}
use mathlib.Core.Path.{refl}
use native.Mathlib.Nat.{mul-le-mul_right}
use native.Mathlib.Omega.{arith}
use borrow.Author.Rules.{rules}
use Rattle.groups.proofs.Rows.{columns_more}
use Rattle.groups.proofs.write_column.Goals as goal

-- the place of an entry
place : (l count segment : ℕ) → l ≤ 3 → count ≤ 64 → segment < count → l * count + segment < 256
place l count segment below few inside =
    omega (arith, few, inside, mul-le-mul_right count below)

pub loop-l-preserved : goal.loop-l-preserved
loop-l-preserved c =
    let inside = place c.loop-l.l c.args.count c.args.segment (omega arith) c.requires.0 c.requires.1 in
    (search rules, columns_more _ _ _ c.loop-l.l _ c.loop-l.rows _ c.requires.1 (omega (arith, inside)) c.loop-l.invariant.1 refl)
