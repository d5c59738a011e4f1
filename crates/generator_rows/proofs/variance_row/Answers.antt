use mathlib.Core.Path.{◌≡◌, refl, sym, ap, ◌∙◌, subst}
use mathlib.Core.List.{List, [], ◌∷◌}
use Prim.Native.Nat.{ℕ, ◌+◌, ◌-◌, ◌<◌, ◌≤◌}
use native.Mathlib.Omega.{arith}
use borrow.Author.Rules.{rules}
use lib.ListN.{length, set, length-set}
use lib.Ieee.{Float, of_bits}
use Rattle.numeric.specs.Double.{plus_zero}
use Rattle.model.specs.Tables.{Tables}
use Rattle.model.specs.declared.Kernel.{Kernel}
use Rattle.model.specs.declared.Params.{Params}
use Rattle.model.specs.Inner.InUse.{kernel_in_use}
use Rattle.generator_rows.specs.Inner.Appended.{Appended}
use Rattle.generator_rows.specs.State.{dimension, integral_at, pairs_of_rows}
use Rattle.generator_rows.specs.Inner.Order.{InOrder}
use Rattle.generator_rows.specs.Rows.{mean_coefficient, pair_coefficient}
use Rattle.generator_rows.specs.Rows.{constant_coefficient, variance_row}
use Rattle.generator_rows.proofs.Places.{integral_most, first_pair}
use Rattle.generator_rows.proofs.Appending.{appended_one, rows_none, rows_more, order_written}
use Rattle.generator_rows.proofs.Appending.{length_of_rows, is_front, length_singles}
use Rattle.generator_rows.proofs.Order.{variance_in_order}
use Rattle.generator_rows.proofs.variance_row.Invariants.{coefficient}
use Rattle.generator_rows.proofs.variance_row.Goals as goal

abbrev InVarianceOrder : Kernel → Params → List Float → Type 0
InVarianceOrder k p row =
    InOrder k.n (mean_coefficient (kernel_in_use k) p) (pair_coefficient (kernel_in_use k) p)
    plus_zero
    (constant_coefficient p) row

pub loop-i-init : goal.loop-i-init
loop-i-init c = record { long = search rules; written = rows_none _ _ _ _ }

pub loop-i-preserved : goal.loop-i-preserved
loop-i-preserved c =
    let n = c.args.k.n in
    let before = length_of_rows 1 (coefficient c.args.k c.args.p) (λ i j. refl) n c.loop-i.i in
    record {
      long = c.pair_coefficients.array_long;
      written =
          rows_more _ n c.loop-i.i c.loop-i.invariant.written c.pair_coefficients.ensures
          (first_pair n c.loop-i.i ∙ omega (arith, before));
    }

pub returns : goal.returns
unfolding variance_row of_bits
returns c =
    let k = c.args.k in
    let p = c.args.p in
    let n = k.n in
    let row = c.loop-i.row in
    let at = c.dimension_of-dim.result - 2 in
    let last = c.dimension_of-dim.result - 1 in
    let count : c.k.inside.n ≡ n = ap (λ (v : Tables). v.n) c.k.view_is in
    let all : c.loop-i.i ≡ n = omega arith in
    let dim =
    c.dimension_of-dim.ensures ∙ ap (λ (v : Tables). dimension v.n) c.k-2.view_is in
    let place : at ≡ integral_at n = omega (arith, dim) in
    let after : last ≡ at + 1 = omega (arith, dim) in
    let pairs =
    subst
    (λ (i : ℕ). Appended n (pairs_of_rows (coefficient k p) n i) c.mean_coefficients-row.result row)
    all c.loop-i.invariant.written in
    let few : n ≤ 10 = omega (arith, c.k.invariant) in
    let most = integral_most few in
    let first : at < length row = omega arith in
    let second : last < length (set row at plus_zero) = omega (arith, length-set row at plus_zero)
    in
    let is =
    order_written 1 n (λ i. mean_coefficient (kernel_in_use k) p i ∷ []) (coefficient k p)
    (λ i. refl) (λ i j. refl) refl refl (dimension n)
    (is_front [] c.mean_coefficients-row.result c.mean_coefficients-row.ensures
    (length_singles _ n))
    pairs (omega arith)
    (appended_one at row plus_zero first) (place ∙ omega arith)
    (appended_one last (set row at plus_zero) _ second) (omega (arith, place, after))
    (omega arith) in
    record {
      row = is;
      order = subst (InVarianceOrder k p) (sym is) (variance_in_order (kernel_in_use k) p);
    }
