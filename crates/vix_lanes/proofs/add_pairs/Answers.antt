use mathlib.Core.Path.{refl, sym, ◌∙◌}
use native.Mathlib.Omega.{arith}
use Rattle.vix.specs.Form.{row_value}
use Rattle.generator_rows.proofs.Pairs.{row_most}
use Rattle.vix_lanes.proofs.Forms.{pair_more}
use Rattle.vix_lanes.proofs.add_pairs.Goals as goal

pub loop-m-init : goal.loop-m-init
unfolding row_value
loop-m-init c =
    let few = c.requires in
    (rw few.2 (row_most c.args.n c.args.i few.0 few.1), λ v l a b h. refl)

pub loop-m-preserved : goal.loop-m-preserved
loop-m-preserved c =
    let inv = c.loop-m.invariant in (
      inv.0,
      λ v l a b h.
          c.add_products-next.ensures l h
          ∙ rw (c.multiples-of_left.ensures l h, sym b, c.requires.2)
          (pair_more v c.args.n c.args.i l c.args.factors.now _ _ c.loop-m.m a (omega arith) (inv.1 v l a b h)),
    )
