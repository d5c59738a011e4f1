-- `form::of_matrix` meets its contract. Assumes nothing.
use mathlib.Core.Path.{◌≡◌, refl, sym, ◌∙◌}
use Prim.Native.Nat.{◌+◌, ◌-◌, ◌*◌}
use native.Mathlib.Omega.{arith}
use lib.ListN.{drop, length-drop}
use lib.Seq.{length-take-le}
use lib.Ieee.{of_bits, of_int}
use Rattle.vix.proofs.Sizes.{few_pairs, row_within}
use Rattle.vix.proofs.Copying.{copied_front}
use Rattle.vix.proofs.Formed.{formed}
use Rattle.vix.proofs.form.of_matrix.Goals as goal

pub slice_bounds-pairs-end : goal.slice_bounds-pairs-end
slice_bounds-pairs-end c =
    few_pairs c.requires.0 c.pairs_before-count.ensures

pub slice_bounds-copy_from_slice-end-3 : goal.slice_bounds-copy_from_slice-end-3
slice_bounds-copy_from_slice-end-3 c =
    sym (length-take-le _ _ (few_pairs c.requires.0 c.pairs_before-count.ensures))

pub copy_from_slice-requires-2 : goal.copy_from_slice-requires-2
copy_from_slice-requires-2 c =
    let count = c.pairs_before-count.result in
    let first = (c.args.dim - 2) * c.args.dim + c.args.n in
    let rest = drop first c.args.work.now in
    let within = row_within c.requires.0 c.requires.1 in
    let whole : first + count - first ≡ count = omega arith in
    length-take-le _ _ (few_pairs c.requires.0 c.pairs_before-count.ensures)
    ∙ sym (rw whole
    (length-take-le count rest
    (omega (
      arith,
      length-drop first c.args.work.now,
      within,
      c.requires.1,
      c.requires.2,
      c.pairs_before-count.ensures,
    ))))

pub returns : goal.returns
unfolding of_bits of_int
returns c =
    let work = c.args.work.now in
    let at = (c.args.dim - 2) * c.args.dim in
    let count = c.pairs_before-count in
    let within = row_within c.requires.0 c.requires.1 in
    formed c.args.n c.requires.1 work c.args.window _ _ _ count.result refl refl
    (copied_front c.args.n at work (omega (arith, within, c.requires.1, c.requires.2))
    c.copy_from_slice.ensures.after _)
    count.ensures
    (copied_front count.result (at + c.args.n) work
    (omega (arith, within, c.requires.1, c.requires.2, count.ensures))
    c.copy_from_slice-2.ensures.after _)
