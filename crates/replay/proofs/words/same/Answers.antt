-- `replay::words::same` meets its contract: a double is the one of its own bits. Assumes nothing.
use Rattle.std.proofs.Common.{sym, ap, ◌∙◌, eqb-true}
use Rattle.std.proofs.lemmas.Bool.{eq-eqb}
use Rattle.std.proofs.lemmas.Float.{T_from_true}
use lib.Ieee.{binary64, to_bits, of_bits}
use lib.Ieee.Bits.{of_bits-to_bits}
use Rattle.replay.proofs.words.same.Goals as goal

pub returns : goal.returns
returns c =
    let x = of_bits-to_bits binary64 c.args.x (T_from_true _ c.well_formed.0.1) in
    let y = of_bits-to_bits binary64 c.args.y (T_from_true _ c.well_formed.1.0.1) in
    let x_bits = c.f64_to_bits_with_nan.ensures in
    let y_bits = c.f64_to_bits_with_nan-2.ensures in (
      λ e. sym x ∙ ap (of_bits binary64) (sym x_bits ∙ eqb-true _ _ e ∙ y_bits) ∙ y,
      λ e. eq-eqb _ _ (x_bits ∙ ap (to_bits binary64) e ∙ sym y_bits),
    )
