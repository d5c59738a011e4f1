-- The form that is read off the integral's row of a matrix. Assumes nothing.
use mathlib.Core.Path.{◌≡◌, refl, sym, ap, ◌∙◌}
use mathlib.Core.List.{List}
use Prim.Native.Nat.{ℕ, ◌+◌, ◌-◌, ◌*◌, ◌<◌}
use native.Mathlib.Omega.{arith}
use lib.IntN.{pos}
use lib.ListN.{get_or, take}
use lib.Seq.{get_or-take}
use lib.Ieee.{Float, nan, binary64, of_int}
use Rattle.numeric.specs.Double.{over}
use Rattle.numeric.specs.Table.{tabulate}
use Rattle.numeric.proofs.Tables.{tabulate_same}
use Rattle.matrix.specs.Matrix.{entry}
use Rattle.matrix.specs.Inner.Workspace.{matrix_at}
use Rattle.matrix.proofs.Cells.{inside}
use Rattle.vix.specs.declared.Vix.{Vix}
use Rattle.generator_rows.specs.State.{pairs_before}
use Rattle.vix.specs.Inner.Form.{vix_in_use}
use Rattle.generator_rows.specs.State.{dimension, integral_at}
use Rattle.vix.specs.Build.{form_of}

form_same : {n : ℕ} {s s' c c' : Float} {l l' p p' : List Float} → s ≡ s' → c ≡ c' → l ≡ l' → p ≡ p'
    → ◌≡◌ {A = Vix} (record { n = n; scale = s; constant = c; linear = l; pairs = p })
    (record { n = n; scale = s'; constant = c'; linear = l'; pairs = p' })
form_same e f g h = rw (e, f, g, h)

module _ (n : ℕ) {dim : ℕ} (d : dim ≡ dimension n) (work : List Float) where
  -- the integral's row begins at (dim - 2) × dim
  at_integral : {at column : ℕ} → at ≡ (dim - 2) * dim + column → column < dimension n
      → get_or work at nan
      ≡ entry (dimension n) (matrix_at (dimension n) 0 work) (integral_at n) column
  at_integral {at} {column} e h =
      ap (λ (k : ℕ). get_or work k nan) (e ∙ ap (λ (k : ℕ). k + column) place)
      ∙ sym (get_or-take (dimension n * dimension n) work (integral_at n * dimension n + column) nan
      (inside within h))
    where
      within : integral_at n < dimension n
      within = omega arith

      row : dim - 2 ≡ integral_at n
      row = omega arith

      place : (dim - 2) * dim ≡ integral_at n * dimension n
      place = ap (λ (k : ℕ). k * dim) row ∙ ap (λ (k : ℕ). integral_at n * k) d

  pub formed : (window : Float) {constant : Float} (linear pairs : List Float) (last count : ℕ)
      → constant ≡ get_or work last nan → last ≡ (dim - 2) * dim + dim - 1 → take n linear
      ≡ tabulate n (λ i. get_or work ((dim - 2) * dim + i) nan) → count ≡ pairs_before n n
      → take count pairs ≡ tabulate count (λ i. get_or work ((dim - 2) * dim + n + i) nan)
      → vix_in_use
      (record {
        n = n;
        scale = over (of_int binary64 (pos 10000)) window;
        constant =
            constant;
        linear = linear;
        pairs = pairs;
      })
      ≡ form_of n window (matrix_at (dimension n) 0 work)
  unfolding form_of
  formed window {constant} linear pairs last count c l f m g =
      form_same refl
      (c ∙ at_integral (l ∙ omega arith) (omega arith))
      (f ∙ tabulate_same nan n _ _ (λ i b. at_integral refl (omega arith)))
      (ap (λ (k : ℕ). take k pairs) (sym m) ∙ g
      ∙ ap (λ (k : ℕ). tabulate k (λ i. get_or work ((dim - 2) * dim + n + i) nan)) m
      ∙ tabulate_same nan (pairs_before n n) _ _
      (λ i b. at_integral (omega arith) (omega arith)))
