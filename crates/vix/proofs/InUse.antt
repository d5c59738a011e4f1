-- The coefficients in use, and as many factors or more, give the value. Assumes nothing.
use mathlib.Core.Path.{◌≡◌, refl}
use mathlib.Core.List.{List}
use Prim.Native.Nat.{ℕ, zero, suc, ◌+◌, ◌-◌, ◌<◌, ◌≤◌}
use native.Mathlib.Omega.{arith}
use lib.ListN.{take}
use lib.Seq.{get_or-take}
use lib.Ieee.{Float, nan}
use Rattle.generator_rows.specs.State.{pairs_before}
use Rattle.generator_rows.proofs.Pairs.{pair_in_use}
use Rattle.vix.specs.declared.Vix.{Vix}
use Rattle.vix.specs.Form.{linear_value, row_value, value_through, raw_squared}
use Rattle.vix.specs.Inner.Form.{vix_in_use}

module _ (v : Vix) (m : ℕ) (few : v.n ≤ m) (factors : List Float) where
  linear_in_use : (k : ℕ) → k ≤ v.n → linear_value (vix_in_use v) (take m factors) k
      ≡ linear_value v factors k
  unfolding linear_value
  linear_in_use zero h = refl
  linear_in_use (suc k) h =
      rw (
        linear_in_use k (omega arith),
        get_or-take v.n v.linear k nan h,
        get_or-take m factors k
            nan (omega arith),
      )

  row_in_use : (i : ℕ) (before : Float) → i < v.n → (k : ℕ) → k ≤ v.n - i
      → row_value (vix_in_use v) (take m factors) i before k ≡ row_value v factors i before k
  unfolding row_value
  row_in_use i before h zero l = refl
  row_in_use i before h (suc k) l =
      rw (
        row_in_use i before h k (omega arith),
        get_or-take (pairs_before v.n v.n) v.pairs
            (pairs_before v.n i + k) nan (pair_in_use v.n i k h l),
        get_or-take m factors i nan
            (omega arith),
        get_or-take m factors (i + k) nan (omega arith),
      )

  through_in_use : (i : ℕ) → i ≤ v.n → value_through (vix_in_use v) (take m factors) i
      ≡ value_through v factors i
  unfolding value_through
  through_in_use zero h = linear_in_use v.n (omega arith)
  through_in_use (suc i) h =
      rw (through_in_use i (omega arith))
      (row_in_use i (value_through v factors i) h (v.n - i) (omega arith))

  pub squared_in_use : raw_squared (vix_in_use v) (take m factors) ≡ raw_squared v factors
  unfolding raw_squared
  squared_in_use = rw (through_in_use v.n (omega arith))
