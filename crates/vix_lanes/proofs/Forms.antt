-- The terms of the quadratic form in a lane, one after the other. Assumes nothing.
use mathlib.Core.Path.{◌≡◌, sym, ap, ◌∙◌}
use mathlib.Core.List.{List}
use Prim.Native.Nat.{ℕ, ◌+◌, ◌≤◌, ◌<◌}
use native.Mathlib.Numerals.{add-one}
use native.Mathlib.Omega.{arith}
use lib.ListN.{get_or, take}
use lib.Ieee.{Float, nan}
use Rattle.numeric.specs.Double.{plus, times}
use Rattle.numeric.proofs.Tables.{get_d_tabulate, length_tabulate, take_is_tabulate}
use Rattle.vix.specs.declared.Vix.{Vix}
use Rattle.generator_rows.specs.State.{pairs_before}
use Rattle.vix.specs.Form.{linear_value, row_value, value_through, raw_squared}
use Rattle.vix.specs.Inner.Form.{vix_in_use}
use Rattle.vix.proofs.InUse.{squared_in_use}
use Rattle.lanes.specs.Inner.Lanes.{factor_at, lane_factors}

-- factor i of a lane
lane_factor : (n i l : ℕ) (factors : List (List Float)) → i < n → get_or (lane_factors n factors l) i nan ≡ factor_at factors i l
lane_factor n i l factors h = get_d_tabulate n i (λ (x : ℕ). factor_at factors x l) nan h

-- fewer factors of a lane
pub lane_take : (m n l : ℕ) (factors : List (List Float)) → m ≤ n → take m (lane_factors n factors l) ≡ lane_factors m factors l
lane_take m n l factors h =
    take_is_tabulate nan m (λ (x : ℕ). factor_at factors x l) (lane_factors n factors l) (rw length_tabulate h)
    (λ i k. lane_factor n i l factors (omega arith))

module _ (v : Vix) (n i l : ℕ) (factors : List (List Float)) where
  -- one linear term more
  pub linear_more : (value : Float) → i < n → value ≡ linear_value v (lane_factors n factors l) i
      → plus value (times (get_or v.linear i nan) (factor_at factors i l)) ≡ linear_value v (lane_factors n factors l) (i + 1)
  unfolding linear_value
  linear_more value h e = rw (add-one, e, lane_factor n i l factors h)

  -- one pair of row i more
  pub pair_more : (before value : Float) (m : ℕ) → v.n ≡ n → i + m < n → value ≡ row_value v (lane_factors n factors l) i before m
      → plus value (times (times (get_or v.pairs (pairs_before n i + m) nan) (factor_at factors i l)) (factor_at factors (i + m) l))
      ≡ row_value v (lane_factors n factors l) i before (m + 1)
  unfolding row_value
  pair_more before value m s h e =
      let same : times (times (get_or v.pairs (pairs_before n i + m) nan) (factor_at factors i l)) (factor_at factors (i + m) l) ≡ times (times (get_or v.pairs (pairs_before v.n i + m) nan) (get_or (lane_factors n factors l) i nan)) (get_or (lane_factors n factors l) (i + m) nan) = rw (s, lane_factor n i l factors (omega arith), lane_factor n (i + m) l factors h) in
      rw add-one
      (ap (λ (x : Float). plus x (times (times (get_or v.pairs (pairs_before n i + m) nan) (factor_at factors i l)) (factor_at factors (i + m) l))) e
      ∙ ap (plus (row_value v (lane_factors n factors l) i before m)) same)

-- the form's value in a lane, by the coefficients in use
pub squared_is : (v : Vix) (l : ℕ) (factors : List (List Float)) (value : Float) → value ≡ value_through v (lane_factors v.n factors l) v.n
    → times v.scale value ≡ raw_squared (vix_in_use v) (lane_factors v.n factors l)
unfolding raw_squared
squared_is v l factors value e =
    let lane = lane_factors v.n factors l in
    let few : v.n ≤ v.n = omega arith in
    ap (λ (x : Float). times v.scale x) e ∙ sym (squared_in_use v v.n few lane)
    ∙ ap (raw_squared (vix_in_use v)) (lane_take v.n v.n l factors few)
