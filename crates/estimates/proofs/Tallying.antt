-- The tally, as paths end, is that of the samples that they make. Assumes nothing.
use mathlib.Core.Path.{◌≡◌, refl}
use mathlib.Core.Bool.{Bool, true, false}
use mathlib.Core.Logic.{⊎_elim}
use Prim.Native.Nat.{ℕ, suc, pred, ◌*◌, ◌/◌, ◌%◌, ◌≤◌, ◌<◌}
use native.Mathlib.Omega.{arith}
use lib.Ieee.{Float}
use Rattle.numeric.proofs.Numbers.{le_or_lt}
use Rattle.estimates.specs.Moments.{moments_of}
use Rattle.estimates.specs.Inner.Tally.{averaged, no_paths, with_sample, taken_in}
use Rattle.estimates.specs.Inner.Tally.{path_of, sampling_after, tally_of}

module _ (paid underlying : ℕ → Float) where
  pub tally_none : (mirrored : Bool) → tally_of mirrored paid underlying 0 ≡ no_paths mirrored
  unfolding tally_of moments_of
  tally_none true = refl
  tally_none false = refl

  -- one path more
  abbrev Next : Bool → ℕ → Type 0
  Next mirrored n =
      taken_in (tally_of mirrored paid underlying n) (path_of paid underlying (suc n))
      (sampling_after mirrored paid underlying n)
      ≡ tally_of mirrored paid underlying (suc n)

  -- after an even number of paths it waits
  pair_begins : (n : ℕ) → n % 2 ≤ 0 → Next true n
  unfolding tally_of
  pair_begins n even =
      let now : n % 2 ≡ 0 = omega arith in
      let then : suc n % 2 ≡ 1 = omega arith in
      let same : suc n / 2 ≡ n / 2 = omega arith in
      rw (now, then, same) refl

  -- after an odd number it ends a pair
  pair_ends : (n : ℕ) → 0 < n % 2 → Next true n
  unfolding tally_of with_sample averaged moments_of
  pair_ends n odd =
      let now : n % 2 ≡ 1 = omega arith in
      let then : suc n % 2 ≡ 0 = omega arith in
      let more : suc n / 2 ≡ suc (n / 2) = omega arith in
      let first : pred (2 * suc (n / 2)) ≡ n = omega arith in
      let second : 2 * suc (n / 2) ≡ suc n = omega arith in
      rw (now, then, more, first, second) refl

  pub tally_next : (mirrored : Bool) (n : ℕ) → Next mirrored n
  unfolding tally_of with_sample moments_of
  tally_next true n = ⊎_elim (pair_begins n) (pair_ends n) (le_or_lt (n % 2) 0)
  tally_next false n = refl
