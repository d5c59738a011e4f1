-- Parts of a list; entries times a factor. Assumes nothing.
use mathlib.Core.Path.{◌≡◌, sym, ◌∙◌, subst}
use mathlib.Core.List.{List, ◌++◌}
use Prim.Native.Nat.{ℕ, ◌+◌, ◌-◌, ◌≤◌, ◌<◌}
use native.Mathlib.Omega.{arith}
use lib.ListN.{length, get_or, take, drop, length-drop, length-map}
use lib.ListN.{get_or-map, get_or-append}
use lib.Seq.{get_or-append-add, length-take-le, get_or-take, get_or-drop}
use lib.Ieee.{Float, nan, mul}
use borrow.Rule.Slice.PartMut.{put_mid, post_of}
use Rattle.numeric.specs.Double.{times}
use Rattle.matrix.specs.Matrix.{scaled}

-- ---- a part of a list

-- the n elements from `from` on
module _ (l : List Float) (from n : ℕ) where
  counted : from + n - from ≡ n
  counted = omega arith

  pub part_length : from + n ≤ length l → length (take (from + n - from) (drop from l)) ≡ n
  part_length h =
      length-take-le (from + n - from) (drop from l) (omega (arith, length-drop from l)) ∙ counted

  pub part_at : (j : ℕ) → j < n
      → get_or (take (from + n - from) (drop from l)) j nan ≡ get_or l (from + j) nan
  part_at j h =
      get_or-take (from + n - from) (drop from l) j nan (omega arith) ∙ get_or-drop from l j nan

-- a list with ys in the place of the k elements from `at` on
module _ (xs ys : List Float) (at k : ℕ) (within : at ≤ length xs) where
  pub put_before : (j : ℕ) → j < at → get_or (put_mid at k xs ys) j nan ≡ get_or xs j nan
  put_before j h =
      get_or-append (take at xs) (ys ++ post_of at k xs) nan j
      (subst (λ (n : ℕ). j < n) (sym (length-take-le at xs within)) h)
      ∙ get_or-take at xs j nan h

  pub put_in : (j : ℕ) → j < length ys → get_or (put_mid at k xs ys) (at + j) nan ≡ get_or ys j nan
  put_in j h =
      subst (λ (n : ℕ). get_or (put_mid at k xs ys) (n + j) nan
      ≡ get_or (ys ++ post_of at k xs) j nan)
      (length-take-le at xs within) (get_or-append-add (take at xs) (ys ++ post_of at k xs) j nan)
      ∙ get_or-append ys (post_of at k xs) nan j h

-- ---- entries times a factor

pub length_scaled : (x : Float) (l : List Float) → length (scaled x l) ≡ length l
unfolding scaled
length_scaled x l = length-map l (λ (e : Float). times e x)

pub get_d_scaled :
    (x : Float) (l : List Float) (j : ℕ) → get_or (scaled x l) j nan ≡ times (get_or l j nan) x
unfolding scaled mul
get_d_scaled x l j = get_or-map (λ (e : Float). times e x) l j nan
