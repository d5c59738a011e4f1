-- The estimates of a batch hang on its paths from 1 to n alone. Assumes nothing.
use mathlib.Core.Path.{◌≡◌, refl}
use mathlib.Core.Bool.{Bool, true, false}
use Prim.Native.Nat.{ℕ, zero, suc, pred, ◌*◌, ◌≤◌}
use native.Mathlib.Omega.{arith}
use lib.Ieee.{Float}
use Rattle.estimates.specs.Moments.{moments_of, sample_of, samples_in, estimates_of}

-- the same values up to n
module _ {A : Type 0} (f g : ℕ → A) where
  abbrev pub SameUpTo : ℕ → Type 0
  SameUpTo n = (p : ℕ) → 1 ≤ p → p ≤ n → f p ≡ g p

moments_same :
    (f g : ℕ → Float) (n : ℕ) → SameUpTo f g n → moments_of f n ≡ moments_of g n
unfolding moments_of
moments_same f g zero same = refl
moments_same f g (suc n) same =
    rw (
      moments_same f g n (λ p l h. same p l (omega arith)),
      same (suc n) (omega arith) (omega arith),
    )

samples_same :
    (mirrored : Bool) (f g : ℕ → Float) (n : ℕ) → SameUpTo f g n
    → SameUpTo (sample_of mirrored f) (sample_of mirrored g) (samples_in mirrored n)
samples_same true f g n same = λ i l h.
    rw (same (pred (2 * i)) (omega arith) (omega arith), same (2 * i) (omega arith) (omega arith))
samples_same false f g n same = same

pub estimates_same :
    (mirrored : Bool) (f g u v : ℕ → Float) (n : ℕ) → SameUpTo f g n → SameUpTo u v n
    → estimates_of mirrored f u n ≡ estimates_of mirrored g v n
unfolding estimates_of
estimates_same mirrored f g u v n paid shown =
    rw (
      moments_same _ _ (samples_in mirrored n) (samples_same mirrored f g n paid),
      moments_same _ _ (samples_in mirrored n) (samples_same mirrored u v n shown),
    )
