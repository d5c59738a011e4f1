-- The first matrix of a workspace lent and given back. Assumes nothing.
use mathlib.Core.Path.{◌≡◌, sym, ◌∙◌}
use mathlib.Core.List.{List, ◌++◌}
use Prim.Native.Nat.{ℕ, ◌*◌}
use native.Mathlib.Omega.{arith}
use lib.ListN.{length, take, drop}
use lib.Seq.{length-take-le, length_front, take_at}
use lib.Ieee.{Float}

pub long_front :
    (n : ℕ) (work : List Float) → length work ≡ 5 * (n * n) → n * n ≡ length (take (n * n) work)
long_front n work l = sym (length-take-le (n * n) work (omega arith))

module _ (n : ℕ) (new work : List Float) where
  pub long_put :
      length work ≡ 5 * (n * n) → length new ≡ length (take (n * n) work)
      → length (new ++ drop (n * n) work) ≡ 5 * (n * n)
  long_put l e = length_front work new (n * n) e ∙ l

  pub first_put : length new ≡ n * n → take (n * n) (new ++ drop (n * n) work) ≡ new
  first_put l = take_at new (drop (n * n) work) (n * n) l
