-- What it means that a double is the one nearest to an exact number, said without the steps that
-- find it. Sizes are counted in the smallest double, 2 ^ -1074, of which every double is a whole
-- number. Definitions only.
use Rattle.std.specs.Prelude.{◌≡◌, ◌≢◌, ℕ, ℤ, ◌+◌, ◌-◌, ◌*◌, ◌/◌, ◌^◌, ◌<◌, ◌≤◌, Bool, false, T}
use Rattle.std.specs.Prelude.{Float}
use Rattle.std.specs.Float.{nan, inf, fin, binary64}
use Rattle.std.specs.Float.Ieee.{up, down, fits, size}
use Rattle.std.specs.Float.Ieee.Positive.{positive}

-- Rule 18.10: how many of the smallest double a finite double is, its sign left out
abbrev pub size_of : Float → ℕ
size_of nan = 0
size_of (inf s) = 0
size_of (fin s m e) = m * up e * 2 ^ 1074 / down e

-- ---- an exact number, by how twice it compares with a whole number n

-- Rule 18.10: twice the number is below n where `twice` is below `level n`, it is n where the two
-- are equal, and above n elsewhere
pub record Exact : Type 0 where
  pub twice : ℕ
  pub level : ℕ → ℕ

-- Rule 18.11: √v. Both are squared, so that no root is left.
abbrev pub root_of : ℕ → Exact
root_of v = record { twice = 4 * v; level = λ n. n * n }

-- Rule 18.12: a / b. Both are multiplied by b, so that no fraction is left.
abbrev pub fraction : ℕ → ℕ → Exact
fraction a b = record { twice = 2 * a; level = λ n. n * b }

-- ---- the nearest double

-- Rule 18.10: n * 2 ^ k is a double; each that is finite and not below zero is one of these
abbrev pub IsDouble : ℕ → ℤ → Type 0
IsDouble n k = T (fits binary64 (fin false n k))

-- Rule 18.10: the size y is not nearer to the exact number than r is: the number does not lie on
-- y's side of the middle between them, (r + y) / 2. Where it lies at the middle, y is as near as r:
-- a tie.
pub record NotNearer (x : Exact) (AtTie : Type 0) (r y : ℕ) : Type 0 where
  pub from_above : r < y → x.twice ≤ x.level (r + y)
  pub from_below : y < r → x.level (r + y) ≤ x.twice
  pub tie : (r ≢ y) → x.twice ≡ x.level (r + y) → AtTie

-- Rule 18.10: r is a double, finite, with the sign s, and no double is nearer in size to the exact
-- number. `AtTie` is what is said of r's size where another double is as near.
pub record NearestDouble (s : Bool) (x : Exact) (AtTie : ℕ → Type 0) (r : Float) : Type 0 where
  pub m : ℕ
  pub e : ℤ
  pub is : r ≡ fin s m e
  pub double : T (fits binary64 r)
  -- the size of a double n * 2 ^ k is exact: the division in `size_of` leaves no remainder
  pub exact : (n : ℕ) (k : ℤ) → IsDouble n k
      → size_of (fin false n k) * down k ≡ n * up k * 2 ^ 1074
  -- and no such double is nearer than r; one of the other sign is further off than zero is
  pub nearest : (n : ℕ) (k : ℤ) → IsDouble n k
      → NotNearer x (AtTie (size_of r)) (size_of r) (size_of (fin false n k))

-- ---- the law of the root

-- Rule 18.11: of a double x that is finite and above zero, r is the nearest double to the exact
-- root, and there is never a tie. Counted in the square of the smallest double, x is
-- size_of x * 2 ^ 1074.
unfoldable pub RootIsNearest : Float → Float → Type 0
RootIsNearest x r = T (positive x) → NearestDouble false (root_of (size_of x * 2 ^ 1074)) (λ n. ⊥) r

-- ---- the law of a fraction's rounding

-- Rule 18.12: the significand of the size n is even: n is an even number of its own last places. Of
-- the `size n` binary digits of n a double keeps 53, so its last place counts 2 ^ (size n - 53).
pub record EvenSignificand (n : ℕ) : Type 0 where
  pub half : ℕ
  pub is : n ≡ 2 * half * 2 ^ (size n - 53)

-- Rule 18.12: r is the nearest double to the fraction a / b, with the sign s, and at a tie its
-- significand is even. Counted in the smallest double, the fraction is a * 2 ^ 1074 / b.
unfoldable pub FractionIsNearest : Bool → ℕ → ℕ → Float → Type 0
FractionIsNearest s a b r = NearestDouble s (fraction (a * 2 ^ 1074) b) EvenSignificand r
