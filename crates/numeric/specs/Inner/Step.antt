-- What the steps of the root of rule 4.2 say to each other, in whole numbers. Definitions only.
use Rattle.std.specs.Prelude.{ℕ, ◌+◌, ◌-◌, ◌*◌, ◌^◌, ◌<◌, ◌≤◌, Bool, ◌&&◌, nat_le, nat_lt}

-- a significand of 53 digits, or of 54 and then even
pub record Significand (m : ℕ) : Type 0 where
  pub least : 2 ^ 52 ≤ m
  pub most : m ≤ 2 ^ 54 - 2

-- the 53 digits of a root
pub record Digits (s : ℕ) : Type 0 where
  pub least : 2 ^ 52 ≤ s
  pub most : s < 2 ^ 53

-- s is the whole number nearest to the root of m * 2 ^ 52: s minus one half, squared, is
-- s * s - s + 1 / 4, which is below m * 2 ^ 52, and s plus one half, squared, is above it
pub record Nearest (m s : ℕ) : Type 0 where
  pub digits : Digits s
  pub above : s * s < m * 2 ^ 52 + s
  pub below : m * 2 ^ 52 ≤ s * s + s

-- the same as a test
abbrev pub is_nearest : ℕ → ℕ → Bool
is_nearest m s = nat_lt (s * s) (m * 2 ^ 52 + s) && nat_le (m * 2 ^ 52) (s * s + s)
