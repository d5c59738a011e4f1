-- The bit pattern of a double. Definitions only.
use Rattle.std.specs.Prelude.{ℕ, to_bits, Float}
use Rattle.std.specs.Float.{nan, inf, fin, binary64}

-- Rule 2.1: the pattern of a number; that of a NaN is free, and 0 stands for it
abbrev pub bits_of : Float → ℕ
bits_of nan = 0
bits_of (inf s) = to_bits binary64 (inf s)
bits_of (fin s m e) = to_bits binary64 (fin s m e)
