-- Samples of rules 4.1 and 4.2, computed: that the definition says what is meant.
use Rattle.std.specs.Prelude.{◌≡◌, true, false, pos, refl}
use Rattle.std.specs.Float.{nan, inf, fin, binary64}
use Rattle.std.specs.Float.Ieee.{of_bits}
use Rattle.numeric.specs.Root.{isqrt, root}

whole_of_99 : isqrt 99 ≡ 9
unfolding isqrt
whole_of_99 = refl

-- √4 = 2
of_four : root binary64 (fin false 1 (pos 2)) ≡ fin false 1 (pos 1)
unfolding root
of_four = refl

-- √2, as Rust and C print it: 0x3ff6a09e667f3bcd
of_two : root binary64 (fin false 1 (pos 1)) ≡ of_bits binary64 0x3ff6_a09e_667f_3bcd
unfolding root of_bits
of_two = refl

-- the largest value
of_largest :
    root binary64 (of_bits binary64 0x7fef_ffff_ffff_ffff) ≡ of_bits binary64 0x5fef_ffff_ffff_ffff
unfolding root of_bits
of_largest = refl

-- the two zeros, the infinities, a number below zero
of_minus_zero : root binary64 (fin true 0 (pos 0)) ≡ fin true 0 (pos 0)
unfolding root
of_minus_zero = refl

of_minus_one : root binary64 (fin true 1 (pos 0)) ≡ nan
unfolding root
of_minus_one = refl

of_inf : root binary64 (inf false) ≡ inf false
unfolding root
of_inf = refl
