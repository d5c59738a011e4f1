-- Kernel tables: weights and discounts. Definitions only.
use Rattle.std.specs.Prelude.{Bool, false, ◌&&◌, List, pos, negsuc, length, Float}
use Rattle.std.specs.Float.{fin}
use Rattle.std.specs.Float.Ieee.{le}
use Rattle.model.specs.declared.Kernel.{Kernel}

-- Rule 5.3: the range of an entry, 2^-90 to 2^90, both included; a NaN is out of it
unfoldable pub in_range : Float → Bool
in_range x = le (fin false 1 (negsuc 89)) x && le x (fin false 1 (pos 90))

-- Rule 5.2: the kernel of two tables, with n, the number of weights
abbrev pub kernel_of : List Float → List Float → Kernel
kernel_of weights discounts =
    record { n = length weights; weights = weights; discounts = discounts }
