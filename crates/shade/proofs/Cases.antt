-- A tempting rounding's case, computed from the definition (RULES, Tempting faults).
use Rattle.std.proofs.Common.{◌≡◌, ◌-◌, ◌^◌, false, negsuc, refl}
use lib.Ieee.{fin}
use Rattle.shade.specs.Byte.{byte_of}

-- 1/2 - 2 ^ -54, the greatest f64 below a half, is nearest to 0
pub below_half : byte_of (fin false (2 ^ 53 - 1) (negsuc 53)) ≡ 0
unfolding byte_of
below_half = refl
