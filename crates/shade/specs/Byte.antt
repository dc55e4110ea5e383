-- The byte nearest to a float, halves going away from zero.
use Rattle.std.specs.Prelude.{ℕ, ◌+◌, ◌*◌, ◌/◌, min, true, false, cond, Float}
use Rattle.std.specs.Float.{nan, inf, fin}
use Rattle.std.specs.Float.Ieee.{up, down}

-- the whole number nearest to a / c, halves going up
abbrev pub nearest_up : ℕ → ℕ → ℕ
nearest_up a c = (2 * a + c) / (2 * c)

-- `fin s m e` is m * 2 ^ e, that is m * up e / down e, and negative where s is true
unfoldable pub byte_of : Float → ℕ
byte_of nan = 0
byte_of (inf s) = cond s 0 255
byte_of (fin true m e) = 0
byte_of (fin false m e) = min 255 (nearest_up (m * up e) (down e))
