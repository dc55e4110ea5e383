-- What ink is worked out of.
use Rattle.std.specs.Prelude.{T, pos, Float}
use Rattle.std.specs.Float.{binary64}
use Rattle.std.specs.Float.Ieee.{of_int, le}

-- what ink is worked out of: 0 ≤ s ≤ 1
pub record IsShare (s : Float) : Type 0 where
  pub least : T (le (of_int binary64 (pos 0)) s)
  pub most : T (le s (of_int binary64 (pos 1)))
