-- What a question about columns finds: the numbers low..high, or none.
use Rattle.std.specs.Prelude.{ℕ, min, max, Bool, false, leb, Option, Some, None}
use Rattle.limits.specs.Limits.{is_within}
use Rattle.columns.specs.declared.Pair.{Pair}

-- the numbers low..high
abbrev pub pair : ℕ → ℕ → Pair
pair low high = record { low = low; high = high }

-- n is among the numbers found
abbrev pub among : Option Pair → ℕ → Bool
among (Some p) n = is_within p.low p.high n
among None n = false

-- some number is among those of both
abbrev pub meets : Option Pair → Option Pair → Bool
meets (Some p) (Some q) = leb (max p.low q.low) (min p.high q.high)
meets (Some p) None = false
meets None found = false
