-- Shares, as f64 (RULES, Rows).
use Rattle.std.specs.Prelude.{ℕ, ◌-◌, max, pos, Float}
use Rattle.std.specs.Float.{binary64}
use Rattle.std.specs.Float.Ieee.{of_int, div}

-- a / b, rounded once
unfoldable pub share : ℕ → ℕ → Float
share a b = div binary64 (of_int binary64 (pos a)) (of_int binary64 (pos b))

-- in a bin of a window of `cells` cells
abbrev pub tally_share : ℕ → ℕ → Float
tally_share tally cells = share tally cells

-- of a written symbol in an alphabet of `symbols`
abbrev pub symbol_share : ℕ → ℕ → Float
symbol_share symbol symbols = share symbol (max 1 (symbols - 1))
