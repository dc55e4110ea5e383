-- Ink, and the index bytes of bins and of cells before anything goes over them (RULES, Rows).
use Rattle.std.specs.Prelude.{ℕ, ◌+◌, cond, pos, ◌==◌, Float}
use Rattle.std.specs.Float.{binary64}
use Rattle.std.specs.Float.Ieee.{of_int, mul}
use Rattle.shade.specs.Index.{background, ink_min, ink_range}
use Rattle.shade.specs.Byte.{byte_of}
use Rattle.shade.specs.Share.{tally_share, symbol_share}

-- the least ink and the share of the range, rounded
unfoldable pub ink_of : Float → ℕ
ink_of s = ink_min + byte_of (mul binary64 s (of_int binary64 (pos ink_range)))

-- paper where nothing is written, else the ink of the share
abbrev pub shade_of : ℕ → Float → ℕ
shade_of written s = cond (written == 0) background (ink_of s)

-- the index byte of a bin
unfoldable pub tally_shade : ℕ → ℕ → ℕ
tally_shade tally cells = shade_of tally (tally_share tally cells)

-- the index byte of a cell
unfoldable pub symbol_shade : ℕ → ℕ → ℕ
symbol_shade symbol symbols = shade_of symbol (symbol_share symbol symbols)
