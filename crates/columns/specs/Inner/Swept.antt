-- The pixels of a swept pair, by formula.
use Rattle.std.specs.Prelude.{ℕ, ◌+◌, ◌-◌, ◌*◌, ◌/◌, min, max, cond, leb, Option, Some, None, option_map}
use Rattle.columns.specs.declared.Columns.{Columns}
use Rattle.columns.specs.declared.Columns.TheVariants.{Cells, Bins}
use Rattle.columns.specs.declared.Pair.{Pair}
use Rattle.columns.specs.Window.{first_of, cells_in}
use Rattle.columns.specs.Found.{pair}

-- the cells of a window of n cells from first that lie in a pair of positions
abbrev pub clipped : ℕ → ℕ → ℕ → ℕ → Option Pair
clipped first n low high =
    let from = max low first in
    let to = min high (first + (n - 1)) in
    cond (leb from to) (Some (pair (from - first) (to - first))) None

-- the pixels on which cells of the window lie
abbrev pub touched : Columns → Pair → Pair
touched (Cells first count px x0) p = pair (x0 + p.low * px) (x0 + p.high * px + (px - 1))
touched (Bins first cells width) p = pair (p.low * width / cells) ((p.high * width + (width - 1)) / cells)

-- the pixels of a swept pair
abbrev pub swept_at : Columns → ℕ → ℕ → Option Pair
swept_at columns low high = option_map (touched columns) (clipped (first_of columns) (cells_in columns) low high)
