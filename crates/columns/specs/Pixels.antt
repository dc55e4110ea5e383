-- Which cells a pixel locates to, and on which pixels the head and a swept pair are drawn (RULES, Bins, Rows and Clicks).
use Rattle.std.specs.Prelude.{ℕ, ◌+◌, ◌-◌, ◌*◌, ◌/◌, Bool, ◌||◌, cond, ltb, leb, Option, Some, None}
use Rattle.columns.specs.declared.Columns.{Columns}
use Rattle.columns.specs.declared.Columns.TheVariants.{Cells, Bins}
use Rattle.columns.specs.declared.Pair.{Pair}
use Rattle.columns.specs.Window.{first_of, in_window}
use Rattle.columns.specs.Found.{pair}

-- n ÷ m rounded up
abbrev pub up_div : ℕ → ℕ → ℕ
up_div n m = (n + (m - 1)) / m

-- the first and the last cell of the window that pixel v of w bins over c cells locates to
abbrev pub bin_from : ℕ → ℕ → ℕ → ℕ
bin_from w c v = v * c / w

abbrev pub bin_to : ℕ → ℕ → ℕ → ℕ
bin_to w c v = up_div (v * c + c) w - 1

-- the window's first pixel
abbrev pub left_pixel : Columns → ℕ
left_pixel (Cells first count px x0) = x0
left_pixel (Bins first cells width) = 0

-- the first pixel right of the window
abbrev pub end_pixel : Columns → ℕ
end_pixel (Cells first count px x0) = x0 + count * px
end_pixel (Bins first cells width) = width

-- x is beside the window: in a margin of cells, or past the last bin
abbrev pub beside : Columns → ℕ → Bool
beside columns x = ltb x (left_pixel columns) || leb (end_pixel columns) x

-- the positions of pixel x, which is not beside the window
abbrev pub cells_of : Columns → ℕ → Pair
cells_of (Cells first count px x0) x = pair (first + (x - x0) / px) (first + (x - x0) / px)
cells_of (Bins first cells width) x = pair (first + bin_from width cells x) (first + bin_to width cells x)

-- the positions that pixel x locates to
abbrev pub located : Columns → ℕ → Option Pair
located columns x = cond (beside columns x) None (Some (cells_of columns x))

-- the bin of a head on cell k of the window
abbrev pub head_bin : ℕ → ℕ → ℕ → ℕ
head_bin w c k = (2 * k + 1) * w / (2 * c)

-- the pixels of a head on cell k of the window: those of its cell, or its bin
abbrev pub head_on : Columns → ℕ → Pair
head_on (Cells first count px x0) k = pair (x0 + k * px) (x0 + k * px + (px - 1))
head_on (Bins first cells width) k = pair (head_bin width cells k) (head_bin width cells k)

-- the pixels of a head at a position: none outside the window
abbrev pub head_at : Columns → ℕ → Option Pair
head_at columns head = cond (in_window columns head) (Some (head_on columns (head - first_of columns))) None
