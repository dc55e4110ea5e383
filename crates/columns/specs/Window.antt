-- The window of cells that a picture's columns show (RULES, Fit, and Refusals, 15). Positions are in their offset form.
use Rattle.std.specs.Prelude.{ℕ, ◌+◌, ◌-◌, ◌*◌, ◌/◌, Bool, ◌&&◌, cond, List, [], ◌∷◌, ltb, leb, eqb}
use Rattle.limits.specs.Limits.{max_cells}
use Rattle.refusal.specs.Checks.{all_of}
use Rattle.position.specs.Position.{lowest, highest}
use Rattle.columns.specs.declared.Pair.{Pair}
use Rattle.columns.specs.declared.Columns.{Columns}
use Rattle.columns.specs.declared.Columns.TheVariants.{Cells, Bins}

-- the cells of a pair
abbrev pub span_of : ℕ → ℕ → ℕ
span_of low high = high - low + 1

-- the left margin of count cells of px in a picture w wide
abbrev pub margin_of : ℕ → ℕ → ℕ → ℕ
margin_of w count px = (w - count * px) / 2

-- where a window of count cells around a pair begins
abbrev pub first_around : ℕ → ℕ → ℕ → ℕ
first_around count low high = cond (leb (span_of low high) count) (low - (count - span_of low high) / 2) low

-- cells of px around a pair
abbrev pub cells_around : ℕ → ℕ → ℕ → ℕ → Columns
cells_around w px low high = Cells (first_around (w / px) low high) (w / px) px (margin_of w (w / px) px)

-- bins over a pair
abbrev pub bins_over : ℕ → ℕ → ℕ → Columns
bins_over w low high = Bins low (span_of low high) w

-- the window's first position
abbrev pub first_of : Columns → ℕ
first_of (Cells first count px x0) = first
first_of (Bins first cells width) = first

-- how many cells the window has
abbrev pub cells_in : Columns → ℕ
cells_in (Cells first count px x0) = count
cells_in (Bins first cells width) = cells

-- the window's two ends
abbrev pub window_of : Columns → Pair
window_of columns = record { low = first_of columns; high = first_of columns + (cells_in columns - 1) }

-- a position lies in the window
abbrev pub in_window : Columns → ℕ → Bool
in_window columns p = leb (first_of columns) p && ltb p (first_of columns + cells_in columns)

-- the tests that sound cells pass in a picture w wide
abbrev pub cells_tests : ℕ → ℕ → ℕ → ℕ → ℕ → List Bool
cells_tests w first count px x0 =
    leb 1 px ∷ leb px w ∷ eqb count (w / px) ∷ eqb x0 (margin_of w count px) ∷ leb (lowest - 2047) first ∷ leb first highest ∷ []

-- the tests that sound bins pass in a picture w wide
abbrev pub bins_tests : ℕ → ℕ → ℕ → ℕ → List Bool
bins_tests w first cells width =
    eqb width w ∷ ltb w cells ∷ leb cells max_cells ∷ leb lowest first ∷ leb first highest ∷ leb (first + (cells - 1)) highest ∷ []

-- columns are sound in a picture w wide
unfoldable pub sound_in : ℕ → Columns → Bool
sound_in w (Cells first count px x0) = all_of (cells_tests w first count px x0)
sound_in w (Bins first cells width) = all_of (bins_tests w first cells width)
