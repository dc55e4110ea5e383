-- A row, cell by cell and bin by bin (RULES, Bins and Rows).
use Rattle.std.specs.Prelude.{ℕ, ◌+◌, ◌-◌, ◌/◌, Bool, true, ◌&&◌, cond, List, [], ltb, leb, eqb, Option}
use Rattle.slices.specs.Tabulate.{tabulate}
use Rattle.shade.specs.Index as index
use Rattle.shade.specs.Shade.{tally_shade, symbol_shade}
use Rattle.tape.specs.Tape.{Tape, symbol_at, symbols_from}
use Rattle.tape.specs.Checks.{total}
use Rattle.columns.specs.declared.Columns.{Columns}
use Rattle.columns.specs.declared.Columns.TheVariants.{Cells, Bins}
use Rattle.columns.specs.declared.Pair.{Pair}
use Rattle.columns.specs.Window.{first_of, cells_in}
use Rattle.columns.specs.Found.{among, meets}
use Rattle.columns.specs.Bins.{tally, tallies, units_of, written_in}
use Rattle.columns.specs.Pixels.{beside, located, head_at}
use Rattle.grid.specs.declared.Grid.{Grid}
use Rattle.grid.specs.Memory.{stored_cells}

-- the symbol at a position is written
abbrev pub written : Tape → ℕ → Bool
written t p = ltb 0 (symbol_at t p)

-- the tallies of a row: none in cells
abbrev pub row_tallies : Columns → Tape → List ℕ
row_tallies (Cells first count px x0) t = []
row_tallies (Bins first cells width) t = tallies width cells (λ k. written t (first + k))

-- how many tallies a row has: one for each bin, none in cells
abbrev pub tallies_in : Columns → ℕ
tallies_in (Cells first count px x0) = 0
tallies_in (Bins first cells width) = width

-- the symbols that a row stores: none in bins
abbrev pub row_symbols : Columns → Tape → List ℕ
row_symbols columns t = symbols_from t (first_of columns) (stored_cells columns)

-- the units of a row: the written cells of the window, in bins the sum of the tallies
abbrev pub row_units : Columns → Tape → ℕ
row_units (Cells first count px x0) t = written_in count (λ k. written t (first + k))
row_units (Bins first cells width) t = units_of (row_tallies (Bins first cells width) t)

-- the units of a written cell: one in cells, the width in bins
abbrev pub units_each : Columns → ℕ
units_each (Cells first count px x0) = 1
units_each (Bins first cells width) = width

-- the written cells of the window
abbrev pub written_cells : Columns → Tape → ℕ
written_cells columns t = written_in (cells_in columns) (λ k. written t (first_of columns + k))

-- a tape's cells, those of its runs and the head's: the first one's position, and how many they are
abbrev pub leftmost : Tape → ℕ
leftmost t = t.head - total t.left.lengths

abbrev pub cells_on : Tape → ℕ
cells_on t = total t.left.lengths + 1 + total t.right.lengths

-- the written cells of a tape whose positions pass a test; every cell outside its runs is blank
abbrev pub written_where : Tape → (ℕ → Bool) → ℕ
written_where t test = written_in (cells_on t) (λ k. written t (leftmost t + k) && test (leftmost t + k))

-- all written cells, those left of the window, and those right of it
abbrev pub written_on : Tape → ℕ
written_on t = written_where t (λ p. true)

abbrev pub written_left : Columns → Tape → ℕ
written_left columns t = written_where t (λ p. ltb p (first_of columns))

abbrev pub written_right : Columns → Tape → ℕ
written_right columns t = written_where t (λ p. leb (first_of columns + cells_in columns) p)

-- pixel x before anything goes over it: paper in a margin, else the shade of its cell's symbol, or of its bin's tally
unfoldable pub shade_at : Columns → ℕ → Tape → ℕ → ℕ
shade_at (Cells first count px x0) symbols t x =
    cond (beside (Cells first count px x0) x) index.background (symbol_shade (symbol_at t (first + (x - x0) / px)) symbols)
shade_at (Bins first cells width) symbols t x = tally_shade (tally width cells (λ k. written t (first + k)) x) cells

-- pixel x is swept: one of the cells that it overlaps, in cells its own, is in the swept pair, which may be missing
abbrev pub is_swept : Columns → Option Pair → ℕ → Bool
is_swept columns swept x = meets (located columns x) swept

-- swept changes only paper
abbrev pub swept_over : ℕ → ℕ
swept_over byte = cond (eqb byte index.background) index.head_range byte

-- pixel x of a row: swept over paper, the head over anything
abbrev pub pixel_at : Grid → Tape → Option Pair → ℕ → ℕ
pixel_at g t swept x =
    let shade = shade_at g.columns g.symbols t x in
    cond (among (head_at g.columns t.head) x) index.head (cond (is_swept g.columns swept x) (swept_over shade) shade)

-- the line of a row
unfoldable pub line_of : Grid → Tape → Option Pair → List ℕ
line_of g t swept = tabulate (pixel_at g t swept) g.width
