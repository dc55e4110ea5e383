-- A picture's record: when it is sound (RULES, Refusals, 15), and the step of each of its rows (Fit).
use Rattle.std.specs.Prelude.{ℕ, ◌+◌, ◌*◌, ◌^◌, min, Bool, ◌&&◌, leb, [], ◌∷◌, Option}
use Rattle.refusal.specs.declared.Refusal.{Refusal}
use Rattle.refusal.specs.declared.Refusal.TheVariants.{Record}
use Rattle.refusal.specs.Checks.{first_failed}
use Rattle.limits.specs.Limits.{size_sound, symbols_sound}
use Rattle.columns.specs.declared.Columns.{Columns}
use Rattle.columns.specs.Window.{sound_in}
use Rattle.grid.specs.declared.Progress.{Progress}
use Rattle.grid.specs.declared.Grid.{Grid}

-- the most cells that a tape has within ±L
abbrev pub most_on_tape : ℕ
most_on_tape = 2 ^ 63 + 1

-- no more rows done than there are, and no more written cells left or right of the window than a tape has
abbrev pub progress_sound : Progress → ℕ → Bool
progress_sound p rows = leb p.done rows && (leb p.left most_on_tape && leb p.right most_on_tape)

-- stride and rows at least 1; row height at least 1, and the rows within the height; the progress sound
abbrev pub rows_sound : Grid → Bool
rows_sound g =
    (leb 1 g.stride && leb 1 g.rows)
    && ((leb 1 g.row_px && leb (g.rows * g.row_px) g.height) && progress_sound g.progress g.rows)

unfoldable pub grid_sound : Grid → Bool
grid_sound g = size_sound g.width g.height && (symbols_sound g.symbols && (rows_sound g && sound_in g.width g.columns))

-- 15
abbrev pub record_refusal : Grid → Option Refusal
record_refusal g = first_failed ((grid_sound g, Record) ∷ [])

-- the step of row k: first + stride × k, at most last
abbrev pub step_of : Grid → ℕ → ℕ
step_of g k = min (g.first + g.stride * k) g.last

-- the progress of a picture with n rows done, the last of which has these written cells left and right of the window
abbrev pub rows_done : ℕ → ℕ → ℕ → Progress
rows_done n left right = record { done = n; left = left; right = right }

-- and of one with none
abbrev pub no_rows : Progress
no_rows = rows_done 0 0 0

-- the grid of these values, in the order of its fields
abbrev pub grid_by : ℕ → ℕ → ℕ → Bool → Columns → ℕ → ℕ → ℕ → ℕ → ℕ → Progress → Grid
grid_by width height symbols exact columns px rows first stride last progress =
    record {
      width = width;
      height = height;
      symbols = symbols;
      exact = exact;
      columns = columns;
      row_px = px;
      rows = rows;
      first = first;
      stride = stride;
      last = last;
      progress = progress;
    }

-- the grid, but exact or not, with other columns and another progress
abbrev pub grid_with : Grid → Bool → Columns → Progress → Grid
grid_with g exact columns =
    grid_by g.width g.height g.symbols exact columns g.row_px g.rows g.first g.stride g.last

abbrev pub with_progress : Grid → Progress → Grid
with_progress g progress = grid_with g g.exact g.columns progress
