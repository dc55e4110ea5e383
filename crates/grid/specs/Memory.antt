-- The memory that is lent with a grid (RULES, Refusals, 7 and 8), by its length.
use Rattle.std.specs.Prelude.{ℕ, ◌*◌, Bool, eqb}
use Rattle.columns.specs.declared.Columns.{Columns}
use Rattle.columns.specs.declared.Columns.TheVariants.{Cells, Bins}
use Rattle.grid.specs.declared.Grid.{Grid}

-- the cells that a row stores: one for each cell of the window, none in bins
abbrev pub stored_cells : Columns → ℕ
stored_cells (Cells first count px x0) = count
stored_cells (Bins first cells width) = 0

-- 7
abbrev pub index_fits : Grid → ℕ → Bool
index_fits g index = eqb index (g.width * g.height)

-- 8
abbrev pub store_fits : Grid → ℕ → Bool
store_fits g store = eqb store (g.rows * stored_cells g.columns)
