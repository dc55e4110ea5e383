-- What holds of every row (RULES, Rows), beside when its pixels are paper, which is in Paper.antt.
use Prim.Native.Nat.{◌*◌}
use mathlib.Core.Path.{◌≡◌, sym}
use native.Mathlib.Nat.{one-mul}
use Rattle.tape.specs.Tape.{Tape}
use Rattle.columns.specs.declared.Columns.{Columns}
use Rattle.columns.specs.declared.Columns.TheVariants.{Cells, Bins}
use Rattle.columns.proofs.Laws.{tallies-units}
use Rattle.line.specs.Line.{row_units, units_each, written_cells}

-- the units are W for each written cell of the window in bins, one in cells
pub units-written : (columns : Columns) (t : Tape) → row_units columns t ≡ units_each columns * written_cells columns t
units-written (Cells first count px x0) t = sym (one-mul _)
units-written (Bins first cells width) t = tallies-units width cells _
