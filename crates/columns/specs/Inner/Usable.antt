-- Columns that numbers can be worked out of.
use Rattle.std.specs.Prelude.{◌+◌, ◌*◌, ◌^◌, ◌<◌, ◌≤◌}
use Rattle.std.proofs.Props.{props}
use Rattle.limits.specs.Limits.{max_side, max_cells}
use Rattle.columns.specs.declared.Columns.{Columns}
use Rattle.columns.specs.declared.Columns.TheVariants.{Cells, Bins}

-- what work on columns leans on: sound columns have it
abbrev pub Usable : Columns → Type 0
Usable (Cells first count px x0) = (0 < px) × (0 < count) × (x0 + count * px ≤ max_side) × (first + count < 2 ^ 64)
Usable (Bins first cells width) = (0 < width) × (width ≤ max_side) × (width < cells) × (cells ≤ max_cells) × (first + cells < 2 ^ 64)

-- it has at most one proof, as a ghost field asks
pub Usable-prop : (columns : Columns) → IsProp (Usable columns)
Usable-prop (Cells first count px x0) = Prim.hlevel props
Usable-prop (Bins first cells width) = Prim.hlevel props
