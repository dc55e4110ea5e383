-- Pairs of positions that have a number of cells.
use Rattle.std.specs.Prelude.{◌≤◌}
use Rattle.std.proofs.Props.{props}
use Rattle.position.specs.Position.{highest}
use Rattle.columns.specs.declared.Pair.{Pair}

-- positions in order, none of them above L
abbrev pub IsExtent : Pair → Type 0
IsExtent pair = (pair.low ≤ pair.high) × (pair.high ≤ highest)

-- it has at most one proof, as a ghost field asks
pub IsExtent-prop : (pair : Pair) → IsProp (IsExtent pair)
IsExtent-prop pair = Prim.hlevel props
