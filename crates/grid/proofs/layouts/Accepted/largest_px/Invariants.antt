-- `grid::layouts::Accepted::largest_px` meets its contract: the largest size that fits is at most px.
use Rattle.std.proofs.Common.{◌≡◌, min}
use Rattle.grid.specs.Fit.{fits, largest}
use Rattle.grid.proofs.layouts.Accepted.largest_px.Given as goal

abbrev pub invariant-loop-px : goal.invariant-loop-px
invariant-loop-px l = largest (fits l.self) l.px ≡ largest (fits l.self) (min 8 l.self.height)
