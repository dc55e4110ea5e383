-- `grid::extent::visited` meets its contract: widening what is found by the heads that are left gives the pair that holds all.
use Rattle.std.proofs.Common.{◌≡◌, map, drop}
use Rattle.position.specs.Position.{offset_of}
use Rattle.grid.proofs.Heads.{widened}
use Rattle.grid.proofs.extent.visited.Given as goal

abbrev pub invariant-loop-head : goal.invariant-loop-head
invariant-loop-head l = widened l.first l.first (map offset_of l.head-items) ≡ widened l.low l.high (map offset_of (drop l.head-index l.head-items))
