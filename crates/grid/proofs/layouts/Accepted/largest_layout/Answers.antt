-- `grid::layouts::Accepted::largest_layout` meets its contract: the largest size that fits is within the picture.
use Rattle.std.proofs.Common.{◌≤◌, map, sym, arith}
use Rattle.position.specs.Position.{offset_of}
use Rattle.grid.specs.Inner.Orders.{exact_of}
use Rattle.grid.proofs.Accepted.{exact-accepted}
use Rattle.grid.proofs.Sizes.{some_cells, largest-within}
use Rattle.grid.proofs.layouts.Accepted.largest_layout.Goals as goal
use Rattle.grid.proofs.layouts.Accepted.largest_layout.Goals.{In-Some}

px_within : (c : In-Some) → let o = c.self.inside.order in (1 ≤ c.in-Some.px) × (c.in-Some.px ≤ o.width) × (c.in-Some.px ≤ o.height)
px_within c =
    let p = c.in-Some.ensures in
    rw (← c.self.view_is) at (largest-within c.args.self.now c.in-Some.px (sym p.0) (λ z. omega (arith, p.1)))

pub extent-extent-requires : goal.extent-extent-requires
extent-extent-requires c = let p = px_within (goal.at.extent-extent-requires c).In-Some in some_cells _ _ p.0 p.2

pub cells_around-requires : goal.cells_around-requires
cells_around-requires c =
    let a = exact-accepted (exact_of c.self.inside.order (map offset_of c.self.inside.heads.now)) c.self.invariant in
    let p = px_within (goal.at.cells_around-requires c).In-Some in
    (p.0, p.1, a.sides.width_most, c.extent-extent.ensures.within)
