-- `grid::layouts::Accepted::visited` meets its contract: the pair of heads of an order that passed its checks is within ±L.
use Rattle.std.proofs.Common.{map}
use Rattle.position.specs.Position.{offset_of}
use Rattle.grid.specs.Inner.Orders.{exact_of}
use Rattle.grid.proofs.Accepted.{exact-accepted}
use Rattle.grid.proofs.Extents.{Within, visited-within}
use Rattle.grid.proofs.layouts.Accepted.visited.Goals as goal
use Rattle.grid.proofs.layouts.Accepted.visited.Goals.{After-visited-pair}

within : (c : After-visited-pair) → Within c.visited-pair.result
within c =
    let o = exact_of c.self.inside.order (map offset_of c.self.inside.heads.now) in
    rw c.visited-pair.ensures (visited-within o (exact-accepted o c.self.invariant) c.args.rows c.requires)

pub invariant_of-result : goal.invariant_of-result
invariant_of-result c = let w = within (goal.at.invariant_of-result c).After-visited-pair in record { ordered = (w.1, w.2) }

pub returns-clause-within : goal.returns-clause-within
returns-clause-within c = (within (goal.at.returns-clause-within c).After-visited-pair).0
