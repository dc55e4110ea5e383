-- `columns::tallies::add_to_bins` meets its contract: each turn adds the piece of the run that lies in one bin.
use Rattle.std.proofs.Common.{◌≡◌, ◌+◌, ◌*◌, ◌≤◌}
use Rattle.columns.proofs.Adding.{Gained}
use Rattle.columns.proofs.tallies.add_to_bins.Given as goal

abbrev pub invariant-loop-tally : goal.invariant-loop-tally
invariant-loop-tally l = record {
  piece : (l.fn.run.low * l.width ≤ l.at) × (l.at ≤ l.end);
  bin : (l.at ≤ l.border) × (l.border ≡ (l.first + l.tally-index) * l.cells + l.cells) × ((l.first + l.tally-index) * l.cells ≤ l.at);
  gained : Gained l.cells l.first (l.fn.run.low * l.width) l.at l.fn.tallies l.tally-items;
}
