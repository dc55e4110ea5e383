-- `probe::across::add_runs` meets its contract: so far the runs that were yielded are added, and no tally is over as many times the most cells.
use Rattle.std.proofs.Common.{◌≡◌, ◌+◌, ◌*◌, length}
use Rattle.limits.specs.Limits.{max_cells}
use Rattle.probe.specs.Across.{with_runs}
use Rattle.columns.specs.Inner.Adding.{Takes}
use Rattle.probe.proofs.across.add_runs.Given as goal

abbrev pub invariant-loop-low : goal.invariant-loop-low
invariant-loop-low l = record {
  added : l.tallies ≡ with_runs l.first l.cells l.low l.high (length l.yielded) l.initial.tallies;
  room : Takes l.first l.cells (1 + length l.yielded * max_cells) l.tallies;
}
