-- `line::bins::add_side` meets its contract: at each turn the cells of the runs passed are added.
use Rattle.std.proofs.Common.{◌≡◌, drop}
use Rattle.tape.specs.Checks.{total}
use Rattle.tape.specs.Inner.Sides.{side_symbol}
use Rattle.columns.specs.Inner.Adding.{added}
use Rattle.line.specs.Inner.Tallying.{written_side}
use Rattle.line.proofs.bins.add_side.Given as goal

abbrev pub invariant-loop-i : goal.invariant-loop-i
invariant-loop-i l = record {
  passed_is : l.passed ≡ total (drop l.i l.lengths);
  tallied : l.tallies ≡ added l.first l.cells (written_side l.leftward l.head l.passed (side_symbol l.leftward l.head l.symbols l.lengths)) l.initial.tallies;
}
