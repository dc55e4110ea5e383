-- `line::outside::count_side` meets its contract: at each turn the runs passed are counted.
use Rattle.std.proofs.Common.{◌≡◌, ◌+◌, drop}
use Rattle.tape.specs.Checks.{total}
use Rattle.tape.specs.Inner.Sides.{side_symbol}
use Rattle.line.specs.Inner.Tallying.{written_side}
use Rattle.line.specs.Inner.Counting.{counted}
use Rattle.line.proofs.outside.count_side.Given as goal

abbrev pub invariant-loop-i : goal.invariant-loop-i
invariant-loop-i l = record {
  passed_is : l.passed ≡ total (drop l.i l.lengths);
  counted_so_far : l.sum ≡ 0 + counted l.from l.to (written_side l.leftward l.head l.passed (side_symbol l.leftward l.head l.symbols l.lengths));
}
