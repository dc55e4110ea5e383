-- `line::cells::count_written` meets its contract: at each turn the symbols before the one at hand are counted.
use Rattle.std.proofs.Common.{◌≡◌, ◌≤◌, ltb, get_or}
use Rattle.columns.specs.Bins.{written_in}
use Rattle.line.proofs.cells.count_written.Given as goal

abbrev pub invariant-loop-symbol : goal.invariant-loop-symbol
invariant-loop-symbol l = record {
  few : l.sum ≤ l.symbol-index;
  counted : l.sum ≡ written_in l.symbol-index (λ k. ltb 0 (get_or l.symbols k 0));
}
