-- `runs::copy_runs` meets its contract: at each turn the runs passed stand in both slices.
use Rattle.std.proofs.Common.{◌≡◌, map, take}
use Rattle.runs.specs.Runs.{symbol_of, length_of}
use Rattle.runs.proofs.copy_runs.Given as goal

abbrev pub invariant-loop-i : goal.invariant-loop-i
invariant-loop-i l = record {
  symbols : take l.i l.symbols ≡ take l.i (map symbol_of l.runs);
  lengths : take l.i l.lengths ≡ take l.i (map length_of l.runs);
}
