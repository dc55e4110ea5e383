-- `runs::checking::Sum::of` meets its contract: at each turn what is known of the runs passed, and those that are left, decide.
use Rattle.std.proofs.Common.{◌≡◌, ◌+◌, ◌≤◌, ◌&&◌, min, map, drop}
use Rattle.tape.specs.Checks.{total}
use Rattle.tape.specs.Joined.{differing}
use Rattle.runs.specs.Runs.{symbol_of, length_of}
use Rattle.runs.specs.Inner.Sums.{sound_runs}
use Rattle.runs.proofs.checking.Sum.of.Given as goal

abbrev pub invariant-loop-run : goal.invariant-loop-run
invariant-loop-run l = record {
  sound : (l.sound && sound_runs l.count (drop l.run-index l.runs)) ≡ sound_runs l.count l.runs;
  joined : (l.joined && differing l.beyond (map symbol_of (drop l.run-index l.runs))) ≡ differing 0 (map symbol_of l.runs);
  few : l.cells ≤ 0xffff_ffff_ffff_ffff;
  cells : min (l.cells + total (map length_of (drop l.run-index l.runs))) 0xffff_ffff_ffff_ffff ≡ min (total (map length_of l.runs)) 0xffff_ffff_ffff_ffff;
}
