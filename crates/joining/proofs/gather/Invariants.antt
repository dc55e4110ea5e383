-- `joining::gather` meets its contract: before each turn the runs below i are joined at the front of the slices.
use Prim.Native.Nat.{◌-◌}
use lib.ListN.{length}
use Rattle.joining.proofs.Gathering.{Gathered}
use Rattle.joining.proofs.gather.Given as goal

abbrev pub invariant-loop-i : goal.invariant-loop-i
invariant-loop-i l = Gathered l.initial.symbols l.initial.lengths l.symbols l.lengths l.i l.count l.nearest l.cells

abbrev pub decreases-loop-i : goal.decreases-loop-i
decreases-loop-i l = length l.initial.lengths - l.i
