-- `tape::SoundSide::fill_side` meets its contract: at each turn the cells of the runs passed are written.
use Prim.Native.Nat.{◌≤◌}
use mathlib.Core.Path.{◌≡◌}
use lib.ListN.{length, drop}
use Rattle.tape.specs.Checks.{total}
use Rattle.tape.proofs.OneSide.{Begun, IsPlace}
use Rattle.tape.proofs.SoundSide.fill_side.Given as goal

abbrev pub invariant-loop-i : goal.invariant-loop-i
invariant-loop-i l =
    (l.i ≤ length l.lengths) × (l.passed ≡ total (drop l.i l.lengths)) × IsPlace l.from l.head l.initial.out l.leftward l.passed l.near × Begun l.from l.head l.symbols l.lengths l.initial.out l.leftward l.passed l.out

abbrev pub decreases-loop-i : goal.decreases-loop-i
decreases-loop-i l = l.i
