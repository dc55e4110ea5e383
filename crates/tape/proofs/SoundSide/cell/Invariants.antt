-- `tape::SoundSide::cell` meets its contract: what is left to walk and the runs passed make up the cell's place.
use Rattle.std.proofs.Common.{◌≡◌, ◌+◌, drop}
use Rattle.tape.specs.Checks.{total}
use Rattle.tape.proofs.SoundSide.cell.Given as goal

abbrev pub invariant-loop-i : goal.invariant-loop-i
invariant-loop-i l = l.left + total (drop l.i l.lengths) ≡ l.cell
