-- `line::copying::copy_down` meets its contract: at each turn the lines that are done are copies of the first.
use Rattle.std.proofs.Common.{◌≡◌, ◌*◌, ◌-◌, ◌%◌, ◌≤◌, get_or}
use Rattle.slices.specs.Inner.Filled.{altered}
use Rattle.line.proofs.copying.copy_down.Given as goal

abbrev pub invariant-loop-done : goal.invariant-loop-done
invariant-loop-done l = record {
  some : (1 ≤ l.together) × (l.together ≤ l.done);
  few : l.done ≤ l.lines;
  copies : l.band ≡ altered (λ k b. get_or l.fn.band (k % l.width) 0) l.width (l.done * l.width) l.fn.band;
}

abbrev pub decreases-loop-done : goal.decreases-loop-done
decreases-loop-done l = l.lines - l.done
