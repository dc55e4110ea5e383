-- `colours::paint` meets its contract. The invariant: the first i pixels stand, and the rest is as it was.
use Rattle.std.proofs.Common.{◌≡◌, ◌*◌, ◌++◌, get_or, drop}
use Rattle.colours.specs.Meanings.{colour_at}
use Rattle.colours.specs.Table.{pixel, blocks}
use Rattle.colours.proofs.paint.Given as goal

abbrev pub invariant-loop-i : goal.invariant-loop-i
invariant-loop-i l = l.out ≡ blocks (λ k. pixel (colour_at l.fn.palette (get_or l.index k 0))) l.i ++ drop (l.i * 4) l.initial.out
