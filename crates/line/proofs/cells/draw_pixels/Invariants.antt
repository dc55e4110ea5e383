-- `line::cells::draw_pixels` meets its contract: at each turn the pixels before the one at hand are done.
use Rattle.std.proofs.Common.{◌≡◌, ℕ, ◌<◌, get_or}
use Rattle.line.proofs.cells.draw_pixels.Given as goal

abbrev pub invariant-loop-k : goal.invariant-loop-k
invariant-loop-k l = (k : ℕ) → k < l.k → get_or l.pixels k 0 ≡ get_or l.shades (get_or l.symbols k 0) 0
