-- `line::marks::mark_swept` meets its contract: at each turn the pixels before the word at hand, and before the byte at hand, are done, and the others are
-- as they were.
use Rattle.std.proofs.Common.{◌≡◌, ℕ, ◌*◌, ◌<◌, ◌≤◌, get_or}
use Rattle.slices.specs.Inner.Filled.{altered}
use Rattle.line.specs.Line.{swept_over}
use Rattle.line.proofs.marks.mark_swept.Given as goal

abbrev pub invariant-loop-turn : goal.invariant-loop-turn
invariant-loop-turn l = l.pixels ≡ altered (λ k b. swept_over b) 0 (8 * l.turn) l.initial.pixels

abbrev pub invariant-loop-byte : goal.invariant-loop-byte
invariant-loop-byte l = record {
  done : (k : ℕ) → k < l.byte-index → get_or l.byte-items k 0 ≡ swept_over (get_or l.initial.byte-items k 0);
  rest : (k : ℕ) → l.byte-index ≤ k → get_or l.byte-items k 0 ≡ get_or l.initial.byte-items k 0;
}
