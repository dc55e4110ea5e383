-- `line::marks::mark_word` meets its contract: no byte borrows, and each of the 256 bytes is made what it should be.
use Rattle.std.proofs.Common.{arith, lit≤}
use Rattle.line.proofs.Masks.{no_borrow, marked_word}
use Rattle.line.proofs.marks.mark_word.Goals as goal

pub overflow_sub-low : goal.overflow_sub-low
overflow_sub-low c = no_borrow c.args.pixels 0x8080_8080_8080_8080 0x0101_0101_0101_0101 (lit≤ tt)

pub overflow_sub-result : goal.overflow_sub-result
overflow_sub-result c = omega arith

pub returns : goal.returns
returns c = marked_word c.args.pixels c.ranges.pixels.fits
