-- `colours::held` meets its contract, by the two tests.
use Rattle.std.specs.Float.Ieee.{of_bits, of_int}
use Rattle.colours.specs.Mix.{held_of}
use Rattle.colours.proofs.held.Goals as goal

pub returns-then-t-2 : goal.returns-then-t-2
unfolding of_bits of_int held_of
returns-then-t-2 c = simp (c.if-t.true, c.if-t-2.true)

pub returns-else-t-2 : goal.returns-else-t-2
unfolding of_bits of_int held_of
returns-else-t-2 c = simp (c.if-t.true, c.if-t-2.false)

pub returns-else-t : goal.returns-else-t
unfolding of_bits of_int held_of
returns-else-t c = simp c.if-t.false
