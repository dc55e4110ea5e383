-- `tape::checks::side_joined` meets its contract: what the symbols that are left answer, after the one before them, is what all of them do.
use Rattle.std.proofs.Common.{◌∙◌}
use borrow.Author.Tests.{eq-eqb, ne_eqb}
use Rattle.tape.proofs.Differing.{differing-drop, differing_none}
use Rattle.tape.proofs.checks.side_joined.Goals as goal

pub returns-then-symbol-beyond : goal.returns-then-symbol-beyond
returns-then-symbol-beyond c = rw (c.loop-symbol.invariant, differing-drop c.loop-symbol.beyond c.args.symbols.now c.loop-symbol.symbol-index c.loop-symbol-test.true, eq-eqb _ _ c.if-symbol-beyond.true)

pub loop-symbol-preserved : goal.loop-symbol-preserved
loop-symbol-preserved c = c.loop-symbol.invariant ∙ rw (differing-drop c.loop-symbol.beyond c.args.symbols.now c.loop-symbol.symbol-index c.loop-symbol-test.true, ne_eqb _ _ c.if-symbol-beyond.false)

pub returns : goal.returns
returns c = rw (c.loop-symbol.invariant, differing_none c.loop-symbol.beyond c.args.symbols.now c.loop-symbol.symbol-index c.loop-symbol-test.false)
