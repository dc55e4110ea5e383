-- `line::outside::count_run` meets its contract: nothing of a blank, else what the run shares with the positions.
use Rattle.std.proofs.Common.{sym, arith}
use Rattle.line.proofs.Counted.{counted_blank, counted_run}
use Rattle.line.proofs.outside.count_run.Goals as goal

pub returns-then-symbol-eq0 : goal.returns-then-symbol-eq0
returns-then-symbol-eq0 c = let a = c.args in sym (counted_blank a.from a.to a.symbol a.low a.high c.if-symbol-eq0.true)

pub returns-else-symbol-eq0 : goal.returns-else-symbol-eq0
returns-else-symbol-eq0 c = let a = c.args in omega (arith, counted_run a.from a.to a.symbol a.low a.high c.if-symbol-eq0.false)
