-- `line::cells::shade_symbols` meets its contract: the table's first places are done.
use Rattle.std.proofs.Common.{arith, rules}
use Rattle.std.proofs.lemmas.Grind.{common_steps}
use Rattle.line.proofs.Parted.{altered_first}
use Rattle.line.proofs.cells.shade_symbols.Goals as goal

pub returns : goal.returns
returns c = altered_first _ _ _ _ c.requires.1 (search rules) (λ k h. c.loop-symbol.invariant k (grind (arith, common_steps)))
