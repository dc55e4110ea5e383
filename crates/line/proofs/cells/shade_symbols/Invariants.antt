-- `line::cells::shade_symbols` meets its contract: at each turn the symbols below the one at hand are done.
use Rattle.std.proofs.Common.{◌≡◌, ℕ, ◌<◌, get_or}
use Rattle.shade.specs.Shade.{symbol_shade}
use Rattle.line.proofs.cells.shade_symbols.Given as goal

abbrev pub invariant-loop-symbol : goal.invariant-loop-symbol
invariant-loop-symbol l = (k : ℕ) → k < l.symbol → get_or l.byte-items k 0 ≡ symbol_shade k l.alphabet
