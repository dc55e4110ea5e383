-- `tape::checks::side_joined` meets its contract: what the symbols that are left answer, after the one before them, is what all of them do.
use Rattle.std.proofs.Common.{◌≡◌, drop}
use Rattle.tape.specs.Joined.{differing}
use Rattle.tape.proofs.checks.side_joined.Given as goal

abbrev pub invariant-loop-symbol : goal.invariant-loop-symbol
invariant-loop-symbol l = differing 0 l.symbols ≡ differing l.beyond (drop l.symbol-index l.symbols)
