-- `line::bins::shade_bins` meets its contract: at each turn the bins before v are done.
use Rattle.std.proofs.Common.{◌≡◌, get_or}
use Rattle.slices.specs.Inner.Filled.{altered}
use Rattle.shade.specs.Shade.{tally_shade}
use Rattle.line.proofs.bins.shade_bins.Given as goal

abbrev pub invariant-loop-v : goal.invariant-loop-v
invariant-loop-v l = l.line ≡ altered (λ v b. tally_shade (get_or l.tallies v 0) l.cells) 0 l.v l.initial.line
