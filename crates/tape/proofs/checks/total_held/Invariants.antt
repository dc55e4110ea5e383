-- `tape::checks::total_held` meets its contract: with the runs that are left, the sum makes up all runs.
use Rattle.std.proofs.Common.{◌≡◌, ◌+◌, ◌^◌, ◌<◌, drop}
use Rattle.tape.specs.Checks.{total}
use Rattle.tape.proofs.checks.total_held.Given as goal

abbrev pub invariant-loop-n : goal.invariant-loop-n
invariant-loop-n l = (l.sum < 2 ^ 64) × (l.sum + total (drop l.n-index l.lengths) ≡ total l.lengths)
