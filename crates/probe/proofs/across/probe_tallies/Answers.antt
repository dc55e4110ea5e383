-- `probe::across::probe_tallies` meets its contract: runs may be added to cleared tallies.
use Rattle.std.proofs.Common.{arith}
use Rattle.std.proofs.lemmas.Grind.{common_steps}
use Rattle.columns.proofs.Added.{takes_cleared}
use Rattle.probe.proofs.across.probe_tallies.Goals as goal

pub add_runs-requires : goal.add_runs-requires
add_runs-requires c =
    let a = c.args in
    (takes_cleared a.first a.cells a.tallies.now _ c.clear.ensures (omega arith) (grind (arith, common_steps)) (grind (arith, common_steps)) (grind (arith, common_steps)), omega arith, omega arith)
