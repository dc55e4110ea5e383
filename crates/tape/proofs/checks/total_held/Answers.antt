-- `tape::checks::total_held` meets its contract: with the runs that are left, the sum makes up all runs.
use Rattle.std.proofs.Common.{arith}
use Rattle.tape.proofs.Runs.{total-drop, total_past}
use Rattle.tape.proofs.checks.total_held.Goals as goal

pub returns-in_default : goal.returns-in_default
returns-in_default c = omega (arith, c.in_default.ensures, c.loop-n.invariant, total-drop c.args.lengths.now c.loop-n.n-index c.loop-n-test.true)

pub loop-n-preserved : goal.loop-n-preserved
loop-n-preserved c =
    let sum = c.in-Some.ensures in
    let t = total-drop c.args.lengths.now c.loop-n.n-index c.loop-n-test.true in
    (omega (arith, sum.0, sum.1), omega (arith, sum.1, t, c.loop-n.invariant.1))

pub returns : goal.returns
returns c = omega (arith, c.loop-n.invariant, total_past c.args.lengths.now c.loop-n.n-index c.loop-n-test.false)
