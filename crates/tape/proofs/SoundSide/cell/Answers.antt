-- `tape::SoundSide::cell` meets its contract: what is left to walk and the runs passed make up the cell's place.
use Rattle.std.proofs.Common.{◌≡◌, ◌≤◌, sym, arith}
use Rattle.tape.specs.Checks.{total}
use Rattle.tape.proofs.Runs.{total_back, total_none, covered, blank-past}
use Rattle.tape.proofs.SoundSide.cell.Goals as goal

pub loop-i-init : goal.loop-i-init
loop-i-init c = omega (arith, total_none c.self.inside.runs.lengths.now)

pub returns-then-left-lengths : goal.returns-then-left-lengths
returns-then-left-lengths c =
    let l = c.loop-i in
    let s = c.self.inside.runs in
    let k = total_back s.lengths.now l.i c.loop-i-test.true l.auto.i in
    rw (← c.self.view_is) (sym (covered s.symbols.now s.lengths.now l.i c.args.cell c.self.invariant.paired c.loop-i-test.true l.auto.i (omega arith) (omega arith)))

pub loop-i-preserved : goal.loop-i-preserved
loop-i-preserved c =
    let l = c.loop-i in
    let k = total_back c.self.inside.runs.lengths.now l.i c.loop-i-test.true l.auto.i in
    omega arith

pub returns : goal.returns
returns c =
    let l = c.loop-i in
    let s = c.self.inside.runs in
    let e : l.i ≡ 0 = omega arith in
    let h : total s.lengths.now ≤ c.args.cell = omega (arith, rw e at l.invariant) in
    rw (← c.self.view_is) (sym (blank-past s.symbols.now s.lengths.now c.args.cell c.self.invariant.paired h))
