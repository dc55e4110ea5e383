-- `line::bins::add_side` meets its contract: at each turn the cells of the runs passed are added.
use Rattle.std.proofs.Common.{◌+◌, ◌-◌, ◌^◌, get_or, sym, arith}
use Rattle.tape.proofs.OneSide.{fewer_fit}
use Rattle.tape.proofs.Runs.{total_back, total_none}
use Rattle.columns.proofs.Added.{takes_more, takes_room}
use Rattle.line.proofs.Passing.{Run, next_run}
use Rattle.line.proofs.Tallying.{tallied}
use Rattle.line.proofs.Walk.{none_added, side_added}
use Rattle.line.proofs.bins.add_side.Goals as goal
use Rattle.line.proofs.bins.add_side.Goals.{In-loop-i}

run : (c : In-loop-i) →
    let s = c.args.side in
    let l = c.loop-i in
    Run s.symbols.now s.lengths.now l.passed (get_or s.symbols.now (l.i - 1) 0) (get_or s.lengths.now (l.i - 1) 0)
run c = next_run _ _ _ _ c.requires.readable.paired c.loop-i.invariant.passed_is c.loop-i-test.true c.loop-i.auto.i

pub loop-i-init : goal.loop-i-init
loop-i-init c =
    let a = c.args in
    let s = a.side in record {
      passed_is = sym (total_none s.lengths.now);
      tallied = none_added _ _ (tallied a.first a.cells) a.leftward a.head s.symbols.now s.lengths.now a.tallies.now;
    }

pub positions-low-requires : goal.positions-low-requires
positions-low-requires c = fewer_fit c.args.leftward c.args.head _ _ (run (goal.at.positions-low-requires c).In-loop-i).among c.requires.readable.fits

pub add_written-requires : goal.add_written-requires
add_written-requires c =
    takes_room _ _ (2 ^ 62 + c.args.cells) (2 ^ 63) _ (omega (arith, c.requires.takes.2)) (takes_more _ _ (2 ^ 62) _ _ _ c.loop-i.invariant.tallied c.requires.takes)

pub overflow_add-passed : goal.overflow_add-passed
overflow_add-passed c =
    record { fits = omega (arith, (run (goal.at.overflow_add-passed c).In-loop-i).among, c.requires.readable.number) }

pub loop-i-preserved : goal.loop-i-preserved
loop-i-preserved c =
    let a = c.args in
    let s = a.side in
    let l = c.loop-i in
    let e = c.positions-low.ensures in
    record {
      passed_is = omega (arith, l.invariant.passed_is, total_back s.lengths.now l.i c.loop-i-test.true l.auto.i);
      tallied =
          side_added _ _ (tallied a.first a.cells) a.leftward a.head s.symbols.now s.lengths.now a.tallies.now _ _ _ _ _ _ _
          (run (goal.at.loop-i-preserved c).In-loop-i) c.requires.readable.fits e.0 e.1 l.invariant.tallied
          c.add_written.ensures;
    }
