-- `line::outside::count_side` meets its contract: at each turn the runs passed are counted.
use Rattle.std.proofs.Common.{◌≡◌, ◌+◌, ◌-◌, get_or, sym, ap, arith}
use Rattle.tape.specs.Inner.Sides.{side_symbol}
use Rattle.tape.proofs.OneSide.{fewer_fit}
use Rattle.tape.proofs.Runs.{total_back, total_none}
use Rattle.line.specs.Inner.Tallying.{written_side}
use Rattle.line.specs.Inner.Counting.{counted}
use Rattle.line.proofs.Counted.{side_few}
use Rattle.line.proofs.Passing.{Run, next_run}
use Rattle.line.proofs.Tallying.{counting}
use Rattle.line.proofs.Walk.{none_added, side_added}
use Rattle.line.proofs.outside.count_side.Goals as goal
use Rattle.line.proofs.outside.count_side.Goals.{In-loop-i, After-count_run-sum}

run : (c : In-loop-i) →
    let s = c.side.inside.runs in
    let l = c.loop-i in
    Run s.symbols.now s.lengths.now l.passed (get_or s.symbols.now (l.i - 1) 0) (get_or s.lengths.now (l.i - 1) 0)
run c = next_run _ _ _ _ c.side.invariant.paired c.loop-i.invariant.passed_is c.loop-i-test.true c.loop-i.auto.i

-- the run at hand is counted too
next : (c : After-count_run-sum) → let a = c.args in let s = c.side.inside in let runs = s.runs in let l = c.loop-i in
    Run runs.symbols.now runs.lengths.now l.passed (get_or runs.symbols.now (l.i - 1) 0) (get_or runs.lengths.now (l.i - 1) 0)
    → l.sum + c.count_run-sum.result
    ≡ 0 + counted a.from a.to (written_side s.leftward s.head (l.passed + get_or runs.lengths.now (l.i - 1) 0) (side_symbol s.leftward s.head runs.symbols.now runs.lengths.now))
next c at_hand =
    let a = c.args in
    let s = c.side.inside in
    let l = c.loop-i in
    side_added _ _ (counting a.from a.to) s.leftward s.head s.runs.symbols.now s.runs.lengths.now 0 _ _ _ _ _ _ _
    at_hand c.side.invariant.fits c.positions-low.ensures.0 c.positions-low.ensures.1 l.invariant.counted_so_far
    (ap (λ n. l.sum + n) c.count_run-sum.ensures)

pub loop-i-init : goal.loop-i-init
loop-i-init c =
    let a = c.args in
    let s = c.side.inside in record {
      passed_is = sym (total_none s.runs.lengths.now);
      counted_so_far = none_added _ _ (counting a.from a.to) s.leftward s.head s.runs.symbols.now s.runs.lengths.now 0;
    }

pub positions-low-requires : goal.positions-low-requires
positions-low-requires c = fewer_fit c.side.inside.leftward c.side.inside.head _ _ (run (goal.at.positions-low-requires c).In-loop-i).among c.side.invariant.fits

-- no more are counted than are passed
pub overflow_add-sum : goal.overflow_add-sum
overflow_add-sum c =
    let a = c.args in
    let s = c.side.inside in
    let at_hand = run (goal.at.overflow_add-sum c).In-loop-i in
    let n = c.loop-i.passed + get_or s.runs.lengths.now (c.loop-i.i - 1) 0 in
    let fits = fewer_fit s.leftward s.head n _ at_hand.among c.side.invariant.fits in
    let counted_next = next (goal.at.overflow_add-sum c).After-count_run-sum at_hand in
    record { fits = omega (arith, counted_next, at_hand.among, c.side.invariant.number, side_few a.from a.to s.leftward s.head n (side_symbol s.leftward s.head s.runs.symbols.now s.runs.lengths.now) fits) }

pub overflow_add-passed : goal.overflow_add-passed
overflow_add-passed c =
    record { fits = omega (arith, (run (goal.at.overflow_add-passed c).In-loop-i).among, c.side.invariant.number) }

pub loop-i-preserved : goal.loop-i-preserved
loop-i-preserved c =
    let l = c.loop-i in
    record {
      passed_is = omega (arith, l.invariant.passed_is, total_back c.side.inside.runs.lengths.now l.i c.loop-i-test.true l.auto.i);
      counted_so_far = next (goal.at.loop-i-preserved c).After-count_run-sum (run (goal.at.loop-i-preserved c).In-loop-i);
    }
