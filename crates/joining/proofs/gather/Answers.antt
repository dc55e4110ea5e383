-- `joining::gather` meets its contract: before each turn the runs below i are joined at the front of the slices.
use Prim.Native.Nat.{◌+◌}
use mathlib.Core.Path.{ap}
use lib.Dec.{eqb}
use lib.ListN.{get_or}
use native.Mathlib.Omega.{arith}
use Rattle.joining.proofs.Gathering.{gathered_start, sum_fits, turn}
use Rattle.joining.proofs.gather.Goals as goal
use Rattle.joining.proofs.gather.Goals.{After-select_unpredictable-count}

pub overflow_add-cells : goal.overflow_add-cells
overflow_add-cells c =
    let l = c.loop-i in
    let a = c.args in
    let same = eqb (get_or l.symbols l.i 0) l.nearest in
    let f = sum_fits a.symbols.now a.lengths.now l.symbols l.lengths l.i l.count l.nearest l.cells l.invariant (omega (arith, l.invariant.l_long)) same _ c.select_unpredictable.ensures in
    record { fits = omega arith }

pub loop-i-preserved : goal.loop-i-preserved
loop-i-preserved c =
    let l = c.loop-i in
    turn _ _ _ _ _ _ _ _ l.invariant (omega (arith, l.invariant.l_long)) _ _ c.select_unpredictable-count.ensures (ap (λ n. n + get_or l.lengths l.i 0) c.select_unpredictable.ensures)

pub loop-i-init : goal.loop-i-init
loop-i-init c = gathered_start _ _ _ c.requires.0 c.outer_blanks-i.ensures
