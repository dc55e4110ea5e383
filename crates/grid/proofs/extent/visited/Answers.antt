-- `grid::extent::visited` meets its contract: widening what is found by the heads that are left gives the pair that holds all.
use Rattle.std.proofs.Common.{sym, ◌∙◌, arith}
use Rattle.grid.proofs.Heads.{from_bits, widened_next, widened_all, first_widened}
use Rattle.grid.proofs.extent.visited.Goals as goal

pub loop-head-preserved : goal.loop-head-preserved
loop-head-preserved c =
    let l = c.loop-head in
    l.invariant ∙ widened_next _ l.low l.high c.offset-head.result l.head-index c.loop-head-test.true (from_bits _ _ (omega arith) c.offset-head.ensures) ∙ rw (c.min-low.ensures, c.max-high.ensures)

pub returns : goal.returns
returns c =
    let l = c.loop-head in
    sym (widened_all _ l.low l.high l.head-index c.loop-head-test.false) ∙ sym l.invariant
    ∙ first_widened c.args.heads.now c.args.rows _ _ c.requires.0 c.requires.1 c.min-shown.ensures (from_bits _ _ (omega arith) c.offset-first.ensures)
