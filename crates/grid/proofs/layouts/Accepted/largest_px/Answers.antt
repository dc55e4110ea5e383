-- `grid::layouts::Accepted::largest_px` meets its contract: the largest size that fits is at most px.
use Rattle.std.proofs.Common.{sym, ◌∙◌, arith}
use Rattle.grid.specs.Fit.{fits}
use Rattle.grid.proofs.Sizes.{largest_found, largest_next, largest_none}
use Rattle.grid.proofs.layouts.Accepted.largest_px.Goals as goal

pub loop-px-preserved : goal.loop-px-preserved
loop-px-preserved c =
    let l = c.loop-px in
    sym (largest_next (fits c.args.self.now) l.px c.loop-px-test.true (sym c.fits.ensures ∙ c.if-fits.false)) ∙ l.invariant

pub returns-then-fits : goal.returns-then-fits
returns-then-fits c =
    let l = c.loop-px in
    (sym (largest_found (fits c.args.self.now) l.px c.loop-px-test.true (sym c.fits.ensures ∙ c.if-fits.true) ∙ l.invariant), c.loop-px-test.true)

pub returns : goal.returns
returns c = let l = c.loop-px in sym (largest_none (fits c.args.self.now) l.px (omega arith) ∙ l.invariant)
