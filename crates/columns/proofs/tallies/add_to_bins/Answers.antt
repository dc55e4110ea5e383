-- `columns::tallies::add_to_bins` meets its contract: each turn adds the piece of the run that lies in one bin.
use Rattle.std.proofs.Common.{◌+◌, ◌*◌, ◌/◌, ◌≤◌, ◌≡◌, length, refl, arith, mul_comm, mul-le-mul_right}
use Rattle.columns.proofs.Overlap.{next_block, blocks-apart}
use Rattle.columns.proofs.Adding.{gained_next, gained_all}
use Rattle.columns.proofs.tallies.add_to_bins.Goals as goal

pub loop-tally-preserved : goal.loop-tally-preserved
loop-tally-preserved c =
    let a = c.args in
    let l = c.loop-tally in
    record {
      piece = omega arith;
      bin = omega (arith, next_block (a.run.low * length a.tallies.now / a.cells + l.tally-index) a.cells);
      gained = gained_next a.cells _ _ l.at l.border l.tally-index _ _ (omega arith) (omega arith) (omega arith) (omega arith) (omega arith) l.invariant.gained;
    }

pub returns-after-loop-tally : goal.returns-after-loop-tally
returns-after-loop-tally c =
    let a = c.args in
    let w = length a.tallies.now in
    let all : w ≤ a.run.low * w / a.cells + c.loop-tally.tally-index = omega arith in
    let at_end : c.loop-tally.at ≡ a.run.high * w + w = omega (arith, blocks-apart a.run.high a.cells w c.requires.2, mul_comm a.cells w, mul-le-mul_right a.cells all) in
    gained_all a.cells a.run.low a.run.high _ _ _ at_end c.loop-tally.invariant.gained

pub returns-then-end-border : goal.returns-then-end-border
returns-then-end-border c =
    let a = c.args in
    let l = c.loop-tally in
    gained_all a.cells a.run.low a.run.high _ _ _ refl
    (gained_next a.cells _ _ l.at _ l.tally-index _ _ (omega arith) (omega arith) (omega arith) (omega arith) (omega arith) l.invariant.gained)
