-- `probe::across::add_runs` meets its contract: each turn adds the run at its place in the two slices.
use Rattle.std.proofs.Common.{◌+◌, ◌*◌, ◌∙◌, length, length-append, arith, rules}
use Rattle.std.proofs.lemmas.Slice.Zip.{zip_turn}
use Rattle.limits.specs.Limits.{max_cells}
use Rattle.columns.proofs.Added.{takes_more, takes_room}
use Rattle.probe.proofs.Tallies.{runs_next, runs_none}
use Rattle.probe.proofs.across.add_runs.Goals as goal

pub loop-low-init : goal.loop-low-init
loop-low-init c = record { added = runs_none _ _ _ _ _; room = c.requires.0 }

pub loop-low-preserved : goal.loop-low-preserved
loop-low-preserved c =
    let l = c.loop-low in
    let a = c.args in
    let n = length l.yielded in
    let turn = zip_turn a.low.now a.high.now l.yielded _ _ c.next.new.self _ (search rules) (search rules) l.yielded_by _ c.in-Some.is c.next.ensures.steps in
    let added = c.add_run.ensures in
    record {
      added = rw length-append (added ∙ rw (turn.2 0, turn.3 0) (runs_next a.first a.cells a.low.now a.high.now n a.tallies.now l.tallies l.invariant.added));
      room =
          rw length-append
          (takes_room _ _ (1 + n * max_cells + a.cells) (1 + (n + 1) * max_cells) c.add_run.new.tallies (omega (arith, c.requires.0.2))
          (takes_more _ _ (1 + n * max_cells) _ _ _ added l.invariant.room));
    }
