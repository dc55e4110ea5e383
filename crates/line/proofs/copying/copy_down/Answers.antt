-- `line::copying::copy_down` meets its contract: at each turn no more lines are copied than are done, and none past the last.
use Rattle.std.proofs.Common.{◌+◌, ◌*◌, ◌≤◌, arith, add-mul, one-mul, mul-le-mul_right}
use Rattle.slices.proofs.Altered.{altered_none}
use Rattle.line.proofs.Shading.{copied_more}
use Rattle.line.proofs.copying.copy_down.Goals as goal

pub loop-done-init : goal.loop-done-init
loop-done-init c = record { some = (omega arith, omega arith); few = omega arith; copies = rw (one-mul c.args.width) (altered_none _ c.args.width c.args.band.now) }

pub repeat-requires : goal.repeat-requires
repeat-requires c =
    let w = c.args.width in
    let n = c.loop-done.done in
    let m = c.min-more.result in
    let fits : (n + m) * w ≤ c.args.lines * w = mul-le-mul_right w (omega arith) in
    (mul-le-mul_right w (omega arith), omega (arith, add-mul n m w, fits))

pub loop-done-preserved : goal.loop-done-preserved
loop-done-preserved c =
    let l = c.loop-done in
    let a = c.args in
    let m = c.min-more.result in
    let fits : (l.done + m) * a.width ≤ a.lines * a.width = mul-le-mul_right a.width (omega arith) in
    record {
      some = c.next_together-together.ensures;
      few = omega arith;
      copies = copied_more a.width m l.done a.band.now l.band c.repeat.new.bytes c.requires.0 (omega arith) (omega arith) (omega (arith, fits)) l.invariant.copies c.repeat.ensures;
    }
