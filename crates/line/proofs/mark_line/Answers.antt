-- `line::mark_line` meets its contract: what is marked is within the line.
use Rattle.std.proofs.Common.{◌∙◌, ap, length}
use Rattle.line.specs.Line.{swept_over}
use Rattle.line.proofs.Altered.{length_on}
use Rattle.line.proofs.Parts.{head-within, swept-within}
use Rattle.line.proofs.mark_line.Goals as goal

pub draw_swept-requires : goal.draw_swept-requires
draw_swept-requires c =
    rw c.swept_pixels.ensures (swept-within c.args.window.columns _ c.args.window.usable c.requires c.args.swept)

pub draw_head-requires : goal.draw_head-requires
draw_head-requires c =
    let long = ap length c.draw_swept.ensures ∙ length_on swept_over _ _ in
    rw (c.head.ensures, long) (head-within c.args.window.columns _ c.args.window.usable c.requires c.args.head)
