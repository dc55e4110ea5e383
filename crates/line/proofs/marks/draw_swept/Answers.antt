-- `line::marks::draw_swept` meets its contract: swept goes over the pixels found.
use Rattle.std.proofs.Common.{◌∙◌, arith}
use Rattle.line.specs.Line.{swept_over}
use Rattle.line.proofs.Parted.{mapped_part}
use Rattle.line.proofs.Altered.{found_within, altered_on_lem}
use Rattle.line.proofs.marks.draw_swept.Goals as goal

pub returns-in-Some : goal.returns-in-Some
returns-in-Some c =
    let w = found_within _ _ _ c.in-Some.is c.requires in
    mapped_part (λ b. swept_over b) _ _ _ _ (omega (arith, w)) (omega (arith, w)) c.mark_swept.ensures ∙ altered_on_lem (λ b. swept_over b) _ _ _ c.in-Some.is
