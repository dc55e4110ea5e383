-- `line::marks::draw_head` meets its contract: the pixels found are filled.
use Rattle.std.proofs.Common.{◌∙◌, arith, rules}
use Rattle.line.proofs.Parted.{filled_part}
use Rattle.line.proofs.Altered.{found_within, altered_on_lem}
use Rattle.line.proofs.marks.draw_head.Goals as goal

pub returns-in-Some : goal.returns-in-Some
returns-in-Some c =
    let w = found_within _ _ _ c.in-Some.is c.requires in
    filled_part _ _ _ _ _ (omega (arith, w)) (omega (arith, w)) (search rules) ∙ altered_on_lem (λ b. 255) _ _ _ c.in-Some.is
