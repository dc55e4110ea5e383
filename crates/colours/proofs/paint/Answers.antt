-- `colours::paint` meets its contract. The invariant: the first i pixels stand, and the rest is as it was.
use Rattle.std.proofs.Common.{ℕ, ◌<◌, refl, ap, ◌∙◌, arith}
use Rattle.colours.specs.Meanings.{colour_at}
use Rattle.colours.specs.Table.{pixel, blocks}
use Rattle.colours.proofs.Blocks.{next_block}
use Rattle.colours.proofs.paint.Goals as goal

pub loop-i-init : goal.loop-i-init
unfolding blocks
loop-i-init c = refl

pub loop-i-preserved : goal.loop-i-preserved
loop-i-preserved c =
    let byte : c.from.result < 256 = omega (arith, c.type_inv.index c.loop-i.i) in
    let is = c.copy_from_slice.ensures.after ∙ c.colour_table-table.ensures c.from.result byte ∙ ap (λ (b : ℕ). pixel (colour_at c.args.palette b)) c.from.ensures in
    next_block _ 4 (λ k. refl) _ _ _ _ _ (omega arith) c.loop-i.invariant is
