-- `slices::fill` meets its contract: the library fills the part.
use Rattle.slices.proofs.Filling.{filled_part}
use Rattle.slices.proofs.fill.Goals as goal

pub returns : goal.returns
returns c = rw (c.fill.ensures.after (λ y e. e)) (filled_part c.args.from c.args.to c.args.value c.args.out.now c.requires.0 c.requires.1)
