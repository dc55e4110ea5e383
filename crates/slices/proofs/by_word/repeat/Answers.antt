-- `slices::by_word::repeat` meets its contract: the part behind the front becomes its copy.
use Rattle.slices.proofs.Parts.{copied}
use Rattle.slices.proofs.by_word.repeat.Goals as goal

pub returns : goal.returns
returns c = rw (c.copy.ensures, c.split_at_mut-front.ensures.front, c.split_at_mut-front.ensures.back) (copied c.args.at c.args.count c.args.bytes.now c.requires.0 c.requires.1)
