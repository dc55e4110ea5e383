-- `slices::clear` meets its contract: the library writes as many zeros.
use Rattle.std.proofs.Common.{◌∙◌}
use Rattle.slices.proofs.Filling.{zeros-cleared}
use Rattle.slices.proofs.clear.Goals as goal

pub returns : goal.returns
returns c = c.fill.ensures.after (λ y e. e) ∙ zeros-cleared c.args.words.now
