-- `shade::tally_share` meets its contract: both numbers are whole numbers that an f64 has.
use Rattle.std.proofs.Common.{refl}
use Rattle.shade.specs.Share.{share}
use Rattle.shade.proofs.tally_share.Goals as goal

pub returns : goal.returns
unfolding share
returns c = refl
