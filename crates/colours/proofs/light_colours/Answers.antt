-- `colours::light_colours` meets its contract: the constant passes the test of LIGHT's rule, which antt computes at each index byte.
use Rattle.std.proofs.Common.{refl}
use Rattle.std.specs.Float.Ieee.{add, sub, mul, round, lt, of_int}
use Rattle.shade.specs.Byte.{byte_of}
use Rattle.colours.specs.Mix.{held_of, channel_of, blend_of, rounded_of, mix_of, tint}
use Rattle.colours.specs.Meanings.{colour_at}
use Rattle.colours.proofs.LightRule.{below, follows}
use Rattle.colours.proofs.light_colours.Goals as goal

pub returns : goal.returns
unfolding below colour_at mix_of blend_of rounded_of channel_of held_of byte_of tint add sub mul round of_int lt
returns c = follows _ refl tt
