-- `colours::ready_colour` meets its contract: the three bytes of an index byte are its colour.
use Rattle.colours.specs.Inner.Table.{entry_of}
use Rattle.colours.specs.Meanings.{colour_at}
use Rattle.colours.specs.Palettes.{light}
use Rattle.colours.proofs.Pixels.{entry_read}
use Rattle.colours.proofs.ready_colour.Goals as goal

pub returns : goal.returns
unfolding entry_of
returns c = rw (c.from-at.ensures, c.requires) (entry_read (colour_at light) _ c.ranges.index.fits)
