-- `grid::soundness::SoundGrid::window` meets its contract: numbers can be worked out of a sound grid's columns.
use Rattle.grid.proofs.Sound.{sound_facts}
use Rattle.grid.proofs.soundness.SoundGrid.window.Goals as goal

pub invariant_of-result : goal.invariant_of-result
invariant_of-result c = record { usable = (sound_facts _ c.self.invariant).usable }
