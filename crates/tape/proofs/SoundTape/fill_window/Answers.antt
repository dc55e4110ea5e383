-- `tape::SoundTape::fill_window` meets its contract: the three parts make the whole.
use Rattle.tape.proofs.Whole.{window_whole}
use Rattle.tape.proofs.SoundTape.fill_window.Goals as goal

pub returns : goal.returns
returns c =
    let left = rw c.left.ensures at c.fill_side.ensures in
    let right = rw c.right.ensures at c.fill_side-2.ensures in
    rw (← c.self.view_is) (window_whole _ _ _ _ _ _ _ _ (rw (← c.self.view_is) at left) c.place.ensures c.place-2.ensures c.fill.ensures (rw (← c.self.view_is) at right))
