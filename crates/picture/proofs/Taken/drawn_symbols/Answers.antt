-- `picture::Taken::drawn_symbols` meets its contract: the drawn rows are among those of the store.
use Rattle.std.proofs.Common.{sym, arith, length-take-le}
use Rattle.grid.proofs.Sound.{stored_in_all}
use Rattle.picture.proofs.Compared.{drawn_within}
use Rattle.picture.proofs.Taken.drawn_symbols.Goals as goal

pub overflow_mul-drawn : goal.overflow_mul-drawn
overflow_mul-drawn c =
    let g = c.grid.inside.grid in
    rw c.stored_cells.ensures (record { fits = omega (arith, drawn_within g c.grid.invariant, stored_in_all g c.grid.invariant) })

pub slice_bounds-result-end : goal.slice_bounds-result-end
slice_bounds-result-end c =
    let g = c.grid.inside.grid in
    rw c.stored_cells.ensures (sym (length-take-le _ _ (rw (c.self.invariant.1, ← c.grid.view_is) (drawn_within g c.grid.invariant))))
