-- `rows::drawing::draw_row` meets its contract: the row's lines and its part of the store are lent, and drawn.
use Rattle.std.proofs.Common.{◌≡◌, ◌*◌, ◌<◌, length, ◌∙◌, arith}
use Rattle.grid.proofs.Sound.{sound_facts}
use Rattle.rows.proofs.Placed.{lines_fit, place_most, symbols-fit, index-most, rest_length, part_length, index_drawn, store_drawn}
use Rattle.rows.proofs.drawing.draw_row.Goals as goal

pub overflow_mul-at : goal.overflow_mul-at
overflow_mul-at c =
    let g = c.sound.inside.grid in
    record { fits = omega (arith, place_most g (sound_facts g c.sound.invariant) (rw (← c.sound.view_is) at c.requires.room.0)) }

pub overflow_mul-at-2 : goal.overflow_mul-at-2
overflow_mul-at-2 c =
    let g = c.sound.inside.grid in
    let s = sound_facts g c.sound.invariant in
    let left = rw (← c.sound.view_is) at c.requires.room.0 in
    record { fits = omega (arith, lines_fit g s left, index-most g s left) }

pub slice_bounds-draw_lines-count : goal.slice_bounds-draw_lines-count
slice_bounds-draw_lines-count c =
    let g = c.sound.inside.grid in
    let room = rw (← c.sound.view_is) at c.requires.room in
    omega (arith, lines_fit g (sound_facts g c.sound.invariant) room.0, room.1)

pub slice_bounds-draw_lines-start : goal.slice_bounds-draw_lines-start
slice_bounds-draw_lines-start c =
    let g = c.sound.inside.grid in
    let room = rw (← c.sound.view_is) at c.requires.room in
    omega (arith, lines_fit g (sound_facts g c.sound.invariant) room.0, room.1)

pub draw_lines-requires-clause-room : goal.draw_lines-requires-clause-room
draw_lines-requires-clause-room c =
    let g = c.sound.inside.grid in
    let room = rw (← c.sound.view_is) at c.requires.room in
    rw (← c.sound.view_is, rest_length) (omega (arith, lines_fit g (sound_facts g c.sound.invariant) room.0, room.1))

pub returns-clause-index_after : goal.returns-clause-index_after
returns-clause-index_after c =
    let a = c.args in
    rw (← c.sound.view_is) (index_drawn c.sound.inside.grid a.tape.now.tape a.swept _ _ (rw (← c.sound.view_is) at c.draw_lines.ensures.band_after))

pub returns-clause-store_after : goal.returns-clause-store_after
returns-clause-store_after c =
    let a = c.args in
    rw (← c.sound.view_is) (store_drawn c.sound.inside.grid a.tape.now.tape _ _ _ c.stored_cells-count.ensures (rw (← c.sound.view_is) at c.draw_lines.ensures.store_after))
