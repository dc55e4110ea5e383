-- `rows::drawing::draw_lines` meets its contract: the first line is shaded, marked and copied down.
use Rattle.std.proofs.Common.{◌≡◌, ◌*◌, ◌≤◌, ap, ◌∙◌, le_trans, length, arith}
use Rattle.tape.specs.Inner.Sound.{Checked}
use Rattle.columns.proofs.Soundness.{sound_right}
use Rattle.line.specs.Line.{swept_over}
use Rattle.grid.proofs.Sound.{sound_facts, sound_columns, line_within}
use Rattle.slices.proofs.Altered.{length-altered}
use Rattle.line.proofs.Altered.{length_on}
use Rattle.rows.proofs.Bands.{band_drawn}
use Rattle.rows.proofs.drawing.draw_lines.Goals as goal

pub shade_row-units-requires-clause-sound : goal.shade_row-units-requires-clause-sound
shade_row-units-requires-clause-sound c =
    let g = c.sound.inside.grid in
    let s = sound_facts g c.sound.invariant in
    (s.width_least, s.width_most, sound_columns g c.sound.invariant, line_within g s _ (rw (← c.sound.view_is) at c.requires.room), rw (c.requires.alphabet, ← c.sound.view_is) s.symbols_most)

pub mark_line-requires : goal.mark_line-requires
mark_line-requires c =
    let g = c.sound.inside.grid in
    let s = sound_facts g c.sound.invariant in
    let long = ap length c.shade_row-units.ensures.line_after ∙ length-altered _ _ _ _ in
    rw (c.window.ensures, long, ← c.sound.view_is) (le_trans (sound_right g.width g.columns (sound_columns g c.sound.invariant)) (line_within g s _ (rw (← c.sound.view_is) at c.requires.room)))

pub copy_down-requires : goal.copy_down-requires
copy_down-requires c =
    let s = sound_facts c.sound.inside.grid c.sound.invariant in
    let long =
    ap length c.mark_line.ensures ∙ length_on (λ b. 255) _ _ ∙ length_on swept_over _ _ ∙ ap length c.shade_row-units.ensures.line_after ∙ length-altered _ _ _ _ in
    (s.width_least, s.row_least, rw long (rw (← c.sound.view_is) at c.requires.room))

pub returns-clause-band_after : goal.returns-clause-band_after
returns-clause-band_after c =
    let a = c.args in
    let g = c.sound.inside.grid in
    let shaded = rw (c.requires.alphabet, ← c.sound.view_is) at c.shade_row-units.ensures.line_after in
    let marked = rw (c.window.ensures, ap (λ (t : Checked). t.tape.head) c.tape.view_is, ← c.sound.view_is) at c.mark_line.ensures in
    rw (← c.sound.view_is)
    (band_drawn g a.tape.now.tape a.swept a.band.now _ _ _ (sound_facts g c.sound.invariant) (sound_right g.width g.columns (sound_columns g c.sound.invariant))
    (rw (← c.sound.view_is) at c.requires.room) shaded marked c.copy_down.ensures)
