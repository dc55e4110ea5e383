-- `line::shade_row` meets its contract, in cells and in bins.
use Rattle.std.proofs.Common.{◌≡◌, length, take, rules}
use Rattle.line.proofs.Parted.{altered_front}
use Rattle.line.proofs.Parts.{cells_fit, bins_fit, shaded_bins}
use Rattle.line.proofs.shade_row.Goals as goal

pub shade_in_cells-requires : goal.shade_in_cells-requires
shade_in_cells-requires c =
    let f = cells_fit _ _ c.args.store.now c.requires.sound.0 c.requires.sound.1 c.requires.sound.2 _ c.in-Cells.count _ _ c.in-Cells.is c.requires.lent.0 in
    let long : length (take c.args.width c.args.line.now) ≡ c.args.width = search rules in
    (f.0, rw long f.1, c.requires.sound.4)

pub shade_in_bins-requires : goal.shade_in_bins-requires
shade_in_bins-requires c =
    let f = bins_fit _ _ c.args.tallies.now c.requires.sound.0 c.requires.sound.1 c.requires.sound.2 _ _ c.in-Bins.width c.in-Bins.is c.requires.lent.1 in
    let long : length (take c.args.width c.args.line.now) ≡ c.args.width = search rules in
    (f.0, rw long f.1)

pub returns-in-Cells-clause-line_after : goal.returns-in-Cells-clause-line_after
returns-in-Cells-clause-line_after c =
    let a = c.args in
    let long : length (take a.width a.line.now) ≡ a.width = search rules in
    let stored = rw c.in-Cells.is at c.requires.lent.0 in
    rw (c.in-Cells.is, ← stored) (altered_front _ a.width a.line.now _ c.requires.sound.3 (rw long at c.shade_in_cells.ensures.line_after))

pub returns-in-Bins : goal.returns-in-Bins
returns-in-Bins c =
    let a = c.args in
    let e = c.shade_in_bins.ensures in
    let said =
    shaded_bins a.columns a.width a.tape.now.count _ a.tape.now.tape
    (take a.width a.line.now) _ a.store.now a.tallies.now _ _ c.in-Bins.width _ c.in-Bins.is c.requires.sound.2 c.requires.lent.0 c.requires.lent.1 e.value e.line_after e.tallies_after in
    record { value = said.0; line_after = altered_front _ a.width a.line.now _ c.requires.sound.3 said.1.0; store_after = said.1.1.0; tallies_after = said.1.1.1 }
