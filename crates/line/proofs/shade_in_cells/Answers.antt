-- `line::shade_in_cells` meets its contract: the symbols, then their shades and how many are written.
use Rattle.std.proofs.Common.{ℕ, ◌<◌, length, ap, subst}
use Rattle.tape.specs.Tape.{symbol_at}
use Rattle.tape.specs.Inner.Sound.{Checked}
use Rattle.line.proofs.Parts.{stored_length, stored_below, stored_units, stored_shades}
use Rattle.line.proofs.shade_in_cells.Goals as goal

pub shade_cells-requires : goal.shade_cells-requires
shade_cells-requires c =
    let a = c.args in
    let w = c.fill_window.ensures in
    let t = a.tape.now.tape in
    let n = length a.store.now in
    let below = subst (λ (u : Checked). (p : ℕ) → symbol_at u.tape p < u.count) c.tape.view_is c.tape.invariant.below in
    rw (ap (λ (t : Checked). t.count) c.tape.view_is)
    (rw (stored_length t a.first n _ w) c.requires.1, c.requires.0, c.requires.2, stored_below t a.first n _ w _ below)

pub returns : goal.returns
returns c =
    let a = c.args in
    let w = c.fill_window.ensures in
    let t = a.tape.now.tape in
    let n = length a.store.now in
    record {
      value = stored_units t a.first n _ w _ c.count_written.ensures;
      line_after = stored_shades t a.first n _ w a.px a.x0 a.tape.now.count _ _ _ c.requires.0 (rw (ap (λ (t : Checked). t.count) c.tape.view_is) at c.shade_cells.ensures);
      store_after = w;
    }
