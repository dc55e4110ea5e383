-- `picture::clicks::shown` meets its contract: a row that is done is one of the store's, and what is located is of the window.
use Rattle.std.proofs.Common.{◌≡◌, Some, sym, ap, ◌∙◌, arith}
use Rattle.columns.specs.declared.Columns.{Columns}
use Rattle.columns.specs.Pixels.{located}
use Rattle.columns.proofs.Laws.{located_range}
use Rattle.grid.specs.declared.Grid.{Grid}
use Rattle.grid.proofs.Sound.{sound_facts}
use Rattle.picture.proofs.clicks.shown.Goals as goal

pub nonzero_div-row : goal.nonzero_div-row
nonzero_div-row c = (sound_facts _ c.grid.invariant).row_least

pub location_at-requires-clause-inside : goal.location_at-requires-clause-inside
location_at-requires-clause-inside c =
    let g = c.grid.inside.grid in
    let found : located g.columns c.args.x ≡ Some c.in_ok-found.found =
    ap (λ (columns : Columns). located columns c.args.x) (ap (λ (h : Grid). h.columns) c.grid.view_is ∙ sym c.window.ensures) ∙ sym c.locate.ensures ∙ c.in_ok-found.was in
    let range = located_range g.columns (sound_facts g c.grid.invariant).usable c.args.x _ found in
    rw (← c.grid.view_is) (omega (arith, (sound_facts g c.grid.invariant).done_most, c.if-grid-row.false), range.1, omega (arith, range.0, range.2))
