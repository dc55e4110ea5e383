-- `rows::row` meets its contract: what passed the checks is drawn.
use Rattle.std.proofs.Common.{◌≡◌, sym, ap, ◌∙◌}
use Rattle.refusal.proofs.Kept.{accepted}
use Rattle.grid.specs.declared.Grid.{Grid}
use Rattle.rows.specs.RowCall.{RowInput, row_input}
use Rattle.rows.proofs.RowChecks.{Known, not_refused}
use Rattle.rows.proofs.row.Goals as goal
use Rattle.rows.proofs.row.Goals.{In_ok-sound, Start}

-- what the call is handed
abbrev handed : Start → RowInput
handed s = let a = s.args in row_input a.grid a.index.now a.store.now a.tallies.now a.tape.now a.swept

known : (c : In_ok-sound) → let a = c.args in Known (row_input a.grid a.index.now a.store.now a.tallies.now a.tape.now a.swept)
known c = not_refused _ (accepted _ _ (sym c.check.ensures ∙ c.in_ok-sound.was)).0

sound_is : (c : In_ok-sound) → c.in_ok-sound.sound ≡ c.args.grid
sound_is c = ap (λ p. p.0) (accepted _ _ (sym c.check.ensures ∙ c.in_ok-sound.was)).1

pub draw_row-units-requires-clause-room : goal.draw_row-units-requires-clause-room
draw_row-units-requires-clause-room c =
    let s = (goal.at.draw_row-units-requires-clause-room c).In_ok-sound in
    let k = known s in
    rw (sound_is s) (k.left, k.index_long)

pub draw_row-units-requires-clause-lent : goal.draw_row-units-requires-clause-lent
draw_row-units-requires-clause-lent c =
    let s = (goal.at.draw_row-units-requires-clause-lent c).In_ok-sound in
    let k = known s in
    rw (sound_is s) (k.store_long, k.tallies_long)

pub progress_after-requires : goal.progress_after-requires
progress_after-requires c =
    let s = (goal.at.progress_after-requires c).In_ok-sound in
    rw (sound_is s) (known s).left
