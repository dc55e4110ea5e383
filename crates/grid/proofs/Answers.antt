-- What is known of an answer by its case: the window's ends are 64-bit positions.
use Rattle.std.proofs.Common.{◌≡◌, ◌+◌, ◌-◌, ◌^◌, ◌<◌, Ok, [], ◌∷◌, arith}
use lib.Signed.{mag}
use Rattle.refusal.specs.declared.Refusal.TheVariants.{Record}
use Rattle.refusal.proofs.Kept.{accepted}
use Rattle.refusal.proofs.Passed.{passed}
use Rattle.position.proofs.Laws.{position_fits}
use Rattle.columns.specs.Window.{first_of, cells_in}
use Rattle.columns.proofs.Soundness.{usable_window}
use Rattle.grid.specs.declared.Grid.{Grid}
use Rattle.grid.specs.declared.asking.Ends.{Ends}
use Rattle.grid.specs.Soundness.{grid_sound}
use Rattle.grid.specs.Asking.{range_call}
use Rattle.grid.proofs.Sound.{sound_facts}

-- the window's ends, where they are answered
pub ends_fit : (g : Grid) (ends : Ends) → range_call g ≡ Ok ends → (mag ends.low < 2 ^ 63) × (mag ends.high < 2 ^ 63)
unfolding range_call
ends_fit g ends e =
    let a = accepted _ _ e in
    let u = usable_window g.columns (sound_facts g (passed ((grid_sound g, Record) ∷ []) a.0).0).usable in (
      rw a.1 (position_fits (first_of g.columns) (omega arith)),
      rw a.1 (position_fits (first_of g.columns + (cells_in g.columns - 1)) (omega arith)),
    )
