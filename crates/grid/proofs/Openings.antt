-- What is known of an opening that is not refused.
use Rattle.std.proofs.Common.{◌≡◌, ◌*◌, Ok, None, length, replicate, eqb-true}
use Rattle.refusal.proofs.Kept.{accepted}
use Rattle.refusal.proofs.Passed.{passed}
use Rattle.grid.specs.declared.Grid.{Grid}
use Rattle.grid.specs.Memory.{stored_cells}
use Rattle.grid.specs.Opening.{open_checks, open_refusal, restarted, open_input_refusal, OpenInput, open_call}

module _ (i : OpenInput) (start : Grid) (is : (open_call i).answer ≡ Ok start) where
  was_opened : (open_input_refusal i ≡ None) × (start ≡ restarted i.grid)
  unfolding open_call
  was_opened = accepted _ _ is

  pub open_grid_lem : start ≡ restarted i.grid
  open_grid_lem = was_opened.1

  pub open_index : (open_call i).index ≡ replicate (length i.index) 0
  unfolding open_call
  open_index = rw was_opened.0

  pub open_store : (open_call i).store ≡ replicate (length i.store) 0
  unfolding open_call
  open_store = rw was_opened.0

  pub open_lengths : (length i.index ≡ i.grid.width * i.grid.height) × (length i.store ≡ i.grid.rows * stored_cells i.grid.columns)
  unfolding open_refusal
  open_lengths =
      let t = passed (open_checks i.grid (length i.index) (length i.store)) was_opened.0 in
      (eqb-true _ _ t.1.0, eqb-true _ _ t.1.1.0)
