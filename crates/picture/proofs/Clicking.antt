-- What an accepted click gives: a sound grid, and a stored symbol for each cell of a row.
use Rattle.std.proofs.Common.{◌≡◌, ℕ, ◌+◌, ◌*◌, ◌<◌, ◌≤◌, true, None, arith, suc-mul, mul-le-mul_right, eqb-true}
use Rattle.refusal.proofs.Passed.{passed}
use Rattle.grid.specs.declared.Grid.{Grid}
use Rattle.grid.specs.Soundness.{grid_sound}
use Rattle.grid.specs.Memory.{stored_cells}
use Rattle.picture.specs.Clicks.{locate_checks, locate_refusal}

pub accepted : (g : Grid) (store : ℕ) → locate_refusal g store ≡ None → (grid_sound g ≡ true) × (store ≡ g.rows * stored_cells g.columns)
unfolding locate_refusal
accepted g store e = let p = passed (locate_checks g store) e in (p.0, eqb-true _ _ p.1.0)

-- the place of cell k of a row is within the store
pub place_within : (row rows count k : ℕ) → row < rows → k < count → row * count + k < rows * count
place_within row rows count k h l =
    let m : row * count + count ≤ rows * count = rw suc-mul at (mul-le-mul_right count h) in
    omega arith
