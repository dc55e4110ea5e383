-- In cells of px pixels from x0 on: the cell of a pixel is one of the window's, and its pixels hold that pixel.
use Rattle.std.proofs.Common.{ℕ, ◌+◌, ◌-◌, ◌*◌, ◌/◌, ◌≤◌, ◌<◌, ◌≡◌, arith, div-mul-le_self, div-lt_iff_lt-mul}
use Rattle.std.proofs.Math.Nat.{lt-div-mul-add, div-eq_of_lt-le}
use Rattle.columns.proofs.Overlap.{next_block, blocks-apart}

-- the cell of a pixel
module _ (px x0 x : ℕ) (one : 0 < px) (l : x0 ≤ x) where
  pub on_cell : (x0 + (x - x0) / px * px ≤ x) × (x < x0 + (x - x0) / px * px + px)
  on_cell = (omega (arith, div-mul-le_self (x - x0) px), omega (arith, lt-div-mul-add {a = x - x0} one))

  pub cell_on : (k : ℕ) → x0 + k * px ≤ x → x < x0 + k * px + px → (x - x0) / px ≡ k
  cell_on k a b = div-eq_of_lt-le px (omega arith) (rw (next_block k px) (omega arith))

-- a pixel left of the right margin lies in a cell
pub cell_below : (count px x0 x : ℕ) → 0 < px → x0 ≤ x → x < x0 + count * px → (x - x0) / px < count
cell_below count px x0 x one l h = let m : x - x0 < count * px = omega arith in (div-lt_iff_lt-mul one).1 m

-- a cell's last pixel is left of the right margin
pub cell_fits : (count px x0 k : ℕ) → k < count → x0 + k * px + px ≤ x0 + count * px
cell_fits count px x0 k h = omega (arith, blocks-apart k count px h)
