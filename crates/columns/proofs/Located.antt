-- The first and the last cell that a pixel of w bins over c cells locates to, by the borders of cell and bin; they lie in the window. The bin of a head.
use Rattle.std.proofs.Common.{ℕ, ◌+◌, ◌-◌, ◌*◌, ◌/◌, ◌≤◌, ◌<◌, ◌≡◌, arith, one-mul, add-mul, mul_assoc, mul_comm, mul_left_comm, lt_of_mul-lt-mul_right, div-mul-le_self, div-lt_iff_lt-mul, le-div_iff_mul-le}
use Rattle.std.proofs.Math.Decide.{dec_lt}
use Rattle.std.proofs.Math.Nat.{lt-div-mul-add}
use Rattle.columns.specs.Pixels.{up_div, bin_from, bin_to, head_bin}
use Rattle.columns.proofs.Overlap.{next_block, blocks-apart}

module _ (w c : ℕ) (wide : 0 < w) (some : 0 < c) where
  pub from_before : (k v : ℕ) → bin_from w c v ≤ k → v * c < k * w + w
  from_before k v h = let l : v * c / w < k + 1 = omega arith in rw (next_block k w) at ((div-lt_iff_lt-mul wide).0 l)

  pub before_from : (k v : ℕ) → v * c < k * w + w → bin_from w c v ≤ k
  before_from k v h =
      let m : v * c < (k + 1) * w = rw (next_block k w) h in
      let l : v * c / w < k + 1 = (div-lt_iff_lt-mul wide).1 m in
      omega arith

  -- a pixel locates to a cell
  pub some_cell : (v : ℕ) → 1 ≤ up_div (v * c + c) w
  some_cell v = (le-div_iff_mul-le wide).1 (rw one-mul (omega arith))

  pub to_after : (k v : ℕ) → k ≤ bin_to w c v → k * w < v * c + c
  to_after k v h =
      let l : k + 1 ≤ up_div (v * c + c) w = omega (arith, some_cell v) in
      omega (arith, (le-div_iff_mul-le wide).0 l, next_block k w)

  pub after_to : (k v : ℕ) → k * w < v * c + c → k ≤ bin_to w c v
  after_to k v h =
      let m : (k + 1) * w ≤ v * c + c + (w - 1) = omega (arith, next_block k w) in
      let l : k + 1 ≤ up_div (v * c + c) w = (le-div_iff_mul-le wide).1 m in
      omega arith

  -- the last cell of a pixel is one of the window's
  pub to_below : (v : ℕ) → v < w → bin_to w c v < c
  to_below v h = by (dec_lt (bin_to w c v) c)
    where
      by : Dec (bin_to w c v < c) → bin_to w c v < c
      by (yes l) = l
      by (no l) = absurd (omega (arith, to_after c v (omega arith), blocks-apart v w c h, mul_comm c w))

  pub from_to : (v : ℕ) → bin_from w c v ≤ bin_to w c v
  from_to v = after_to (bin_from w c v) v (omega (arith, div-mul-le_self (v * c) w))

-- the bin that holds a cell's middle is one that the cell overlaps
pub middle_lies : (w c k : ℕ) → 0 < w → k < c → let v = head_bin w c k in (v < w) × (v * c < k * w + w) × (k * w < v * c + c)
middle_lies w c k wide h =
    let v = head_bin w c k in
    let middle : (2 * k + 1) * w ≡ 2 * (k * w) + w = rw (add-mul, mul_assoc, one-mul) in
    let border : v * (2 * c) ≡ 2 * (v * c) = mul_left_comm v 2 c in
    let floor : v * (2 * c) ≤ (2 * k + 1) * w = div-mul-le_self ((2 * k + 1) * w) (2 * c) in
    let roof : (2 * k + 1) * w < v * (2 * c) + 2 * c = lt-div-mul-add (omega arith) in
    let inside : v * c < w * c = omega (arith, blocks-apart k c w h, mul_comm w c) in
    (lt_of_mul-lt-mul_right c inside, omega arith, omega arith)
