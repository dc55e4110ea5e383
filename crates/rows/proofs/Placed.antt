-- Where a row's lines and symbols stand in the index and the store, and what lending those parts makes of the whole.
use Rattle.std.proofs.Common.{Option, Some, None, ℕ, ◌+◌, ◌-◌, ◌*◌, ◌≤◌, ◌<◌, ◌≡◌, sym, ap, ◌∙◌, List, ◌++◌, append-nil, arith, suc-mul, add-mul, mul_comm, mul-le-mul_right, mul-le-mul, le_trans, length, take, drop, length-drop, drop_of_length-le, take_all, drop-drop, length-take-le}
use borrow.Rule.Slice.PartMut.{put_mid}
use Rattle.slices.proofs.Tabulated.{length-tabulate}
use Rattle.tape.specs.Tape.{Tape}
use Rattle.columns.specs.declared.Pair.{Pair}
use Rattle.grid.specs.declared.Grid.{Grid}
use Rattle.grid.specs.Memory.{stored_cells}
use Rattle.line.specs.Altered.{repeated, overwritten}
use Rattle.line.specs.Line.{row_symbols, line_of}
use Rattle.rows.specs.RowCall.{drawn_index, drawn_store}
use Rattle.grid.proofs.Sound.{Sound, lines_within, rows_most, stored_most}
use Rattle.rows.proofs.Bands.{length-repeated}

-- part k of n parts of a size
pub part_within : (k n size : ℕ) → k < n → k * size + size ≤ n * size
part_within k n size h = rw suc-mul at (mul-le-mul_right size h)

module _ (g : Grid) (s : Sound g) (h : g.progress.done < g.rows) where
  pub lines_fit : g.progress.done * g.row_px * g.width + g.row_px * g.width ≤ g.width * g.height
  lines_fit =
      let m : g.progress.done * g.row_px + g.row_px ≤ g.height = le_trans (part_within g.progress.done g.rows g.row_px h) s.rows_within in
      rw (← add-mul (g.progress.done * g.row_px) g.row_px g.width, mul_comm g.width g.height) (mul-le-mul_right g.width m)

  pub place_most : g.progress.done * g.row_px ≤ 4096
  place_most = omega (arith, lines_within g s g.progress.done h)

  pub symbols-fit : (n : ℕ) → n ≡ stored_cells g.columns → (g.progress.done * n + n ≤ g.rows * n) × (g.rows * n ≤ 4096 * 4096)
  symbols-fit n e =
      let few : n ≤ 4096 = rw e (stored_most g.columns s.usable) in
      (part_within g.progress.done g.rows n h, mul-le-mul (rows_most g s) few)

  pub index-most : g.width * g.height ≤ 4096 * 4096
  index-most = mul-le-mul s.width_most s.height_most

-- how long the lent parts are
pub rest_length : (at : ℕ) (xs : List ℕ) → length (take (length xs - at) (drop at xs)) ≡ length xs - at
rest_length at xs =
    let past : length (drop at xs) ≤ length xs - at = rw length-drop (omega arith) in
    rw (take_all (length xs - at) (drop at xs) past, length-drop)

pub part_length : (at n : ℕ) (xs : List ℕ) → at + n ≤ length xs → length (take (at + n - at) (drop at xs)) ≡ n
part_length at n xs h =
    let size : at + n - at ≡ n = omega arith in
    rw size (length-take-le n (drop at xs) (rw length-drop (omega arith)))

-- the part from `at` on was lent, and came back with the lines in front
pub lines_placed : (at h : ℕ) (line xs band : List ℕ) (w : ℕ) → length line ≡ w
    → band ≡ repeated h line ++ drop (h * w) (take (length xs - at) (drop at xs))
    → put_mid at (length xs - at) xs band ≡ overwritten at (repeated h line) xs
unfolding overwritten
lines_placed at h line xs band w long is =
    let past : length (drop at xs) ≤ length xs - at = rw length-drop (omega arith) in
    let size : length (repeated h line) ≡ h * w = length-repeated h line ∙ rw long in
    rw (drop_of_length-le (drop at xs) past, append-nil, is, take_all (length xs - at) (drop at xs) past, drop-drop, size)

-- a part of n elements from `at` on was lent, and came back as others
pub part_placed : (at n to : ℕ) (new xs : List ℕ) → length new ≡ n → to ≡ at + n → put_mid at (to - at) xs new ≡ overwritten at new xs
unfolding overwritten
part_placed at n to new xs long end =
    let size : to - at ≡ length new = omega arith in
    rw (size, drop-drop)

pub index_drawn : (g : Grid) (t : Tape) (swept : Option Pair) (xs band : List ℕ)
    → band ≡ repeated g.row_px (line_of g t swept) ++ drop (g.row_px * g.width) (take (length xs - g.progress.done * g.row_px * g.width) (drop (g.progress.done * g.row_px * g.width) xs))
    → put_mid (g.progress.done * g.row_px * g.width) (length xs - g.progress.done * g.row_px * g.width) xs band ≡ drawn_index g t swept xs
unfolding drawn_index line_of
index_drawn g t swept xs band is =
    lines_placed (g.progress.done * g.row_px * g.width) g.row_px (line_of g t swept) xs band g.width (length-tabulate _ g.width) is

pub store_drawn : (g : Grid) (t : Tape) (n : ℕ) (xs new : List ℕ) → n ≡ stored_cells g.columns → new ≡ row_symbols g.columns t
    → put_mid (g.progress.done * n) (g.progress.done * n + n - g.progress.done * n) xs new ≡ drawn_store g t xs
unfolding drawn_store
store_drawn g t n xs new e is =
    let long : length new ≡ n = ap length is ∙ length-tabulate _ (stored_cells g.columns) ∙ sym e in
    part_placed (g.progress.done * n) n (g.progress.done * n + n) new xs long (omega arith) ∙ rw (e, is)
