-- The facts that a sound grid gives.
use Rattle.std.proofs.Common.{◌≡◌, ℕ, ◌+◌, ◌*◌, ◌<◌, ◌≤◌, Bool, true, ◌&&◌, leb, suc-mul, one-mul, mul-one, mul-le-mul, mul-le-mul_left, mul-le-mul_right, leb-true, le-leb, arith}
use Rattle.std.proofs.Math.Bool.{and-eq-true_iff}
use Rattle.limits.specs.Limits.{max_side, max_symbols, size_sound, symbols_sound}
use Rattle.limits.proofs.Facts.{within_facts, size_facts}
use Rattle.columns.specs.declared.Columns.{Columns}
use Rattle.columns.specs.declared.Columns.TheVariants.{Cells, Bins}
use Rattle.columns.specs.Window.{sound_in}
use Rattle.columns.specs.Inner.Usable.{Usable}
use Rattle.columns.proofs.Soundness.{sound_usable}
use Rattle.grid.specs.declared.Grid.{Grid}
use Rattle.grid.specs.declared.Progress.{Progress}
use Rattle.grid.specs.Memory.{stored_cells}
use Rattle.grid.specs.Soundness.{most_on_tape, progress_sound, rows_sound, grid_sound, with_progress}

pub record Sound (g : Grid) : Type 0 where
  pub width_least : 1 ≤ g.width
  pub width_most : g.width ≤ max_side
  pub height_least : 1 ≤ g.height
  pub height_most : g.height ≤ max_side
  pub symbols_least : 1 ≤ g.symbols
  pub symbols_most : g.symbols ≤ max_symbols
  pub stride_least : 1 ≤ g.stride
  pub row_least : 1 ≤ g.row_px
  pub rows_least : 1 ≤ g.rows
  pub rows_within : g.rows * g.row_px ≤ g.height
  pub done_most : g.progress.done ≤ g.rows
  pub usable : Usable g.columns

both : (a b : Bool) → (a && b) ≡ true → (a ≡ true) × (b ≡ true)
both a b = (and-eq-true_iff a b).0

-- the tests of a sound grid
record Tests (g : Grid) : Type 0 where
  size : size_sound g.width g.height ≡ true
  symbols : symbols_sound g.symbols ≡ true
  rows : rows_sound g ≡ true
  columns : sound_in g.width g.columns ≡ true

tests : (g : Grid) → grid_sound g ≡ true → Tests g
unfolding grid_sound
tests g e =
    let s = both (size_sound g.width g.height) _ e in
    let a = both (symbols_sound g.symbols) _ s.1 in
    let r = both (rows_sound g) _ a.1 in
    record { size = s.0; symbols = a.0; rows = r.0; columns = r.1 }

pub sound_facts : (g : Grid) → grid_sound g ≡ true → Sound g
sound_facts g e =
    let t = tests g e in
    let size = size_facts g.width g.height t.size in
    let symbols = within_facts 1 max_symbols g.symbols t.symbols in
    let rows = both (leb 1 g.stride && leb 1 g.rows) _ t.rows in
    let some = both (leb 1 g.stride) _ rows.0 in
    let lines = both (leb 1 g.row_px && leb (g.rows * g.row_px) g.height) _ rows.1 in
    let high = both (leb 1 g.row_px) _ lines.0 in
    record {
      width_least = size.0;
      width_most = size.1;
      height_least = size.2;
      height_most = size.3;
      symbols_least = symbols.0;
      symbols_most = symbols.1;
      stride_least = leb-true 1 g.stride some.0;
      row_least = leb-true 1 g.row_px high.0;
      rows_least = leb-true 1 g.rows some.1;
      rows_within = leb-true (g.rows * g.row_px) g.height high.1;
      done_most = leb-true g.progress.done g.rows (both (leb g.progress.done g.rows) _ lines.1).0;
      usable = sound_usable g.width g.columns size.0 size.1 t.columns;
    }

pub sound_columns : (g : Grid) → grid_sound g ≡ true → sound_in g.width g.columns ≡ true
sound_columns g e = (tests g e).columns

-- a progress is sound by its parts
pub progress_by : (p : Progress) (rows : ℕ) → p.done ≤ rows → p.left ≤ most_on_tape → p.right ≤ most_on_tape → progress_sound p rows ≡ true
progress_by p rows done left right = rw (le-leb p.done rows done, le-leb p.left most_on_tape left, le-leb p.right most_on_tape right)

-- a sound grid stays sound with another progress
pub sound_with : (g : Grid) (progress : Progress) → grid_sound g ≡ true → progress_sound progress g.rows ≡ true → grid_sound (with_progress g progress) ≡ true
unfolding grid_sound
sound_with g progress e h =
    let t = tests g e in
    let r = both (leb 1 g.stride && leb 1 g.rows) _ t.rows in
    let l = both (leb 1 g.row_px && leb (g.rows * g.row_px) g.height) _ r.1 in
    rw (t.size, t.symbols, r.0, l.0, h) t.columns

-- a row has at least one line
pub line_within : (g : Grid) → Sound g → (n : ℕ) → g.row_px * g.width ≤ n → g.width ≤ n
line_within g s n h =
    let m : 1 * g.width ≤ g.row_px * g.width = mul-le-mul_right g.width s.row_least in
    omega (arith, one-mul g.width)

-- the lines of a row are within the picture
pub lines_within : (g : Grid) → Sound g → (k : ℕ) → k < g.rows → k * g.row_px + g.row_px ≤ max_side
lines_within g s k h =
    let m : k * g.row_px + g.row_px ≤ g.rows * g.row_px = rw suc-mul at (mul-le-mul_right g.row_px h) in
    omega (arith, s.rows_within, s.height_most)

pub rows_most : (g : Grid) → Sound g → g.rows ≤ max_side
rows_most g s =
    let m : g.rows * 1 ≤ g.rows * g.row_px = mul-le-mul_left g.rows s.row_least in
    omega (arith, mul-one g.rows, s.rows_within, s.height_most)

pub stored_most : (columns : Columns) → Usable columns → stored_cells columns ≤ max_side
stored_most (Cells first count px x0) u =
    let m : count * 1 ≤ count * px = mul-le-mul_left count u.0 in
    omega (arith, mul-one count, u.2)
stored_most (Bins first cells width) u = omega arith

-- what a sound grid's products are at most
pub pixels_most : (g : Grid) → grid_sound g ≡ true → g.width * g.height ≤ max_side * max_side
pixels_most g e = let s = sound_facts g e in mul-le-mul s.width_most s.height_most

pub stored_in_all : (g : Grid) → grid_sound g ≡ true → g.rows * stored_cells g.columns ≤ max_side * max_side
stored_in_all g e = let s = sound_facts g e in mul-le-mul (rows_most g s) (stored_most g.columns s.usable)

pub lines_most : (g : Grid) (k : ℕ) → grid_sound g ≡ true → k < g.rows → k * g.row_px + g.row_px ≤ max_side
lines_most g k e h = lines_within g (sound_facts g e) k h
