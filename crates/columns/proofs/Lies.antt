-- A cell of the window lies on a pixel: the one relation behind locating, the head, a swept pair and every cell's pixel.
use Rattle.std.proofs.Common.{Some, ℕ, ◌+◌, ◌-◌, ◌*◌, ◌/◌, ◌≤◌, ◌<◌, ◌≡◌, true, arith, mul_comm, le_refl, mul-le-mul_right, lt_of_mul-lt-mul_right, div-mul-le_self, div-lt_iff_lt-mul, le-div_iff_mul-le}
use Rattle.std.proofs.Math.Decide.{dec_le}
use Rattle.std.proofs.Math.Nat.{lt-div-mul-add}
use Rattle.columns.specs.declared.Columns.{Columns}
use Rattle.columns.specs.declared.Columns.TheVariants.{Cells, Bins}
use Rattle.columns.specs.declared.Pair.{Pair}
use Rattle.columns.specs.Window.{first_of, cells_in}
use Rattle.columns.specs.Inner.Usable.{Usable}
use Rattle.columns.specs.Found.{pair, among}
use Rattle.columns.specs.Pixels.{bin_from, bin_to, end_pixel, cells_of, located, head_bin, head_on}
use Rattle.columns.specs.Inner.Swept.{touched}
use Rattle.columns.proofs.Overlap.{next_block, blocks-apart}
use Rattle.columns.proofs.Tested.{among_facts, facts_among, among_else, else_among, beside_facts, facts_beside}
use Rattle.columns.proofs.Located.{from_before, before_from, to_after, after_to, to_below, from_to, middle_lies}
use Rattle.columns.proofs.CellPixels.{on_cell, cell_on, cell_below, cell_fits}

-- cell k of the window lies on pixel x, at least in part
abbrev pub Lies : Columns → ℕ → ℕ → Type 0
Lies (Cells first count px x0) k x = (x0 + k * px ≤ x) × (x < x0 + k * px + px)
Lies (Bins first cells width) k x = (x < width) × (x * cells < k * width + width) × (k * width < x * cells + cells)

pub lies_right : (columns : Columns) (k x : ℕ) → Usable columns → k < cells_in columns → Lies columns k x → x < end_pixel columns
lies_right (Cells first count px x0) k x u h on = omega (arith, cell_fits count px x0 k h)
lies_right (Bins first cells width) k x u h on = on.0

pub lies_located : (columns : Columns) (k x : ℕ) → Usable columns → k < cells_in columns → Lies columns k x → among (located columns x) (first_of columns + k) ≡ true
lies_located (Cells first count px x0) k x u h on =
    let left : x0 ≤ x = omega arith in
    let right : x < x0 + count * px = lies_right (Cells first count px x0) k x u h on in
    let e : (x - x0) / px ≡ k = cell_on px x0 x u.0 left k on.0 on.1 in
    else_among _ (Some (cells_of (Cells first count px x0) x)) (first + k) (facts_beside (Cells first count px x0) x left right)
    (rw e (facts_among (first + k) (first + k) (first + k) (omega arith) (omega arith)))
lies_located (Bins first cells width) k x u h on =
    let some : 0 < cells = omega arith in
    let from : bin_from width cells x ≤ k = before_from width cells u.0 some k x on.1 in
    let to : k ≤ bin_to width cells x = after_to width cells u.0 some k x on.2 in
    else_among _ (Some (cells_of (Bins first cells width) x)) (first + k) (facts_beside (Bins first cells width) x (omega arith) on.0)
    (facts_among (first + bin_from width cells x) (first + bin_to width cells x) (first + k) (omega arith) (omega arith))

-- each number among those that a pixel locates to is the position of a cell that lies on it
pub located_lies : (columns : Columns) (x p : ℕ) → Usable columns → among (located columns x) p ≡ true → (k : ℕ) × (p ≡ first_of columns + k) × (k < cells_in columns) × Lies columns k x
located_lies (Cells first count px x0) x p u e =
    let found = among_else _ (Some (cells_of (Cells first count px x0) x)) p e in
    let on = beside_facts (Cells first count px x0) x found.0 in
    let at = among_facts (first + (x - x0) / px) (first + (x - x0) / px) p found.1 in
    ((x - x0) / px, omega arith, cell_below count px x0 x u.0 on.0 on.1, on_cell px x0 x u.0 on.0)
located_lies (Bins first cells width) x p u e =
    let some : 0 < cells = omega arith in
    let found = among_else _ (Some (cells_of (Bins first cells width) x)) p e in
    let on = beside_facts (Bins first cells width) x found.0 in
    let at = among_facts (first + bin_from width cells x) (first + bin_to width cells x) p found.1 in
    let from : bin_from width cells x ≤ p - first = omega arith in
    let to : p - first ≤ bin_to width cells x = omega arith in (
      p - first,
      omega arith,
      omega (arith, to_below width cells u.0 some x on.1),
      (on.1, from_before width cells u.0 some (p - first) x from, to_after width cells u.0 some (p - first) x to),
    )

pub head_lies : (columns : Columns) (k x : ℕ) → Usable columns → k < cells_in columns → among (Some (head_on columns k)) x ≡ true → Lies columns k x
head_lies (Cells first count px x0) k x u h e = let on = among_facts (x0 + k * px) (x0 + k * px + (px - 1)) x e in (on.0, omega (arith, u.0))
head_lies (Bins first cells width) k x u h e =
    let at = among_facts (head_bin width cells k) (head_bin width cells k) x e in
    let is : x ≡ head_bin width cells k = omega arith in
    rw is (middle_lies width cells k u.0 h)

pub touched_lies : (columns : Columns) (lo hi x : ℕ) → Usable columns → lo ≤ hi → hi < cells_in columns → among (Some (touched columns (pair lo hi))) x ≡ true → (k : ℕ) × (lo ≤ k) × (k ≤ hi) × Lies columns k x
touched_lies (Cells first count px x0) lo hi x u o h e =
    let at = among_facts (x0 + lo * px) (x0 + hi * px + (px - 1)) x e in
    let low : lo * px ≤ x - x0 = omega arith in
    let high : x - x0 < (hi + 1) * px = omega (arith, next_block hi px, u.0) in
    let below : (x - x0) / px < hi + 1 = (div-lt_iff_lt-mul u.0).1 high in
    ((x - x0) / px, (le-div_iff_mul-le u.0).1 low, omega arith, on_cell px x0 x u.0 (omega arith))
touched_lies (Bins first cells width) lo hi x u o h e =
    let some : 0 < cells = omega arith in
    let at = among_facts (lo * width / cells) ((hi * width + (width - 1)) / cells) x e in
    let below : lo * width / cells < x + 1 = omega arith in
    let low : lo * width < x * cells + cells = rw (next_block x cells) at ((div-lt_iff_lt-mul some).0 below) in
    let high : x * cells < hi * width + width = omega (arith, (le-div_iff_mul-le some).0 at.1, u.0) in
    let inside : x * cells < width * cells = omega (arith, blocks-apart hi cells width h, mul_comm width cells) in
    let on : x < width = lt_of_mul-lt-mul_right cells inside in
    by (dec_le lo (bin_from width cells x)) some low high on
  where
    by : Dec (lo ≤ bin_from width cells x) → 0 < cells → lo * width < x * cells + cells → x * cells < hi * width + width → x < width
        → (k : ℕ) × (lo ≤ k) × (k ≤ hi) × Lies (Bins first cells width) k x
    by (yes l) some low high on = (
      bin_from width cells x,
      l,
      before_from width cells u.0 some hi x high,
      (on, from_before width cells u.0 some (bin_from width cells x) x (le_refl _), omega (arith, div-mul-le_self (x * cells) width)),
    )
    by (no l) some low high on = (lo, le_refl lo, o, (on, from_before width cells u.0 some lo x (omega arith), low))

pub lies_touched : (columns : Columns) (lo hi k x : ℕ) → Usable columns → lo ≤ k → k ≤ hi → hi < cells_in columns → Lies columns k x → among (Some (touched columns (pair lo hi))) x ≡ true
lies_touched (Cells first count px x0) lo hi k x u l m h on =
    facts_among (x0 + lo * px) (x0 + hi * px + (px - 1)) x (omega (arith, mul-le-mul_right px l)) (omega (arith, mul-le-mul_right px m, on.1))
lies_touched (Bins first cells width) lo hi k x u l m h on =
    let some : 0 < cells = omega arith in
    let low : lo * width < (x + 1) * cells = omega (arith, next_block x cells, mul-le-mul_right width l, on.2) in
    let high : x * cells ≤ hi * width + (width - 1) = omega (arith, mul-le-mul_right width m, on.1) in
    let from : lo * width / cells < x + 1 = (div-lt_iff_lt-mul some).1 low in
    facts_among (lo * width / cells) ((hi * width + (width - 1)) / cells) x (omega arith) ((le-div_iff_mul-le some).1 high)

-- each cell of the window lies on a pixel
pub some_pixel : (columns : Columns) (k : ℕ) → Usable columns → k < cells_in columns → (x : ℕ) × Lies columns k x
some_pixel (Cells first count px x0) k u h = (x0 + k * px, (omega arith, omega (arith, u.0)))
some_pixel (Bins first cells width) k u h =
    let some : 0 < cells = omega arith in
    let v = k * width / cells in
    let low : v * cells ≤ k * width = div-mul-le_self (k * width) cells in
    let high : k * width < v * cells + cells = lt-div-mul-add some in
    let inside : v * cells < width * cells = omega (arith, blocks-apart k cells width h, mul_comm width cells, u.0) in
    (v, (lt_of_mul-lt-mul_right cells inside, omega (arith, u.0), high))

-- the pixels found for the head, for cells of the window and for a pixel's cells are in order
pub head_order : (columns : Columns) (k : ℕ) → (head_on columns k).low ≤ (head_on columns k).high
head_order (Cells first count px x0) k = omega arith
head_order (Bins first cells width) k = omega arith

pub touched_order : (columns : Columns) (p : Pair) → Usable columns → p.low ≤ p.high → (touched columns p).low ≤ (touched columns p).high
touched_order (Cells first count px x0) p u o = omega (arith, mul-le-mul_right px o)
touched_order (Bins first cells width) p u o =
    let some : 0 < cells = omega arith in
    (le-div_iff_mul-le some).1 (omega (arith, div-mul-le_self (p.low * width) cells, mul-le-mul_right width o))

pub cells_order : (columns : Columns) (x : ℕ) → Usable columns → (cells_of columns x).low ≤ (cells_of columns x).high
cells_order (Cells first count px x0) x u = omega arith
cells_order (Bins first cells width) x u = omega (arith, from_to width cells u.0 (omega arith) x)
