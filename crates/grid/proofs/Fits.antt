-- Every grid that fitting answers is sound and has no row done, exact or an overview.
use Rattle.std.proofs.Common.{◌≡◌, ℕ, zero, suc, ◌*◌, ◌/◌, ◌<◌, ◌≤◌, Bool, true, false, cond, ◌&&◌, leb, length, refl, sym, div-le_self, Option, Some, None, Ok, min, mul-one, div-one, div-mul-le_self, mul-le-mul_right, mul-le-mul_left, leb-true, leb-false, le-leb, arith}
use Rattle.std.proofs.Math.Bool.{false≢true}
use Rattle.std.proofs.Math.Nat.{mul-div-le}
use Rattle.limits.specs.Limits.{max_cells, size_sound, symbols_sound}
use Rattle.columns.specs.declared.Pair.{Pair}
use Rattle.columns.specs.Window.{span_of, cells_around, bins_over, sound_in}
use Rattle.columns.proofs.Soundness.{around_sound, over_sound}
use Rattle.grid.specs.declared.Grid.{Grid}
use Rattle.grid.specs.declared.overview.Overview.{Overview}
use Rattle.grid.specs.declared.fitting.Layout.{Layout}
use Rattle.grid.specs.Soundness.{no_rows, grid_sound}
use Rattle.grid.specs.Orders.{Exact, held_px, row_limit, exact_order_checks, overview_order_checks}
use Rattle.grid.specs.Fit.{visited, extent, pair_span, wanted, wanted_of, fits, largest, cells_for, given_layout, largest_layout, layout_for, layout_of, exact_grid, few_cells, exact_refusal, fit_exact, held_to, rows_for, overview_layout, overview_grid, overview_refusal, fit_overview}
use Rattle.grid.proofs.Accepted.{ExactFacts, OverviewFacts, exact-accepted, overview-accepted}
use Rattle.grid.proofs.Extents.{Within, visited-within, extent-within}
use Rattle.grid.proofs.Fittings.{was_fitted}
use Rattle.grid.proofs.Sizes.{some_cells, largest-within, largest_fails}
use Rattle.grid.proofs.Steps.{stride_least, rows_least, rows_within}

-- a grid is sound by its parts
sound_by : (g : Grid) → size_sound g.width g.height ≡ true → symbols_sound g.symbols ≡ true
    → 1 ≤ g.stride → 1 ≤ g.row_px → 1 ≤ g.rows → g.rows * g.row_px ≤ g.height → g.progress ≡ no_rows → sound_in g.width g.columns ≡ true
    → grid_sound g ≡ true
unfolding grid_sound
sound_by g size symbols stride row rows within done columns =
    rw (
      size,
      symbols,
      le-leb 1 g.stride stride,
      le-leb 1 g.row_px row,
      le-leb 1 g.rows rows,
      le-leb (g.rows * g.row_px) g.height within,
      done,
      le-leb 0 g.rows (omega arith),
    )
    columns

-- what a grid's soundness asks of its layout
record Laid (width height : ℕ) (l : Layout) : Type 0 where
  row_least : 1 ≤ l.row_px
  row_most : l.row_px ≤ height
  sound : sound_in width l.columns ≡ true

wanted-most : (halted : Bool) (count : ℕ) → wanted_of halted count ≤ count
wanted-most true count = omega arith
wanted-most false count = omega arith

second_fails : (a b : Bool) → a ≡ true → (a && b) ≡ false → b ≡ false
second_fails true b e f = f
second_fails false b e f = absurd (false≢true e)

module _ (o : Exact) (a : ExactFacts o) where
  -- cells of a size within the picture, around a pair within ±L
  cells_sound : (p : ℕ) (pair : Pair) → 1 ≤ p → p ≤ o.width → Within pair → sound_in o.width (cells_for o p pair) ≡ true
  cells_sound p pair one wide w = around_sound o.width p pair.low pair.high one wide a.sides.width_most w.0 w.1 w.2

  either_within : (rows : ℕ) → 1 ≤ rows → (b : Bool) → Within (cond b (extent o rows) (visited o rows))
  either_within rows some true = extent-within o a rows some
  either_within rows some false = visited-within o a rows some

  given_laid : (px : ℕ) → Laid o.width o.height (given_layout o (held_px o.width o.height px))
  given_laid px =
      let p = held_px o.width o.height px in
      let wide = a.sides.width_least in
      let high = a.sides.height_least in
      let one : 1 ≤ p = omega arith in
      let narrow : p ≤ o.width = omega arith in
      let low : p ≤ o.height = omega arith in
      let rows = o.height / p in
      record {
        row_least = one;
        row_most = low;
        sound = cells_sound p _ one narrow (either_within rows (some_cells o.height p one low) (leb (pair_span (extent o rows)) (o.width / p)));
      }

  -- where not even cells of one pixel fit, the extent is wider than the picture
  none_fits : length o.heads ≤ o.height → 0 ≡ largest (fits o) (min 8 o.height) → o.width < pair_span (extent o o.height)
  none_fits many e =
      let high = a.sides.height_least in
      let least : 1 ≤ min 8 o.height = omega arith in
      let want : wanted o ≤ o.height = omega (arith, wanted-most o.halted (length o.heads)) in
      let f = rw (div-one o.height, div-one o.width) at (largest_fails (fits o) (min 8 o.height) 1 (sym e) (omega arith) least) in
      leb-false (pair_span (extent o o.height)) o.width (second_fails (leb (wanted o) o.height) _ (le-leb (wanted o) o.height want) f)

  largest_laid : (p : ℕ) → p ≡ largest (fits o) (min 8 o.height) → length o.heads ≤ o.height → few_cells (largest_layout o p).columns ≡ true
      → Laid o.width o.height (largest_layout o p)
  largest_laid zero e many few =
      let w = extent-within o a o.height a.sides.height_least in
      record {
        row_least = omega arith;
        row_most = a.sides.height_least;
        sound =
            over_sound o.width (extent o o.height).low (extent o o.height).high (none_fits many e)
            (leb-true (pair_span (extent o o.height)) max_cells few) w.0 w.1 w.2;
      }
  largest_laid (suc p) e many few =
      let t = largest-within o (suc p) e (λ z. omega arith) in
      record {
        row_least = t.0;
        row_most = t.2;
        sound = cells_sound (suc p) _ t.0 t.1 (extent-within o a (o.height / suc p) (some_cells o.height (suc p) t.0 t.2));
      }

  laid_by : (size : Option ℕ) → length o.heads ≤ row_limit o.width o.height size → few_cells (layout_for o size).columns ≡ true
      → Laid o.width o.height (layout_for o size)
  laid_by (Some px) many few = given_laid px
  laid_by None many few = largest_laid (largest (fits o) (min 8 o.height)) refl many few

  exact_laid : few_cells (layout_of o).columns ≡ true → Laid o.width o.height (layout_of o)
  unfolding layout_of
  exact_laid few = laid_by o.size a.heads_most few

  exact-grid_sound : few_cells (layout_of o).columns ≡ true → grid_sound (exact_grid o) ≡ true
  exact-grid_sound few =
      let l = exact_laid few in
      let p = (layout_of o).row_px in
      let rows = min (length o.heads) (o.height / p) in
      let some = some_cells o.height p l.row_least l.row_most in
      let heads = a.heads_least in
      let m : rows ≤ o.height / p = omega arith in
      sound_by (exact_grid o) a.size a.symbols (omega arith) l.row_least (omega arith)
      (omega (arith, mul-le-mul_right p m, div-mul-le_self o.height p)) refl l.sound

pub exact_sound : (o : Exact) (g : Grid) → fit_exact o ≡ Ok g → (grid_sound g ≡ true) × (g.progress ≡ no_rows)
unfolding fit_exact exact_refusal
exact_sound o g e =
    let w = was_fitted (exact_order_checks o) (few_cells (layout_of o).columns) (exact_grid o) g e in
    (rw (← w.2) (exact-grid_sound o (exact-accepted o w.0) w.1), rw (← w.2))

pub exact-grid : (o : Exact) (g : Grid) → fit_exact o ≡ Ok g → exact_grid o ≡ g
unfolding fit_exact exact_refusal
exact-grid o g e = (was_fitted (exact_order_checks o) (few_cells (layout_of o).columns) (exact_grid o) g e).2

-- an overview's layout, by whether its extent is not wider than the picture
abbrev overview_by : Overview → Bool → Layout
overview_by o narrow =
    let px = held_to 1 8 (o.width / span_of o.extent.low o.extent.high) in
    cond narrow
    (record { columns = cells_around o.width px o.extent.low o.extent.high; row_px = held_to 1 px (o.height / rows_for o.height o.total) })
    (record { columns = bins_over o.width o.extent.low o.extent.high; row_px = 1 })

-- the pixels of a cell: at least 1 and no more than the width
px_within : (o : Overview) (used px : ℕ) → 1 ≤ o.width → px ≡ held_to 1 8 (o.width / used) → (1 ≤ px) × (px ≤ o.width)
px_within o used px one p = (omega arith, omega (arith, div-le_self o.width used))

module _ (o : Overview) (a : OverviewFacts o) where
  -- a row's height times the rows stays within the height
  held_rows : (px rows : ℕ) → 1 ≤ rows → rows ≤ o.height → rows * held_to 1 px (o.height / rows) ≤ o.height
  held_rows px rows one most =
      let some = some_cells o.height rows one most in
      let m : held_to 1 px (o.height / rows) ≤ o.height / rows = omega arith in
      omega (arith, mul-le-mul_left rows m, mul-div-le o.height rows)

  by_span : (b : Bool) → leb (span_of o.extent.low o.extent.high) o.width ≡ b → few_cells (overview_by o b).columns ≡ true
      → (1 ≤ (overview_by o b).row_px)
      × (rows_for o.height o.total * (overview_by o b).row_px ≤ o.height)
      × (sound_in o.width (overview_by o b).columns ≡ true)
  by_span true e few =
      let px = held_to 1 8 (o.width / span_of o.extent.low o.extent.high) in
      let p = px_within o (span_of o.extent.low o.extent.high) px a.sides.width_least refl in (
        omega arith,
        held_rows px (rows_for o.height o.total) (rows_least o.height o.total) (rows_within o.height o.total a.sides.height_least),
        around_sound o.width px o.extent.low o.extent.high p.0 p.1 a.sides.width_most a.low_least a.ordered a.high_most,
      )
  by_span false e few = (
    omega arith,
    rw mul-one (rows_within o.height o.total a.sides.height_least),
    over_sound o.width o.extent.low o.extent.high (leb-false _ _ e) (leb-true _ _ few) a.low_least a.ordered a.high_most,
  )

  overview-grid_sound : few_cells (overview_layout o).columns ≡ true → grid_sound (overview_grid o) ≡ true
  overview-grid_sound few =
      let l = by_span (leb (span_of o.extent.low o.extent.high) o.width) refl few in
      sound_by (overview_grid o) a.size a.symbols (stride_least o.height o.total) l.0 (rows_least o.height o.total) l.1 refl l.2

pub overview_sound : (o : Overview) (g : Grid) → fit_overview o ≡ Ok g → (grid_sound g ≡ true) × (g.progress ≡ no_rows)
unfolding fit_overview overview_refusal
overview_sound o g e =
    let w = was_fitted (overview_order_checks o) (few_cells (overview_layout o).columns) (overview_grid o) g e in
    (rw (← w.2) (overview-grid_sound o (overview-accepted o w.0) w.1), rw (← w.2))

pub overview-grid : (o : Overview) (g : Grid) → fit_overview o ≡ Ok g → overview_grid o ≡ g
unfolding fit_overview overview_refusal
overview-grid o g e = (was_fitted (overview_order_checks o) (few_cells (overview_layout o).columns) (overview_grid o) g e).2
