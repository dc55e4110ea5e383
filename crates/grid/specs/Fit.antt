-- Fitting a picture to an order (RULES, Fit).
use Rattle.std.specs.Prelude.{ℕ, zero, suc, ◌+◌, ◌-◌, ◌/◌, ◌^◌, min, max, Bool, true, false, ◌&&◌, cond, List, [], ◌∷◌, ◌++◌, leb, eqb, length, take, Option, Some, None, Result}
use Rattle.limits.specs.Limits.{max_cells}
use Rattle.refusal.specs.declared.Refusal.{Refusal}
use Rattle.refusal.specs.declared.Refusal.TheVariants as refusal
use Rattle.refusal.specs.Checks.{first_failed, answer_by, said}
use Rattle.columns.specs.declared.Pair.{Pair}
use Rattle.columns.specs.declared.Columns.{Columns}
use Rattle.columns.specs.declared.Columns.TheVariants.{Cells, Bins}
use Rattle.columns.specs.Window.{span_of, cells_around, bins_over}
use Rattle.columns.specs.Pixels.{up_div}
use Rattle.grid.specs.declared.Grid.{Grid}
use Rattle.grid.specs.declared.overview.Overview.{Overview}
use Rattle.grid.specs.declared.fitting.Layout.{Layout}
use Rattle.grid.specs.Soundness.{no_rows, grid_by}
use Rattle.grid.specs.Orders.{Exact, held_px, exact_order_checks, overview_order_checks}

-- the least and the greatest of x and a list
unfoldable pub least_of : ℕ → List ℕ → ℕ
least_of x [] = x
least_of x (y ∷ ys) = least_of (min x y) ys

unfoldable pub greatest_of : ℕ → List ℕ → ℕ
greatest_of x [] = x
greatest_of x (y ∷ ys) = greatest_of (max x y) ys

-- the least pair that holds some positions, of which there is one at least
abbrev pub holding : List ℕ → Pair
holding [] = record { low = 0; high = 0 }
holding (p ∷ ps) = record { low = least_of p ps; high = greatest_of p ps }

-- the least pair that holds two pairs, the first of which may be missing
abbrev pub holding_both : Option Pair → Pair → Pair
holding_both None b = b
holding_both (Some a) b = record { low = min a.low b.low; high = max a.high b.high }

abbrev pub pair_span : Pair → ℕ
pair_span p = span_of p.low p.high

-- the heads of the first r rows, and E(r)
abbrev pub visited : Exact → ℕ → Pair
visited o r = holding (take r o.heads)

abbrev pub extent : Exact → ℕ → Pair
extent o r = holding_both o.written (visited o r)

-- the rows that an order wants to see at least, by whether the machine halted and the number of heads
abbrev pub wanted_of : Bool → ℕ → ℕ
wanted_of halted count = cond halted count (min count 32)

abbrev pub wanted : Exact → ℕ
wanted o = wanted_of o.halted (length o.heads)

-- cells of p show what is wanted
abbrev pub fits : Exact → ℕ → Bool
fits o p = leb (wanted o) (o.height / p) && leb (pair_span (extent o (o.height / p))) (o.width / p)

-- the largest of n..1 that passes a test, 0 where none does
unfoldable pub largest : (ℕ → Bool) → ℕ → ℕ
largest test zero = 0
largest test (suc n) = cond (test (suc n)) (suc n) (largest test n)

-- cells of p around a pair
abbrev pub cells_for : Exact → ℕ → Pair → Columns
cells_for o p pair = cells_around o.width p pair.low pair.high

-- a given size: around E if it fits, else around the heads alone
abbrev pub given_layout : Exact → ℕ → Layout
given_layout o p =
    record {
      columns = cells_for o p (cond (leb (pair_span (extent o (o.height / p))) (o.width / p)) (extent o (o.height / p)) (visited o (o.height / p)));
      row_px = p;
    }

-- the largest size that fits, bins over E(height) where none does
abbrev pub largest_layout : Exact → ℕ → Layout
largest_layout o zero = record { columns = bins_over o.width (extent o o.height).low (extent o o.height).high; row_px = 1 }
largest_layout o (suc p) = record { columns = cells_for o (suc p) (extent o (o.height / suc p)); row_px = suc p }

abbrev pub layout_for : Exact → Option ℕ → Layout
layout_for o (Some px) = given_layout o (held_px o.width o.height px)
layout_for o None = largest_layout o (largest (fits o) (min 8 o.height))

unfoldable pub layout_of : Exact → Layout
layout_of o = layout_for o o.size

-- the grid of an exact picture by its layout and rows: steps f, f + 1, ..
abbrev pub exact_grid_by : Exact → Layout → ℕ → Grid
exact_grid_by o l rows =
    grid_by o.width o.height o.symbols true l.columns l.row_px rows o.first_step 1 (2 ^ 64 - 1) no_rows

-- rows = min(heads, height div row height)
abbrev pub exact_grid : Exact → Grid
exact_grid o = exact_grid_by o (layout_of o) (min (length o.heads) (o.height / (layout_of o).row_px))

-- 6: bins over at most as many cells as they may have
abbrev pub few_cells : Columns → Bool
few_cells (Cells first count px x0) = true
few_cells (Bins first cells width) = leb cells max_cells

unfoldable pub exact_refusal : Exact → Option Refusal
exact_refusal o = first_failed (exact_order_checks o ++ ((few_cells (layout_of o).columns, refusal.Cells) ∷ []))

-- the steps between an overview's rows, and its rows
abbrev pub stride_for : ℕ → ℕ → ℕ
stride_for height total = cond (eqb height 1) (max total 1) (max 1 (up_div total (height - 1)))

abbrev pub rows_for : ℕ → ℕ → ℕ
rows_for height total = cond (eqb height 1) 1 (up_div total (stride_for height total) + 1)

-- n held to low..high
abbrev pub held_to : ℕ → ℕ → ℕ → ℕ
held_to low high n = max low (min n high)

-- cells if the extent is not wider than the picture, else bins
abbrev pub overview_layout : Overview → Layout
overview_layout o =
    let px = held_to 1 8 (o.width / span_of o.extent.low o.extent.high) in
    cond (leb (span_of o.extent.low o.extent.high) o.width)
    (record { columns = cells_around o.width px o.extent.low o.extent.high; row_px = held_to 1 px (o.height / rows_for o.height o.total) })
    (record { columns = bins_over o.width o.extent.low o.extent.high; row_px = 1 })

-- the grid of an overview by its layout, rows and stride
abbrev pub overview_grid_by : Overview → Layout → ℕ → ℕ → Grid
overview_grid_by o l rows stride =
    grid_by o.width o.height o.symbols false l.columns l.row_px rows 0 stride o.total no_rows

abbrev pub overview_grid : Overview → Grid
overview_grid o = overview_grid_by o (overview_layout o) (rows_for o.height o.total) (stride_for o.height o.total)

unfoldable pub overview_refusal : Overview → Option Refusal
overview_refusal o = first_failed (overview_order_checks o ++ ((few_cells (overview_layout o).columns, refusal.Cells) ∷ []))

unfoldable pub fit_exact : Exact → Result Grid Refusal
fit_exact o = answer_by (exact_refusal o) (exact_grid o)

unfoldable pub fit_overview : Overview → Result Grid Refusal
fit_overview o = answer_by (overview_refusal o) (overview_grid o)

-- the number and the record that an answer stands for
abbrev pub fit_said : Result Grid Refusal → ℕ × List Grid
fit_said = said [] (λ g. g ∷ [])
