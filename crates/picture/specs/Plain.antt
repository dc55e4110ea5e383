-- The plain picture (RULES, Lists of calls): what a picture is, pixel by pixel, by the arguments of its fit and of each
-- row call alone.
use Rattle.std.specs.Prelude.{ℕ, ◌+◌, ◌-◌, ◌*◌, ◌/◌, ◌%◌, Bool, true, false, ◌||◌, cond, List, [], ◌∷◌, ltb, leb, eqb, length, get_or, replicate, Option, Some, None}
use Rattle.refusal.specs.declared.Refusal.{Refusal}
use Rattle.refusal.specs.Numbers.{number_of}
use Rattle.refusal.specs.Checks.{all_of}
use Rattle.slices.specs.Tabulate.{tabulate}
use Rattle.slices.specs.Filled.{within}
use Rattle.position.specs.Position.{position_of}
use Rattle.tape.specs.Tape.{Tape, tape_at, symbol_at}
use Rattle.columns.specs.declared.Columns.{Columns}
use Rattle.columns.specs.declared.Columns.TheVariants.{Cells, Bins}
use Rattle.columns.specs.declared.Pair.{Pair}
use Rattle.columns.specs.Window.{first_of}
use Rattle.columns.specs.Pixels.{bin_from, bin_to}
use Rattle.grid.specs.declared.Progress.{Progress}
use Rattle.grid.specs.declared.Grid.{Grid}
use Rattle.grid.specs.Soundness.{step_of, rows_done, with_progress}
use Rattle.grid.specs.Fit.{exact_grid, overview_grid}
use Rattle.grid.specs.Memory.{stored_cells}
use Rattle.line.specs.Line.{row_units, written_left, written_right, pixel_at}
use Rattle.rows.specs.RowCall.{RowInput, row_refusal}
use Rattle.picture.specs.declared.clicks.Location.{Location}
use Rattle.picture.specs.declared.clicks.Location.TheVariants.{Cell, Bin}
use Rattle.picture.specs.Calls.{Order, exact, overview}

-- a grid by the rules of Fit; index bytes and a store; n, the calls accepted so far; the written cells left and right of the window on the last
-- one's tape; and of each band the tape and the swept pair of its accepted call
pub record Plain : Type 0 where
  pub grid : Grid
  pub index : List ℕ
  pub store : List ℕ
  pub n : ℕ
  pub left : ℕ
  pub right : ℕ
  pub tapes : ℕ → Tape
  pub swept : ℕ → Option Pair

-- the grid of an order
abbrev pub plain_grid : Order → Grid
plain_grid (exact o) = exact_grid o
plain_grid (overview o) = overview_grid o

-- index and store of a grid, all 0, and no call accepted
abbrev pub blank : Grid → Plain
blank g =
    record {
      grid = g;
      index = replicate (g.width * g.height) 0;
      store = replicate (g.rows * stored_cells g.columns) 0;
      n = 0;
      left = 0;
      right = 0;
      tapes = λ i. tape_at (record { position = 0; symbol = 0 }) [] [] [] [];
      swept = λ i. None;
    }

abbrev pub plain_of : Order → Plain
plain_of o = blank (plain_grid o)

-- the picture's record as it stands: the plain grid, with n for rows done and the two counts
abbrev pub standing : Plain → Grid
standing q = with_progress q.grid (rows_done q.n q.left q.right)

-- two columns, and two records, are the same
abbrev pub same_columns : Columns → Columns → Bool
same_columns (Cells first count px x0) (Cells first2 count2 px2 x02) = all_of (eqb first first2 ∷ eqb count count2 ∷ eqb px px2 ∷ eqb x0 x02 ∷ [])
same_columns (Bins first cells width) (Bins first2 cells2 width2) = all_of (eqb first first2 ∷ eqb cells cells2 ∷ eqb width width2 ∷ [])
same_columns (Cells first count px x0) (Bins first2 cells2 width2) = false
same_columns (Bins first cells width) (Cells first2 count2 px2 x02) = false

abbrev pub same_flag : Bool → Bool → Bool
same_flag true b = b
same_flag false b = cond b false true

abbrev pub same_progress : Progress → Progress → Bool
same_progress p r = all_of (eqb p.done r.done ∷ eqb p.left r.left ∷ eqb p.right r.right ∷ [])

unfoldable pub same_grid : Grid → Grid → Bool
same_grid g h =
    all_of
    (eqb g.width h.width ∷ eqb g.height h.height ∷ eqb g.symbols h.symbols ∷ same_flag g.exact h.exact
    ∷ same_columns g.columns h.columns ∷ eqb g.row_px h.row_px ∷ eqb g.rows h.rows ∷ eqb g.first h.first
    ∷ eqb g.stride h.stride ∷ eqb g.last h.last ∷ same_progress g.progress h.progress ∷ [])

-- what a call's checks go by: the plain grid where the record handed in is the picture's as it stands, else that record
abbrev pub judged : Plain → Grid → Grid
judged q g = cond (same_grid g (standing q)) (standing q) g

abbrev pub plain_refusal : Plain → RowInput → Option Refusal
plain_refusal q call =
    row_refusal (judged q call.grid) (length call.index) (length call.store) (length call.tallies) call.tape call.swept

-- line y is one of band i, the lines that row i fills
abbrev pub in_band : Grid → ℕ → ℕ → Bool
in_band g i y = within (i * g.row_px) (i * g.row_px + g.row_px) y

-- the index byte at place k once row n is drawn: on band n's lines the row's byte of that pixel, elsewhere what it was
abbrev pub drawn_byte : Plain → RowInput → ℕ → ℕ
drawn_byte q call k =
    cond (in_band q.grid q.n (k / q.grid.width)) (pixel_at q.grid call.tape call.swept (k % q.grid.width)) (get_or q.index k 0)

-- the stored symbol at place k once row n is drawn: in cells those of the window stand at n × count
abbrev pub drawn_symbol : Plain → RowInput → ℕ → ℕ
drawn_symbol q call k =
    let count = stored_cells q.grid.columns in
    cond (within (q.n * count) (q.n * count + count) k) (symbol_at call.tape (first_of q.grid.columns + (k - q.n * count))) (get_or q.store k 0)

-- row n is drawn, n rises by one, and the counts are those of its tape
abbrev pub with_row : Plain → RowInput → Plain
with_row q call =
    record {
      grid = q.grid;
      index = tabulate (drawn_byte q call) (length q.index);
      store = tabulate (drawn_symbol q call) (length q.store);
      n = q.n + 1;
      left = written_left q.grid.columns call.tape;
      right = written_right q.grid.columns call.tape;
      tapes = λ i. cond (eqb i q.n) call.tape (q.tapes i);
      swept = λ i. cond (eqb i q.n) call.swept (q.swept i);
    }

-- a call that is refused answers its number and changes nothing; any other draws row n and answers the units
abbrev pub plain_by : Option Refusal → Plain → RowInput → Plain × (ℕ × ℕ)
plain_by None q call = (with_row q call, (0, row_units q.grid.columns call.tape))
plain_by (Some refusal) q call = (q, (number_of refusal, 0))

unfoldable pub plain_row : Plain → RowInput → Plain × (ℕ × ℕ)
plain_row q call = plain_by (plain_refusal q call) q call

-- after a list of calls, with the number and the units of each
unfoldable pub plain_after : Plain → List RowInput → Plain × List (ℕ × ℕ)
plain_after q [] = (q, [])
plain_after q (call ∷ calls) = let rest = plain_after (plain_row q call).0 calls in (rest.0, (plain_row q call).1 ∷ rest.1)

-- x is in a side margin: bins have none
abbrev pub in_margin : Columns → ℕ → Bool
in_margin (Cells first count px x0) x = ltb x x0 || leb (x0 + count * px) x
in_margin (Bins first cells width) x = false

-- what pixel x of row r shows
abbrev pub shown_at : Columns → ℕ → ℕ → List ℕ → ℕ → Location
shown_at (Cells first count px x0) step r store x =
    let k = (x - x0) / px in
    Cell step (position_of (first + k)) (get_or store (r * count + k) 0)
shown_at (Bins first cells width) step r store x = Bin step (position_of (first + bin_from width cells x)) (position_of (first + bin_to width cells x))

-- where a click on the plain picture lands
unfoldable pub plain_locate : Plain → ℕ → ℕ → Option Location
plain_locate q x y =
    let r = y / q.grid.row_px in
    cond (leb q.n r || (leb q.grid.width x || in_margin q.grid.columns x)) None (Some (shown_at q.grid.columns (step_of q.grid r) r q.store x))
