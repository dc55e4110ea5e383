-- The claim about every list of row calls. Open this file first: `Demand3` is what is proved, in proofs/Demand3.antt, of the
-- definitions that the contracts of fit, open, row and locate cite. Positions are in their offset form.
use Rattle.std.specs.Prelude.{ℕ, ◌+◌, ◌*◌, ◌≤◌, ◌<◌, ◌≡◌, true, false, List, map, ◌↔◌, ◌⊎◌, get_or, Option, Some, None, Result, Ok, Err}
use Rattle.refusal.specs.declared.Refusal.{Refusal}
use Rattle.position.specs.Position.{offset_of}
use Rattle.shade.specs.Index as byte
use Rattle.columns.specs.declared.Pair.{Pair}
use Rattle.columns.specs.Found.{pair, among}
use Rattle.columns.specs.Window.{in_window}
use Rattle.columns.specs.Bins.{sum_to}
use Rattle.columns.specs.Pixels.{head_at}
use Rattle.grid.specs.declared.Grid.{Grid}
use Rattle.grid.specs.Opening.{open_input, open_call}
use Rattle.rows.specs.declared.Drawn.{Drawn}
use Rattle.line.specs.Line.{written, units_each, written_cells}
use Rattle.rows.specs.RowCall.{RowInput, row_call, row_said}
use Rattle.picture.specs.declared.clicks.Location.{Location}
use Rattle.picture.specs.declared.clicks.Location.TheVariants.{Cell, Bin}
use Rattle.picture.specs.Clicks.{locate_call}
use Rattle.picture.specs.Calls.{Order, fit, State, opened, after, accepted, Allowed, units_in}
use Rattle.picture.specs.Plain.{Plain, plain_of, standing, in_band, in_margin, plain_after, plain_locate}

-- the positions that a click names
abbrev pub cells_at : Result (Option Location) Refusal → Option Pair
cells_at (Ok (Some (Cell step position symbol))) = Some (pair (offset_of position) (offset_of position))
cells_at (Ok (Some (Bin step from to))) = Some (pair (offset_of from) (offset_of to))
cells_at (Ok None) = None
cells_at (Err refused) = None

-- the byte of pixel (x, y)
abbrev pub byte_at : State → ℕ → ℕ → ℕ
byte_at s x y = get_or s.index (y * s.grid.width + x) 0

-- what a click on pixel (x, y) finds
abbrev pub click : State → ℕ → ℕ → Result (Option Location) Refusal
click s x y = locate_call s.grid s.store x y

-- y lies in no drawn band
abbrev pub Undrawn : Plain → ℕ → Type 0
Undrawn q y = (i : ℕ) → i < q.n → in_band q.grid i y ≡ false

-- nothing is to be seen at pixel x of band i in the cells from..to: none is written on the band's tape or swept, nor is the head drawn
abbrev pub NothingSeen : Plain → ℕ → ℕ → ℕ → ℕ → Type 0
NothingSeen q i x from to =
    ((k : ℕ) → among (Some (pair from to)) k ≡ true → (written (q.tapes i) k ≡ false) × (among (q.swept i) k ≡ false))
    × (among (head_at q.grid.columns (q.tapes i).head) x ≡ false)

-- the written window cells of all accepted tapes
abbrev pub all_written : Plain → ℕ
all_written q = sum_to q.n (λ i. written_cells q.grid.columns (q.tapes i))

-- what holds after a list of calls: s and the answers are the caller's, q and the numbers and units those of the plain picture
pub record Picture (s : State) (answers : List (Result Drawn Refusal)) (q : Plain) (told : List (ℕ × ℕ)) : Type 0 where
  -- 1. the same picture
  pub same_record : s.grid ≡ standing q
  pub same_index : s.index ≡ q.index
  pub same_store : s.store ≡ q.store
  pub same_clicks : (x y : ℕ) → click s x y ≡ Ok (plain_locate q x y)
  pub same_answers : map row_said answers ≡ told
  -- 2. nothing where nothing was drawn
  pub blank_elsewhere : (x y : ℕ) → x < q.grid.width → y < q.grid.height → Undrawn q y ⊎ (in_margin q.grid.columns x ≡ true)
      → (byte_at s x y ≡ byte.background) × (click s x y ≡ Ok None)
  pub nothing_outside : (x y : ℕ) → (q.grid.width ≤ x) ⊎ (q.grid.height ≤ y) → click s x y ≡ Ok None
  -- 3. paper exactly where nothing is
  pub paper : (x y i : ℕ) → x < q.grid.width → i < q.n → in_band q.grid i y ≡ true → in_margin q.grid.columns x ≡ false
      → (from : ℕ) × (to : ℕ) × (cells_at (click s x y) ≡ Some (pair from to)) × ((byte_at s x y ≡ byte.background) ↔ NothingSeen q i x from to)
  -- the head's byte is where the head is drawn and nowhere else, and such a pixel locates to its cell; in the window it is drawn somewhere
  pub head : (x y i : ℕ) → x < q.grid.width → i < q.n → in_band q.grid i y ≡ true
      → ((byte_at s x y ≡ byte.head) ↔ (among (head_at q.grid.columns (q.tapes i).head) x ≡ true))
      × (byte_at s x y ≡ byte.head → among (cells_at (click s x y)) (q.tapes i).head ≡ true)
  pub head_seen : (y i : ℕ) → i < q.n → in_band q.grid i y ≡ true → in_window q.grid.columns (q.tapes i).head ≡ true
      → (x : ℕ) × (x < q.grid.width) × (byte_at s x y ≡ byte.head)
  -- 4. nothing falls between
  pub every_cell : (y i k : ℕ) → i < q.n → in_band q.grid i y ≡ true → in_window q.grid.columns k ≡ true
      → (x : ℕ) × (x < q.grid.width) × (among (cells_at (click s x y)) k ≡ true)
  -- 5. the ink adds up
  pub ink : units_in answers ≡ units_each q.grid.columns * all_written q

-- for every accepted fit, every accepted opening handed its record, and every list of calls in which each accepted one was handed
-- record, index and store as they then stood
abbrev pub Demand3 : Type 0
Demand3 =
    (o : Order) (g : Grid) → fit o ≡ Ok g
    → (index store : List ℕ) (start : Grid) → (open_call (open_input g index store)).answer ≡ Ok start
    → (calls : List RowInput)
    → Allowed (opened start (open_call (open_input g index store))) calls
    → Picture (after (opened start (open_call (open_input g index store))) calls).0 (after (opened start (open_call (open_input g index store))) calls).1
    (plain_after (plain_of o) calls).0 (plain_after (plain_of o) calls).1

-- beside it: a refused call leaves all that it was lent as it was, the picture's own memory included
abbrev pub RefusedKeeps : Type 0
RefusedKeeps =
    (call : RowInput) → accepted (row_call call).answer ≡ false
    → ((row_call call).index ≡ call.index) × ((row_call call).store ≡ call.store) × ((row_call call).tallies ≡ call.tallies)
