-- The claim about what a picture leaves out, beside `Demand3` and of the same lists: the written cells of each accepted tape are those in the window
-- and those that the record then counts left and right of it. It is proved in proofs/Accounts.antt.
use Rattle.std.specs.Prelude.{ℕ, ◌+◌, ◌/◌, ◌≡◌, List, [], ◌∷◌, Result, Ok, Err}
use Rattle.refusal.specs.declared.Refusal.{Refusal}
use Rattle.columns.specs.declared.Columns.{Columns}
use Rattle.grid.specs.declared.Grid.{Grid}
use Rattle.grid.specs.Opening.{open_input, open_call}
use Rattle.line.specs.Line.{units_each, written_on}
use Rattle.rows.specs.declared.Drawn.{Drawn}
use Rattle.rows.specs.RowCall.{RowInput, row_call}
use Rattle.picture.specs.Calls.{Order, fit, opened, Allowed}
use Rattle.picture.specs.Plain.{plain_of}

-- the units of an accepted call, divided by those of a written cell, and the two counts of the record that it answers are the written cells of its tape
abbrev pub Accounted : Columns → RowInput → Result Drawn Refusal → Type 0
Accounted columns call (Ok drawn) = written_on call.tape ≡ drawn.units / units_each columns + (drawn.grid.progress.left + drawn.grid.progress.right)
Accounted columns call (Err refused) = Unit

-- so it is for each call of a list
unfoldable pub EachAccounted : Columns → List RowInput → Type 0
EachAccounted columns [] = Unit
EachAccounted columns (call ∷ calls) = Accounted columns call (row_call call).answer × EachAccounted columns calls

-- for every accepted fit, every accepted opening handed its record, and every list of calls in which each accepted one was handed
-- record, index and store as they then stood
abbrev pub AllAccounted : Type 0
AllAccounted =
    (o : Order) (g : Grid) → fit o ≡ Ok g
    → (index store : List ℕ) (start : Grid) → (open_call (open_input g index store)).answer ≡ Ok start
    → (calls : List RowInput)
    → Allowed (opened start (open_call (open_input g index store))) calls
    → EachAccounted (plain_of o).grid.columns calls
