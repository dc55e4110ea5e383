-- What a click locates to (RULES, Clicks).
use Rattle.std.specs.Prelude.{ℕ, ◌+◌, ◌-◌, ◌*◌, ◌/◌, Bool, cond, List, [], ◌∷◌, ltb, ℤ, pos, length, get_or, Option, Some, None, Result}
use Rattle.refusal.specs.declared.Refusal.{Refusal}
use Rattle.refusal.specs.declared.Refusal.TheVariants as refusal
use Rattle.refusal.specs.Checks.{first_failed, answer_by, said}
use Rattle.position.specs.Position.{position_of}
use Rattle.columns.specs.declared.Columns.{Columns}
use Rattle.columns.specs.declared.Columns.TheVariants.{Cells, Bins}
use Rattle.columns.specs.declared.Pair.{Pair}
use Rattle.columns.specs.Pixels.{located}
use Rattle.grid.specs.declared.Grid.{Grid}
use Rattle.grid.specs.Soundness.{grid_sound, step_of}
use Rattle.grid.specs.Memory.{store_fits}
use Rattle.picture.specs.declared.clicks.Location.{Location}
use Rattle.picture.specs.declared.clicks.Location.TheVariants.{Cell, Bin}

-- 15 and 8, by the grid and the store's length
abbrev pub locate_checks : Grid → ℕ → List (Bool × Refusal)
locate_checks g store = (grid_sound g, refusal.Record) ∷ (store_fits g store, refusal.StoreLength) ∷ []

unfoldable pub locate_refusal : Grid → ℕ → Option Refusal
locate_refusal g store = first_failed (locate_checks g store)

-- the positions from..to of row k: in cells, where the two are one, with the symbol stored for it
abbrev pub location_at : Columns → ℕ → ℕ → List ℕ → ℕ → ℕ → Location
location_at (Cells first count px x0) step k store from to = Cell step (position_of from) (get_or store (k * count + (from - first)) 0)
location_at (Bins first cells width) step k store from to = Bin step (position_of from) (position_of to)

abbrev pub location_of : Grid → ℕ → List ℕ → Option Pair → Option Location
location_of g k store None = None
location_of g k store (Some p) = Some (location_at g.columns (step_of g k) k store p.low p.high)

-- nothing in a row that is not done, nor beside the window
unfoldable pub clicked : Grid → List ℕ → ℕ → ℕ → Option Location
clicked g store x y = cond (ltb (y / g.row_px) g.progress.done) (location_of g (y / g.row_px) store (located g.columns x)) None

unfoldable pub locate_call : Grid → List ℕ → ℕ → ℕ → Result (Option Location) Refusal
locate_call g store x y = answer_by (locate_refusal g (length store)) (clicked g store x y)

-- the values of what is found: 1 where something was, else 0, step, 1 where it has a symbol, symbol; and the positions from and to
abbrev pub found_values : Option Location → List ℕ × List ℤ
found_values (Some (Cell step position symbol)) = (1 ∷ step ∷ 1 ∷ symbol ∷ [], position ∷ position ∷ [])
found_values (Some (Bin step from to)) = (1 ∷ step ∷ 0 ∷ 0 ∷ [], from ∷ to ∷ [])
found_values None = (0 ∷ 0 ∷ 0 ∷ 0 ∷ [], pos 0 ∷ pos 0 ∷ [])

-- the number and the values that an answer stands for
abbrev pub locate_said : Result (Option Location) Refusal → ℕ × (List ℕ × List ℤ)
locate_said = said ([], []) found_values
