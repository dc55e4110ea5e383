-- Equal pictures (RULES, Clicks).
use Rattle.std.specs.Prelude.{ℕ, ◌*◌, Bool, ◌&&◌, cond, List, [], ◌∷◌, ◌++◌, eqb, length, take, Option, Result}
use Rattle.refusal.specs.declared.Refusal.{Refusal}
use Rattle.refusal.specs.Checks.{first_failed, answer_by, all_of, said}
use Rattle.slices.specs.Same.{same}
use Rattle.slices.specs.Tabulate.{tabulate}
use Rattle.columns.specs.declared.Columns.{Columns}
use Rattle.columns.specs.Window.{window_of}
use Rattle.grid.specs.declared.Grid.{Grid}
use Rattle.grid.specs.Soundness.{step_of}
use Rattle.grid.specs.Memory.{stored_cells}
use Rattle.grid.specs.Opening.{open_checks}
use Rattle.picture.specs.Calls.{State}

-- a picture as it is lent
abbrev pub lent : Grid → List ℕ → List ℕ → State
lent g index store = record { grid = g; index = index; store = store }

-- 15, 7 and 8 of one picture, as at an opening
abbrev pub lent_checks : State → List (Bool × Refusal)
lent_checks s = open_checks s.grid (length s.index) (length s.store)

abbrev pub lent_refusal : State → Option Refusal
lent_refusal s = first_failed (lent_checks s)

-- the first one's before the second's
unfoldable pub equal_refusal : State → State → Option Refusal
equal_refusal s t = first_failed (lent_checks s ++ lent_checks t)

-- width, height and every byte are equal: the pictures look equal
abbrev pub looks_equal : State → State → Bool
looks_equal s t = (eqb s.grid.width t.grid.width && eqb s.grid.height t.grid.height) && same s.index t.index

-- both ends of the window are
abbrev pub same_window : Columns → Columns → Bool
same_window a b = eqb (window_of a).low (window_of b).low && eqb (window_of a).high (window_of b).high

-- the step of each drawn row
abbrev pub drawn_steps : Grid → List ℕ
drawn_steps g = tabulate (step_of g) g.progress.done

-- the symbols that are stored for the drawn rows
abbrev pub drawn_symbols : Grid → List ℕ → List ℕ
drawn_symbols g store = take (g.progress.done * stored_cells g.columns) store

-- the pictures look equal, and show the same cells, as many rows, the same steps and the same symbols
unfoldable pub alike : State → State → Bool
alike s t =
    all_of
    (looks_equal s t ∷ same_window s.grid.columns t.grid.columns ∷ eqb s.grid.progress.done t.grid.progress.done
    ∷ same (drawn_steps s.grid) (drawn_steps t.grid) ∷ same (drawn_symbols s.grid s.store) (drawn_symbols t.grid t.store) ∷ [])

unfoldable pub equal_call : State → State → Result Bool Refusal
equal_call s t = answer_by (equal_refusal s t) (alike s t)

-- the number and the value that an answer stands for: 1 where the pictures are equal, else 0
abbrev pub equal_said : Result Bool Refusal → ℕ × List ℕ
equal_said = said [] (λ equal. cond equal 1 0 ∷ [])
