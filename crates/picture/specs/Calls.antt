-- Pictures as their callers make them: an order, its fit, and a list of row calls (RULES, Lists of calls).
use Rattle.std.specs.Prelude.{ℕ, ◌+◌, ◌≡◌, Bool, true, false, List, [], ◌∷◌, Result, Ok, Err}
use Rattle.refusal.specs.declared.Refusal.{Refusal}
use Rattle.grid.specs.declared.Grid.{Grid}
use Rattle.grid.specs.declared.overview.Overview.{Overview}
use Rattle.grid.specs.Orders.{Exact}
use Rattle.grid.specs.Fit.{fit_exact, fit_overview}
use Rattle.grid.specs.Opening.{OpenOutput}
use Rattle.rows.specs.declared.Drawn.{Drawn}
use Rattle.rows.specs.RowCall.{RowInput, row_call, row_said}

-- what a picture is ordered by: the arguments of either fit
pub data Order : Type 0 where
  exact : Exact → Order
  overview : Overview → Order

abbrev pub fit : Order → Result Grid Refusal
fit (exact o) = fit_exact o
fit (overview o) = fit_overview o

-- what the caller keeps between calls
pub record State : Type 0 where
  pub grid : Grid
  pub index : List ℕ
  pub store : List ℕ

-- after an opening that was accepted with a grid
abbrev pub opened : Grid → OpenOutput → State
opened g out = record { grid = g; index = out.index; store = out.store }

-- after a row call: what a drawn one left, the same as before after a refused one
abbrev pub after_one : State → Result Drawn Refusal → List ℕ → List ℕ → State
after_one s (Ok drawn) index store = record { grid = drawn.grid; index = index; store = store }
after_one s (Err refused) index store = s

abbrev pub after_call : State → RowInput → State
after_call s call = after_one s (row_call call).answer (row_call call).index (row_call call).store

-- after a list of calls, with the answer of each
unfoldable pub after : State → List RowInput → State × List (Result Drawn Refusal)
after s [] = (s, [])
after s (call ∷ calls) = let rest = after (after_call s call) calls in (rest.0, (row_call call).answer ∷ rest.1)

-- a call was accepted
abbrev pub accepted : Result Drawn Refusal → Bool
accepted (Ok drawn) = true
accepted (Err refused) = false

-- a call was handed grid, index and store as they stand
abbrev pub Handed : State → RowInput → Type 0
Handed s call = (call.grid ≡ s.grid) × (call.index ≡ s.index) × (call.store ≡ s.store)

-- each accepted call was handed grid, index and store as they then stood; a refused one may be handed anything
unfoldable pub Allowed : State → List RowInput → Type 0
Allowed s [] = Unit
Allowed s (call ∷ calls) = (accepted (row_call call).answer ≡ true → Handed s call) × Allowed (after_call s call) calls

-- the units of all accepted calls
unfoldable pub units_in : List (Result Drawn Refusal) → ℕ
units_in [] = 0
units_in (answer ∷ answers) = (row_said answer).1 + units_in answers
