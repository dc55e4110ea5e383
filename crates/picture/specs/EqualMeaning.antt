-- What the answer about two pictures means, and what holds of it (RULES, Clicks): a claim beside `Demand3`. proofs/EqualMeaning.antt shows it.
use Rattle.std.specs.Prelude.{ℕ, ◌+◌, ◌*◌, ◌<◌, ◌≡◌, true, false, cond, List, [], ◌∷◌, ◌↔◌, ◌⊎◌, get_or, Option, None, Ok}
use Rattle.tape.specs.Tape.{Tape}
use Rattle.columns.specs.declared.Pair.{Pair}
use Rattle.columns.specs.Window.{window_of}
use Rattle.grid.specs.declared.Grid.{Grid}
use Rattle.grid.specs.Soundness.{step_of}
use Rattle.grid.specs.Memory.{stored_cells}
use Rattle.grid.specs.Opening.{open_input, open_call}
use Rattle.rows.specs.RowCall.{RowInput, row_call}
use Rattle.picture.specs.Equal.{lent_refusal, looks_equal, equal_call}
use Rattle.picture.specs.Calls.{Order, fit, State, opened, after, accepted, Allowed}

-- a picture that is not refused
abbrev pub Taken : State → Type 0
Taken s = lent_refusal s ≡ None

-- the symbol stored for cell j of row k
abbrev pub stored_at : State → ℕ → ℕ → ℕ
stored_at s k j = get_or s.store (k * stored_cells s.grid.columns + j) 0

-- what two equal pictures have in common
pub record Agree (s t : State) : Type 0 where
  pub same_width : s.grid.width ≡ t.grid.width
  pub same_height : s.grid.height ≡ t.grid.height
  pub same_bytes : s.index ≡ t.index
  pub same_low : (window_of s.grid.columns).low ≡ (window_of t.grid.columns).low
  pub same_high : (window_of s.grid.columns).high ≡ (window_of t.grid.columns).high
  pub same_rows : s.grid.progress.done ≡ t.grid.progress.done
  pub same_steps : (k : ℕ) → k < s.grid.progress.done → step_of s.grid k ≡ step_of t.grid k
  pub same_symbols : (k j : ℕ) → k < s.grid.progress.done → j < stored_cells s.grid.columns → stored_at s k j ≡ stored_at t k j

-- the tape and the swept pair of each accepted call, in turn
unfoldable pub rows_in : List RowInput → List (Tape × Option Pair)
rows_in [] = []
rows_in (call ∷ calls) = cond (accepted (row_call call).answer) ((call.tape, call.swept) ∷ rows_in calls) (rows_in calls)

pub record Equalities : Type 0 where
  -- two pictures are equal exactly if neither is refused and they agree; where neither is refused, they are equal or different
  pub means : (s t : State) → (equal_call s t ≡ Ok true) ↔ (Taken s × Taken t × Agree s t)
  pub answered : (s t : State) → Taken s → Taken t → (equal_call s t ≡ Ok true) ⊎ (equal_call s t ≡ Ok false)
  -- pictures that are equal look equal
  pub implies_looks_equal : (s t : State) → equal_call s t ≡ Ok true → looks_equal s t ≡ true
  -- it is an equivalence of the pictures that are not refused
  pub reflexive : (s : State) → Taken s → equal_call s s ≡ Ok true
  pub symmetric : (s t : State) → equal_call s t ≡ Ok true → equal_call t s ≡ Ok true
  pub transitive : (s t u : State) → equal_call s t ≡ Ok true → equal_call t u ≡ Ok true → equal_call s u ≡ Ok true
  -- one fit, and lists of calls whose accepted ones have the same tapes and swept pairs in turn, make equal pictures
  pub made_alike : (o : Order) (g : Grid) → fit o ≡ Ok g
      → (index store : List ℕ) (start : Grid) → (open_call (open_input g index store)).answer ≡ Ok start
      → (other-index other-store : List ℕ) (other-start : Grid) → (open_call (open_input g other-index other-store)).answer ≡ Ok other-start
      → (calls other-calls : List RowInput)
      → Allowed (opened start (open_call (open_input g index store))) calls
      → Allowed (opened other-start (open_call (open_input g other-index other-store))) other-calls
      → rows_in calls ≡ rows_in other-calls
      → equal_call (after (opened start (open_call (open_input g index store))) calls).0 (after (opened other-start (open_call (open_input g other-index other-store))) other-calls).0 ≡ Ok true
