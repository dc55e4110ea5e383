-- What opening answers, and what the lent index and store then hold (RULES, Rows and Refusals).
use Rattle.std.specs.Prelude.{ℕ, Bool, List, [], ◌∷◌, Option, Result, Ok, Err, length, replicate}
use Rattle.refusal.specs.declared.Refusal.{Refusal}
use Rattle.refusal.specs.declared.Refusal.TheVariants as refusal
use Rattle.refusal.specs.Checks.{first_failed, answer_by, kept_if, said}
use Rattle.grid.specs.declared.Grid.{Grid}
use Rattle.grid.specs.Soundness.{grid_sound, no_rows, with_progress}
use Rattle.grid.specs.Memory.{index_fits, store_fits}

-- 15, 7 and 8, by the grid and the two lengths
abbrev pub open_checks : Grid → ℕ → ℕ → List (Bool × Refusal)
open_checks g index store =
    (grid_sound g, refusal.Record) ∷ (index_fits g index, refusal.IndexLength) ∷ (store_fits g store, refusal.StoreLength) ∷ []

unfoldable pub open_refusal : Grid → ℕ → ℕ → Option Refusal
open_refusal g index store = first_failed (open_checks g index store)

pub record OpenInput : Type 0 where
  pub grid : Grid
  pub index : List ℕ
  pub store : List ℕ

pub record OpenOutput : Type 0 where
  pub answer : Result Grid Refusal
  pub index : List ℕ
  pub store : List ℕ

-- the grid with no row done
abbrev pub restarted : Grid → Grid
restarted g = with_progress g no_rows

abbrev pub open_input_refusal : OpenInput → Option Refusal
open_input_refusal i = open_refusal i.grid (length i.index) (length i.store)

unfoldable pub open_call : OpenInput → OpenOutput
open_call i =
    let refused = open_input_refusal i in
    record {
      answer = answer_by refused (restarted i.grid);
      index = kept_if refused i.index (replicate (length i.index) 0);
      store = kept_if refused i.store (replicate (length i.store) 0);
    }

abbrev pub open_input : Grid → List ℕ → List ℕ → OpenInput
open_input g index store = record { grid = g; index = index; store = store }

-- the number and the record that an answer stands for
abbrev pub open_said : Result Grid Refusal → ℕ × List Grid
open_said = said [] (λ g. g ∷ [])

-- the grid that the caller then has
abbrev pub open_grid : Result Grid Refusal → Grid → Grid
open_grid (Ok g) old = g
open_grid (Err refused) old = old
