-- What a row call answers, and what the lent index, store and tallies then hold (RULES, Rows and Refusals).
use Rattle.std.specs.Prelude.{ℕ, ◌+◌, ◌*◌, Bool, true, not, ◌&&◌, List, [], ◌∷◌, ◌++◌, ltb, leb, eqb, length, Option, Some, None, Result, Ok, Err}
use Rattle.refusal.specs.declared.Refusal.{Refusal}
use Rattle.refusal.specs.declared.Refusal.TheVariants as refusal
use Rattle.refusal.specs.Checks.{first_failed, answer_by, kept_if, said}
use Rattle.position.specs.Position.{in_domain}
use Rattle.tape.specs.Tape.{Tape}
use Rattle.tape.specs.Checks.{runs_sound, reach_sound}
use Rattle.tape.specs.Joined.{tape_joined}
use Rattle.columns.specs.declared.Pair.{Pair}
use Rattle.grid.specs.declared.Progress.{Progress}
use Rattle.grid.specs.declared.Grid.{Grid}
use Rattle.rows.specs.declared.Drawn.{Drawn}
use Rattle.grid.specs.Soundness.{grid_sound, rows_done, with_progress}
use Rattle.grid.specs.Memory.{stored_cells, index_fits, store_fits}
use Rattle.line.specs.Altered.{repeated, overwritten}
use Rattle.line.specs.Line.{tallies_in, row_tallies, row_symbols, row_units, written_left, written_right, line_of}

pub record RowInput : Type 0 where
  pub grid : Grid
  pub index : List ℕ
  pub store : List ℕ
  pub tallies : List ℕ
  pub tape : Tape
  pub swept : Option Pair

pub record RowOutput : Type 0 where
  pub answer : Result Drawn Refusal
  pub index : List ℕ
  pub store : List ℕ
  pub tallies : List ℕ

-- 15, 14, 7, 8 and 9, by the grid and the three lengths
abbrev pub memory_checks : Grid → ℕ → ℕ → ℕ → List (Bool × Refusal)
memory_checks g index store tallies =
    (grid_sound g, refusal.Record) ∷ (ltb g.progress.done g.rows, refusal.Complete) ∷ (index_fits g index, refusal.IndexLength)
    ∷ (store_fits g store, refusal.StoreLength) ∷ (eqb tallies (tallies_in g.columns), refusal.TalliesLength) ∷ []

-- 13: a swept pair is in order, within ±L and given in an overview
abbrev pub swept_sound : Bool → Option Pair → Bool
swept_sound exact None = true
swept_sound exact (Some p) = (not exact && leb p.low p.high) && (in_domain p.low && in_domain p.high)

-- 15, 14, 7, 8, 9, 11, 19, 12 and 13
abbrev pub row_checks : Grid → ℕ → ℕ → ℕ → Tape → Option Pair → List (Bool × Refusal)
row_checks g index store tallies t swept =
    memory_checks g index store tallies
    ++ ((runs_sound g.symbols t, refusal.Runs) ∷ (tape_joined t, refusal.Unjoined) ∷ (reach_sound t, refusal.Reach) ∷ (swept_sound g.exact swept, refusal.Swept) ∷ [])

unfoldable pub row_refusal : Grid → ℕ → ℕ → ℕ → Tape → Option Pair → Option Refusal
row_refusal g index store tallies t swept = first_failed (row_checks g index store tallies t swept)

abbrev pub row_input_refusal : RowInput → Option Refusal
row_input_refusal i = row_refusal i.grid (length i.index) (length i.store) (length i.tallies) i.tape i.swept

-- one more row is done, and the counts are those of its tape
abbrev pub progressed : Grid → Tape → Progress
progressed g t = rows_done (g.progress.done + 1) (written_left g.columns t) (written_right g.columns t)

abbrev pub advanced : Grid → Tape → Grid
advanced g t = with_progress g (progressed g t)

-- the number and the units that an answer stands for: 0 and the units, or the refusal alone
abbrev pub row_said : Result Drawn Refusal → ℕ × ℕ
row_said = said 0 (λ drawn. drawn.units)

-- the grid that the caller then has
abbrev pub drawn_grid : Result Drawn Refusal → Grid → Grid
drawn_grid (Ok drawn) old = drawn.grid
drawn_grid (Err refused) old = old

-- the line goes onto every line of the next row
unfoldable pub drawn_index : Grid → Tape → Option Pair → List ℕ → List ℕ
drawn_index g t swept index = overwritten (g.progress.done * g.row_px * g.width) (repeated g.row_px (line_of g t swept)) index

-- the symbols go to the next row of the store
unfoldable pub drawn_store : Grid → Tape → List ℕ → List ℕ
drawn_store g t store = overwritten (g.progress.done * stored_cells g.columns) (row_symbols g.columns t) store

unfoldable pub row_call : RowInput → RowOutput
row_call i =
    let g = i.grid in
    let refused = row_input_refusal i in
    record {
      answer = answer_by refused (record { grid = advanced g i.tape; units = row_units g.columns i.tape });
      index = kept_if refused i.index (drawn_index g i.tape i.swept i.index);
      store = kept_if refused i.store (drawn_store g i.tape i.store);
      tallies = kept_if refused i.tallies (row_tallies g.columns i.tape);
    }

abbrev pub row_input : Grid → List ℕ → List ℕ → List ℕ → Tape → Option Pair → RowInput
row_input g index store tallies t swept = record { grid = g; index = index; store = store; tallies = tallies; tape = t; swept = swept }
