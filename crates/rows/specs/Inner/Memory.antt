-- The checks of a row call before those of its tape.
use Rattle.std.specs.Prelude.{ℕ, Option}
use Rattle.refusal.specs.declared.Refusal.{Refusal}
use Rattle.refusal.specs.Checks.{first_failed}
use Rattle.grid.specs.declared.Grid.{Grid}
use Rattle.rows.specs.RowCall.{memory_checks}

unfoldable pub memory_refusal : Grid → ℕ → ℕ → ℕ → Option Refusal
memory_refusal g index store tallies = first_failed (memory_checks g index store tallies)
