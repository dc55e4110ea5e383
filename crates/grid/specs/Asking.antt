-- What asking for a row and for the range answers (RULES, Clicks).
use Rattle.std.specs.Prelude.{ℕ, ◌+◌, ◌*◌, cond, List, [], ◌∷◌, ℤ, ltb, Option, None, Some, Result}
use Rattle.refusal.specs.declared.Refusal.{Refusal}
use Rattle.refusal.specs.Checks.{answer_by, said}
use Rattle.position.specs.Position.{position_of}
use Rattle.columns.specs.Window.{window_of}
use Rattle.grid.specs.declared.Grid.{Grid}
use Rattle.grid.specs.declared.asking.Lines.{Lines}
use Rattle.grid.specs.declared.asking.Ends.{Ends}
use Rattle.grid.specs.Soundness.{record_refusal, step_of}

-- the step of row k and its lines, as many as the row height from k × row height on
abbrev pub lines_of : Grid → ℕ → Lines
lines_of g k = record { step = step_of g k; from = k * g.row_px; to = k * g.row_px + g.row_px }

unfoldable pub row_lines_call : Grid → ℕ → Result (Option Lines) Refusal
row_lines_call g k = answer_by (record_refusal g) (cond (ltb k g.rows) (Some (lines_of g k)) None)

unfoldable pub range_call : Grid → Result Ends Refusal
range_call g = answer_by (record_refusal g) (record { low = position_of (window_of g.columns).low; high = position_of (window_of g.columns).high })

-- the values of row k: 1, its step, its first line and the line past its last; all 0 where there is no such row
abbrev pub line_values : Grid → ℕ → List ℕ
line_values g k = cond (ltb k g.rows) (1 ∷ step_of g k ∷ (k * g.row_px) ∷ (k * g.row_px + g.row_px) ∷ []) (0 ∷ 0 ∷ 0 ∷ 0 ∷ [])

-- the two ends
abbrev pub range_values : Grid → List ℤ
range_values g = position_of (window_of g.columns).low ∷ position_of (window_of g.columns).high ∷ []

-- the number and the values that an answer stands for
abbrev pub found_values : Option Lines → List ℕ
found_values (Some lines) = 1 ∷ lines.step ∷ lines.from ∷ lines.to ∷ []
found_values None = 0 ∷ 0 ∷ 0 ∷ 0 ∷ []

abbrev pub lines_said : Result (Option Lines) Refusal → ℕ × List ℕ
lines_said = said [] found_values

abbrev pub range_said : Result Ends Refusal → ℕ × List ℤ
range_said = said [] (λ ends. ends.low ∷ ends.high ∷ [])
