-- `page::put_lines` meets its contract: at each turn the lines of the rows before `row` stand.
use Rattle.std.proofs.Common.{◌≡◌, ℕ, ◌*◌, ◌/◌, ◌%◌, ◌<◌, slice_index}
use Rattle.page.specs.Page.{row_character}
use Rattle.page.proofs.put_lines.Given as goal

abbrev pub invariant-loop-row : goal.invariant-loop-row
invariant-loop-row l = (k : ℕ) → k < 81 * l.row → slice_index l.page k ≡ row_character l.grid l.index (k / 81) (k % 81)
