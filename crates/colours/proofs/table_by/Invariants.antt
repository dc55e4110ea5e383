-- `colours::table_by` meets its contract. The invariant: each index byte so far has the pixel of its colour.
use Rattle.std.proofs.Common.{◌≡◌, ℕ, ◌<◌, [], length, slice_index_or}
use Rattle.colours.specs.Table.{pixel}
use Rattle.colours.proofs.table_by.Given as goal

abbrev pub invariant-loop-index : goal.invariant-loop-index
invariant-loop-index g l = (length l.table ≡ 256) × ((i : ℕ) → i < l.index → slice_index_or l.table i [] ≡ pixel (g.colour_of_byte i))
