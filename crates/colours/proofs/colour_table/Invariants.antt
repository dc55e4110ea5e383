-- `colours::colour_table` meets its contract: each closure computes the palette's colours.
use Rattle.colours.specs.Meanings.{colour_at}
use Rattle.colours.specs.Palettes.{light}
use Rattle.colours.proofs.colour_table.Given as goal

abbrev pub ghost-table_by : goal.ghost-table_by
ghost-table_by a = colour_at light

abbrev pub ghost-table_by-2 : goal.ghost-table_by-2
ghost-table_by-2 a = colour_at a.colour.0.now
