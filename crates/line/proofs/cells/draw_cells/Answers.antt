-- `line::cells::draw_cells` meets its contract: the cells are there, and paper on both sides.
use Rattle.std.proofs.Common.{arith, rules, get_or}
use Rattle.line.proofs.Shading.{cells_between}
use Rattle.line.proofs.cells.draw_cells.Goals as goal

pub returns : goal.returns
returns c =
    let a = c.args in
    cells_between (λ s. get_or a.shades.now s 0) _ a.px a.x0 a.symbols.now a.line.now c.fill_cells.new.line c.fill.new.bytes c.fill-2.new.bytes (search rules) (omega arith)
    c.fill_cells.ensures (search rules) (search rules)
