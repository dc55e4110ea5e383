-- `line::cells::shade_cells` meets its contract: the table has each symbol's shade.
use Rattle.std.proofs.Common.{ap, length, get_or, ◌∙◌, arith, rules}
use Rattle.shade.specs.Shade.{symbol_shade}
use Rattle.slices.proofs.Altered.{altered_inside}
use Rattle.line.proofs.Shading.{table_shades}
use Rattle.line.proofs.cells.shade_cells.Goals as goal

pub returns : goal.returns
returns c =
    let a = c.args in
    c.draw_cells.ensures
    ∙ table_shades _ a.px a.x0 a.alphabet (length a.line.now) a.symbols.now _ a.line.now
    (λ s h. ap (λ ys. get_or ys s 0) c.shade_symbols.ensures ∙ altered_inside (λ s b. symbol_shade s a.alphabet) 0 a.alphabet _ s (omega arith) h (search rules))
    c.requires.3
