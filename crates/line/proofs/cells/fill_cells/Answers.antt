-- `line::cells::fill_cells` meets its contract: a cell more is set.
use Rattle.std.proofs.Common.{◌≡◌, ◌+◌, ◌*◌, ◌≤◌, length, get_or, refl, ap, ◌∙◌, arith, rules, one-mul, add-mul, mul-le-mul_right}
use Rattle.line.proofs.Shading.{cell_next}
use Rattle.line.proofs.cells.fill_cells.Goals as goal

pub loop-symbol-preserved : goal.loop-symbol-preserved
loop-symbol-preserved c =
    let l = c.loop-symbol in
    let a = c.args in
    let next : (l.symbol-index + 1) * a.px ≡ l.symbol-index * a.px + a.px = rw (add-mul, one-mul) refl in
    let most : (l.symbol-index + 1) * a.px ≤ length a.symbols.now * a.px = mul-le-mul_right a.px (omega arith) in
    record {
      at = omega (arith, l.invariant.at, next);
      done = cell_next (λ s. get_or a.shades.now s 0) (length a.symbols.now) a.px a.x0 a.symbols.now l.symbol-index l.x l.line c.fill_cell.new.pixels (omega arith) l.invariant.at
          (omega (arith, l.invariant.at, most, next)) (search rules) l.invariant.done (λ k h. c.fill_cell.ensures k h ∙ ap (λ s. get_or a.shades.now s 0) c.from.ensures);
    }
