-- `line::cells::fill_cells` meets its contract: at each turn the pixels of the cells before the one at hand are as they will be.
use Rattle.std.proofs.Common.{◌≡◌, ℕ, ◌+◌, ◌*◌, ◌≤◌, ◌<◌, length, get_or}
use Rattle.line.specs.Inner.Shading.{cell_byte}
use Rattle.line.proofs.cells.fill_cells.Given as goal

abbrev pub invariant-loop-symbol : goal.invariant-loop-symbol
invariant-loop-symbol l = record {
  at : l.x ≡ l.x0 + l.symbol-index * l.px;
  done : (k : ℕ) → l.x0 ≤ k → k < l.x → get_or l.line k 0 ≡ cell_byte (λ s. get_or l.fn.shades s 0) (length l.fn.symbols) l.px l.x0 l.fn.symbols k;
}
