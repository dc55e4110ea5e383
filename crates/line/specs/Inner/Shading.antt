-- The shades of a line as they are written, cell by cell.
use Rattle.std.specs.Prelude.{ℕ, ◌+◌, ◌-◌, ◌*◌, ◌/◌, cond, List, get_or}
use Rattle.slices.specs.Filled.{within}
use Rattle.shade.specs.Index.{background}
use Rattle.shade.specs.Shade.{symbol_shade}

-- pixel x of n cells of px pixels from x0 on, by a byte for each symbol; paper beside them
abbrev pub cell_byte : (ℕ → ℕ) → ℕ → ℕ → ℕ → List ℕ → ℕ → ℕ
cell_byte byte n px x0 symbols x = cond (within x0 (x0 + n * px) x) (byte (get_or symbols ((x - x0) / px) 0)) background

-- the same by the symbols' shades
abbrev pub cell_shade : ℕ → ℕ → ℕ → ℕ → List ℕ → ℕ → ℕ
cell_shade n px x0 alphabet symbols x = cell_byte (λ s. symbol_shade s alphabet) n px x0 symbols x
