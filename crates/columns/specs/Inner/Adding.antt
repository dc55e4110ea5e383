-- Tallies to which cells are added.
use Rattle.std.specs.Prelude.{ℕ, ◌+◌, ◌*◌, ◌^◌, ◌≤◌, ◌<◌, Bool, List, length, get_or, Some}
use Rattle.limits.specs.Limits.{max_side, max_cells}
use Rattle.columns.specs.Found.{pair, among}
use Rattle.slices.specs.Tabulate.{tabulate}
use Rattle.columns.specs.Bins.{shared, tally}

-- the overlap of the cells lo..hi and bin v
abbrev pub cells_overlap : ℕ → ℕ → ℕ → ℕ → ℕ → ℕ
cells_overlap w c lo hi v = shared (lo * w) (hi * w + w) (v * c) (v * c + c)

-- tallies to which the cells lo..hi were added: each bin has gained its overlap with them
unfoldable pub with_cells : ℕ → ℕ → ℕ → List ℕ → List ℕ
with_cells c lo hi ts = tabulate (λ v. get_or ts v 0 + cells_overlap (length ts) c lo hi v) (length ts)

-- tallies to which those cells of the window from first were added whose positions pass the test
unfoldable pub added : ℕ → ℕ → (ℕ → Bool) → List ℕ → List ℕ
added first c test ts = tabulate (λ v. get_or ts v 0 + tally (length ts) c (λ k. test (first + k)) v) (length ts)

-- and those that lie in the positions low..high
abbrev pub with_positions : ℕ → ℕ → ℕ → ℕ → List ℕ → List ℕ
with_positions first c low high = added first c (among (Some (pair low high)))

-- what adding to tallies leans on: bins and cells within the limits, positions that fit, and no tally above what leaves room
abbrev pub Takes : ℕ → ℕ → ℕ → List ℕ → Type 0
Takes first c room ts = (length ts ≤ max_side) × (0 < c) × (c ≤ max_cells) × (first + c < 2 ^ 64) × ((v : ℕ) → get_or ts v 0 < room)
