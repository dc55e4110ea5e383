-- Elements of a list that were found, and are altered.
use Rattle.std.specs.Prelude.{ℕ, ◌≤◌, ◌<◌, cond, List, length, get_or, Option, Some, None}
use Rattle.slices.specs.Tabulate.{tabulate}
use Rattle.columns.specs.declared.Pair.{Pair}
use Rattle.columns.specs.Found.{among}

-- each element whose index was found altered, by what it was
unfoldable pub altered_on : (ℕ → ℕ) → Option Pair → List ℕ → List ℕ
altered_on f found xs = tabulate (λ k. cond (among found k) (f (get_or xs k 0)) (get_or xs k 0)) (length xs)

-- what was found are indices of a list of n elements, in order
abbrev pub Within : Option Pair → ℕ → Type 0
Within None n = Unit
Within (Some p) n = (p.low ≤ p.high) × (p.high < n)
