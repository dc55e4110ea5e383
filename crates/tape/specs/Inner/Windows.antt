-- A window that is written in parts.
use Rattle.std.specs.Prelude.{ℕ, ◌+◌, Bool, true, false, cond, List, length, get_or}
use Rattle.slices.specs.Tabulate.{tabulate}

-- the list with a symbol for each position that passes the test, place 0 being position `from`
unfoldable pub overlaid : ℕ → (ℕ → Bool) → (ℕ → ℕ) → List ℕ → List ℕ
overlaid from test symbol xs = tabulate (λ k. cond (test (from + k)) (symbol (from + k)) (get_or xs k 0)) (length xs)

-- the outermost place on a side of a window of n places
abbrev pub outermost : Bool → ℕ → ℕ
outermost true n = 0
outermost false n = n
