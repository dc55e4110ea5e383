-- Lists that are filled in place.
use Rattle.std.specs.Prelude.{ℕ, cond, List, length, get_or}
use Rattle.slices.specs.Tabulate.{tabulate}
use Rattle.slices.specs.Filled.{within}

-- each element at the indices from..to - 1 altered, by its index and what it was
unfoldable pub altered : (ℕ → ℕ → ℕ) → ℕ → ℕ → List ℕ → List ℕ
altered f from to xs = tabulate (λ k. cond (within from to k) (f k (get_or xs k 0)) (get_or xs k 0)) (length xs)

-- one value at those indices
abbrev pub filled : ℕ → ℕ → ℕ → List ℕ → List ℕ
filled from to value = altered (λ k b. value) from to

-- as many zeros
abbrev pub cleared : List ℕ → List ℕ
cleared xs = tabulate (λ k. 0) (length xs)
