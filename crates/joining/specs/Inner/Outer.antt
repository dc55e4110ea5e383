-- The blank runs at the outer end of a side, for the contract of the function that counts them.
use Rattle.std.specs.Prelude.{ℕ, ◌≤◌, ◌<◌, ◌≡◌, List, length, get_or}

-- the first n symbols are blank, and the next one is not
pub record OuterBlanks (symbols : List ℕ) (n : ℕ) : Type 0 where
  pub most : n ≤ length symbols
  pub blank : (k : ℕ) → k < n → get_or symbols k 0 ≡ 0
  pub written : n < length symbols → get_or symbols n 0 ≡ 0 → ⊥
