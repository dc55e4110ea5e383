-- Positions that are counted, a part of the tape at a time.
use Rattle.std.specs.Prelude.{ℕ, ◌+◌, ◌-◌, Bool}
use Rattle.columns.specs.Bins.{written_in}

-- how many of the positions from..to - 1 pass a test
unfoldable pub counted : ℕ → ℕ → (ℕ → Bool) → ℕ
counted from to test = written_in (to - from) (λ k. test (from + k))
