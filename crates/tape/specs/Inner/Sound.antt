-- A tape that passed its checks.
use Rattle.std.specs.Prelude.{ℕ, ◌<◌}
use Rattle.tape.specs.Tape.{Tape, symbol_at}
use Rattle.tape.specs.Inner.Checks.{Readable}

-- a tape and the count of its alphabet
pub record Checked : Type 0 where
  pub tape : Tape
  pub count : ℕ

abbrev pub checked : Tape → ℕ → Checked
checked tape count = record { tape = tape; count = count }

-- its runs can be read, and each symbol is below the count
pub record IsSound (t : Checked) : Type 0 where
  pub readable : Readable t.tape
  pub below : (p : ℕ) → symbol_at t.tape p < t.count
