-- The runs of a side, passed one at a time from the head outwards: `drop i lengths` are those passed, and run i - 1 is the next.
use Rattle.std.proofs.Common.{◌≡◌, ℕ, ◌+◌, ◌-◌, ◌<◌, ◌≤◌, List, length, get_or, drop, arith}
use Rattle.tape.specs.Tape.{cells}
use Rattle.tape.specs.Checks.{total}
use Rattle.tape.proofs.Runs.{total_back, total_part, covered}

-- a run of n cells of one symbol, behind those that are passed
pub record Run (symbols lengths : List ℕ) (passed symbol n : ℕ) : Type 0 where
  pub covers : (d : ℕ) → passed ≤ d → d < passed + n → get_or (cells symbols lengths) d 0 ≡ symbol
  pub among : passed + n ≤ total lengths

pub next_run : (symbols lengths : List ℕ) (passed i : ℕ) → length symbols ≡ length lengths → passed ≡ total (drop i lengths) → 0 < i → i ≤ length lengths
    → Run symbols lengths passed (get_or symbols (i - 1) 0) (get_or lengths (i - 1) 0)
next_run symbols lengths passed i paired is p h =
    let more = total_back lengths i p h in record {
      covers = λ d l u. covered symbols lengths i d paired p h (omega arith) (omega arith);
      among = omega (arith, total_part lengths (i - 1));
    }
