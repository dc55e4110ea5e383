-- Tallies to which runs are added one after the other.
use Rattle.std.proofs.Common.{ℕ, ◌+◌, ◌≡◌, refl, ap, List, add-one, get_or}
use Rattle.columns.specs.Inner.Adding.{with_positions}
use Rattle.probe.specs.Across.{with_runs}

-- one run more
pub runs_next : (first c : ℕ) (low high : List ℕ) (n : ℕ) (ts old : List ℕ) → old ≡ with_runs first c low high n ts
    → with_positions first c (get_or low n 0) (get_or high n 0) old ≡ with_runs first c low high (n + 1) ts
unfolding with_runs
runs_next first c low high n ts old e = rw add-one (ap (with_positions first c (get_or low n 0) (get_or high n 0)) e)

pub runs_none : (first c : ℕ) (low high : List ℕ) (ts : List ℕ) → ts ≡ with_runs first c low high 0 ts
unfolding with_runs
runs_none first c low high ts = refl
