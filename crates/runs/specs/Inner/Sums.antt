-- What the checks of a tape need of a side's runs.
use Rattle.std.specs.Prelude.{ℕ, min, Bool, ◌&&◌, List, map, ltb, ℤ}
use Rattle.std.specs.List.{list_all}
use Rattle.position.specs.Position.{offset_of, in_reach}
use Rattle.tape.specs.Checks.{total}
use Rattle.tape.specs.Joined.{differing}
use Rattle.runs.specs.declared.checking.Said.{Said}
use Rattle.runs.specs.declared.checking.Sum.{Sum}
use Rattle.runs.specs.Runs.{symbol_of, length_of}
use Rattle.runs.specs.declared.Run.{Run}

-- no run is empty and each symbol is below the alphabet's count
abbrev pub sound_runs : ℕ → List Run → Bool
sound_runs count runs = list_all (ltb 0) (map length_of runs) && list_all (λ s. ltb s count) (map symbol_of runs)

-- what the checks need of a side's runs, its cells held to what a u64 has
abbrev pub sum_of : ℕ → List Run → Sum
sum_of count runs = record { sound = sound_runs count runs; joined = differing 0 (map symbol_of runs); cells = min (total (map length_of runs)) 0xffff_ffff_ffff_ffff }

-- 11, 19 and 12 by the sums, where the lent slices have one place a run or not
abbrev pub said_by_sums : ℕ → ℤ → ℕ → Bool → Sum → Sum → Said
said_by_sums count head cur fits left right = record {
  sound = ltb cur count && fits && left.sound && right.sound;
  joined = left.joined && right.joined;
  reach = in_reach (offset_of head) left.cells right.cells;
}
