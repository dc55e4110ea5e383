-- The positions that are added to tallies, a part of the tape at a time.
use Rattle.std.specs.Prelude.{ℕ, min, max, Bool, ◌&&◌, ltb}
use Rattle.slices.specs.Filled.{within}
use Rattle.tape.specs.Inner.Sides.{edge}

-- a position is one of from..to - 1, and its symbol is written
abbrev pub written_within : ℕ → ℕ → (ℕ → ℕ) → ℕ → Bool
written_within from to symbol p = within from to p && ltb 0 (symbol p)

-- a position is one of a side's first n cells, and its symbol is written
abbrev pub written_side : Bool → ℕ → ℕ → (ℕ → ℕ) → ℕ → Bool
written_side leftward head n = written_within (min (edge leftward head 0) (edge leftward head n)) (max (edge leftward head 0) (edge leftward head n))
