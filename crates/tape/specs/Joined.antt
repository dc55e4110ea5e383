-- When the runs of a side, and of a tape, are joined (RULES, Joining).
use Rattle.std.specs.Prelude.{ℕ, Bool, true, not, ◌&&◌, List, [], ◌∷◌, eqb}
use Rattle.tape.specs.Tape.{Side, Tape}

-- each symbol is another than the one before it, the first another than `beyond`
unfoldable pub differing : ℕ → List ℕ → Bool
differing beyond [] = true
differing beyond (symbol ∷ symbols) = not (eqb symbol beyond) && differing symbol symbols

-- no two neighbours have one symbol and the outermost run is not blank: each run's symbol is another than what lies beyond it, and beyond the
-- outermost lies blank
abbrev pub side_joined : Side → Bool
side_joined side = differing 0 side.symbols

-- 19
abbrev pub tape_joined : Tape → Bool
tape_joined t = side_joined t.left && side_joined t.right
