-- The runs of a side as one list, and the joined side as the contracts cite it. That it is the one joined side with the side's symbols is
-- `Joins` in specs/Joining.antt, so nothing here has to be believed.
use Rattle.std.specs.Prelude.{ℕ, zero, suc, ◌+◌, cond, List, [], ◌∷◌, ◌++◌, eqb, length, get_or}
use Rattle.tape.specs.Tape.{Side, side_of}

pub record Run : Type 0 where
  pub symbol : ℕ
  pub cells : ℕ

abbrev pub run : ℕ → ℕ → Run
run symbol cells = record { symbol = symbol; cells = cells }

-- the first i runs of two slices, nearest the head first
unfoldable pub runs_of : List ℕ → List ℕ → ℕ → List Run
runs_of symbols lengths zero = []
runs_of symbols lengths (suc i) = run (get_or symbols i 0) (get_or lengths i 0) ∷ runs_of symbols lengths i

abbrev pub runs_in : Side → List Run
runs_in side = runs_of side.symbols side.lengths (length side.lengths)

-- a number of each run, nearest the head last
unfoldable pub listed : (Run → ℕ) → List Run → List ℕ
listed number [] = []
listed number (r ∷ runs) = listed number runs ++ (number r ∷ [])

abbrev pub symbol_of : Run → ℕ
symbol_of r = r.symbol

abbrev pub cells_of : Run → ℕ
cells_of r = r.cells

-- the side that has these runs
abbrev pub side_with : List Run → Side
side_with runs = side_of (listed symbol_of runs) (listed cells_of runs)

-- the symbol of the nearest run; where there is none lies blank
abbrev pub nearest_of : List Run → ℕ
nearest_of [] = 0
nearest_of (r ∷ runs) = r.symbol

-- the nearest run longer by some cells; the blank beyond all runs has no run
abbrev pub longer : ℕ → List Run → List Run
longer n [] = []
longer n (r ∷ runs) = run r.symbol (r.cells + n) ∷ runs

-- a run put before joined ones: one of the symbol that lies there makes that run longer
unfoldable pub pushed : Run → List Run → List Run
pushed r runs = cond (eqb r.symbol (nearest_of runs)) (longer r.cells runs) (r ∷ runs)

unfoldable pub joined_of : List Run → List Run
joined_of [] = []
joined_of (r ∷ runs) = pushed r (joined_of runs)

abbrev pub joined_side : Side → Side
joined_side side = side_with (joined_of (runs_in side))
