-- One side of a tape, and the positions of its cells, left or right of the head, the head's neighbour being cell 0.
use Rattle.std.specs.Prelude.{ℕ, suc, ◌+◌, ◌-◌, ◌^◌, ◌≤◌, ◌<◌, ◌≡◌, Bool, true, false, List, length, ltb}
use Rattle.tape.specs.Tape.{Side, side_of, cell_of}
use Rattle.tape.specs.Checks.{total}

-- p is on the side
abbrev pub on_side : Bool → ℕ → ℕ → Bool
on_side true head p = ltb p head
on_side false head p = ltb head p

-- which cell of its side p is
abbrev pub cell_at : Bool → ℕ → ℕ → ℕ
cell_at true head p = head - suc p
cell_at false head p = p - suc head

-- the edge between a side's first n cells and those further out: the first cells' lowest position, or the one above their highest
abbrev pub edge : Bool → ℕ → ℕ → ℕ
edge true head n = head - n
edge false head n = head + 1 + n

-- the positions of a side's first n cells are numbers that fit
abbrev pub SideFits : Bool → ℕ → ℕ → Type 0
SideFits true head n = n ≤ head
SideFits false head n = head + n + 1 < 2 ^ 64

-- one side of a tape: whether it is the left one, the head's position, and its runs
pub record OneSide : Type 0 where
  pub leftward : Bool
  pub head : ℕ
  pub runs : Side

abbrev pub one_side : Bool → ℕ → Side → OneSide
one_side leftward head runs = record { leftward = leftward; head = head; runs = runs }

-- what is left of the checks for whoever walks a side of a tape that passed them; the cells are a number that fits, and so are those passed so far
pub record ReadableSide (s : OneSide) : Type 0 where
  pub paired : length s.runs.symbols ≡ length s.runs.lengths
  pub fits : SideFits s.leftward s.head (total s.runs.lengths)
  pub number : total s.runs.lengths < 2 ^ 64

-- the symbol at a position of the side
abbrev pub side_symbol : Bool → ℕ → List ℕ → List ℕ → ℕ → ℕ
side_symbol leftward head symbols lengths p = cell_of (side_of symbols lengths) (cell_at leftward head p)
