-- A tape and the symbol at each of its positions (RULES, Tape). Positions are in the offset form.
use Rattle.std.specs.Prelude.{ℕ, suc, ◌+◌, ◌-◌, cond, List, [], ◌∷◌, ◌++◌, ltb, ℤ, get_or, replicate}
use Rattle.position.specs.Position.{offset_of}
use Rattle.slices.specs.Tabulate.{tabulate}
use Rattle.tape.specs.declared.Head.{Head}

-- the runs of a side: symbols and lengths, nearest the head last
pub record Side : Type 0 where
  pub symbols : List ℕ
  pub lengths : List ℕ

-- the head's position, the symbol under it, left runs and right runs
pub record Tape : Type 0 where
  pub head : ℕ
  pub cur : ℕ
  pub left : Side
  pub right : Side

abbrev pub side_of : List ℕ → List ℕ → Side
side_of symbols lengths = record { symbols = symbols; lengths = lengths }

-- the head at a position as a public call is handed it
abbrev pub head_from : ℤ → ℕ → Head
head_from position symbol = record { position = offset_of position; symbol = symbol }

-- a tape by its parts, left symbols and lengths, then right ones
abbrev pub tape_at : Head → List ℕ → List ℕ → List ℕ → List ℕ → Tape
tape_at head ls ll rs rl = record { head = head.position; cur = head.symbol; left = side_of ls ll; right = side_of rs rl }

-- the same, its head as a public call is handed it
abbrev pub tape_of : ℤ → ℕ → List ℕ → List ℕ → List ℕ → List ℕ → Tape
tape_of position symbol = tape_at (head_from position symbol)

-- the cells of runs, nearest the head first
unfoldable pub cells : List ℕ → List ℕ → List ℕ
cells [] lengths = []
cells (symbol ∷ symbols) [] = []
cells (symbol ∷ symbols) (n ∷ lengths) = cells symbols lengths ++ replicate n symbol

-- the symbol of a side's cell, the head's neighbour being cell 0; outside all runs is blank
abbrev pub cell_of : Side → ℕ → ℕ
cell_of side d = get_or (cells side.symbols side.lengths) d 0

-- the symbol at a position
unfoldable pub symbol_at : Tape → ℕ → ℕ
symbol_at t p =
    cond (ltb p t.head) (cell_of t.left (t.head - suc p))
    (cond (ltb t.head p) (cell_of t.right (p - suc t.head)) t.cur)

-- the symbols at n positions from `from` on
abbrev pub symbols_from : Tape → ℕ → ℕ → List ℕ
symbols_from t from n = tabulate (λ k. symbol_at t (from + k)) n
