-- The tape that two slices of runs stand for (RULES, Tape), and the slices that they are taken apart into.
use Rattle.std.specs.Prelude.{ℕ, ◌+◌, Bool, ◌&&◌, cond, List, [], ◌∷◌, ◌++◌, map, eqb, ℤ, length, take, drop}
use Rattle.position.specs.Position.{offset_of}
use Rattle.tape.specs.Tape.{Side, Tape, side_of, tape_of}
use Rattle.runs.specs.declared.Run.{Run}
use Rattle.runs.specs.declared.RunTape.{RunTape}

abbrev pub symbol_of : Run → ℕ
symbol_of r = r.symbol

abbrev pub length_of : Run → ℕ
length_of r = r.length

-- what the lent slices hold in the end: one place a run, the left runs first
abbrev pub symbols_of : List Run → List Run → List ℕ
symbols_of left right = map symbol_of left ++ map symbol_of right

abbrev pub lengths_of : List Run → List Run → List ℕ
lengths_of left right = map length_of left ++ map length_of right

-- whether lent slices of these lengths have one place for each of the left and right runs
abbrev pub one_place_each : ℕ → ℕ → ℕ → ℕ → Bool
one_place_each left right symbols lengths = eqb symbols (left + right) && eqb lengths (left + right)

-- a side whose two lists differ in length, which no call takes
abbrev pub unpaired : Side
unpaired = side_of [] (0 ∷ [])

-- the side that runs stand for, where the lent slices have one place a run or not
abbrev pub side_of_runs : Bool → List Run → Side
side_of_runs fits runs = cond fits (side_of (map symbol_of runs) (map length_of runs)) unpaired

-- a tape by its head's offset, the symbol under it, left runs and right runs, and the lengths of the lent slices
abbrev pub tape_at_runs : ℕ → ℕ → List Run → List Run → ℕ → ℕ → Tape
tape_at_runs head cur left right symbols lengths =
    let fits : Bool = one_place_each (length left) (length right) symbols lengths in
    record { head = head; cur = cur; left = side_of_runs fits left; right = side_of_runs fits right }

-- the same, its head an integer, as a public call is handed it
abbrev pub tape_of_runs : ℤ → ℕ → List Run → List Run → ℕ → ℕ → Tape
tape_of_runs head = tape_at_runs (offset_of head)

-- the same, of a tape of runs
abbrev pub tape_in : RunTape → ℕ → ℕ → Tape
tape_in t = tape_of_runs t.head t.cur t.left.now t.right.now

-- the tape of two slices whose first n places are the left runs'
abbrev pub tape_split : ℤ → ℕ → ℕ → List ℕ → List ℕ → Tape
tape_split head cur n symbols lengths = tape_of head cur (take n symbols) (take n lengths) (drop n symbols) (drop n lengths)
