-- What the probes on columns answer and write: in their domain what the function says, outside it 255 and nothing.
use Rattle.std.specs.Prelude.{ℕ, zero, suc, ◌-◌, ◌^◌, Bool, true, false, ◌&&◌, cond, List, [], ◌∷◌, eqb, leb, length, get_or, Option, Some, None}
use Rattle.limits.specs.Limits.{max_side, max_cells, is_within}
use Rattle.slices.specs.Inner.Filled.{cleared}
use Rattle.columns.specs.declared.Columns.{Columns}
use Rattle.columns.specs.declared.Columns.TheVariants.{Cells, Bins}
use Rattle.columns.specs.declared.Pair.{Pair}
use Rattle.columns.specs.Window.{sound_in}
use Rattle.columns.specs.Pixels.{located, head_at}
use Rattle.columns.specs.Inner.Swept.{swept_at}
use Rattle.columns.specs.Inner.Adding.{with_positions}
use Rattle.probe.specs.Probes.{outside}

-- columns by their five numbers
abbrev pub columns_of : Bool → ℕ → ℕ → ℕ → ℕ → Columns
columns_of true first cells size x0 = Bins first cells size
columns_of false first cells size x0 = Cells first cells size x0

-- columns are sound in a picture of a width that is taken
abbrev pub usable_in : ℕ → Columns → Bool
usable_in width columns = is_within 1 max_side width && sound_in width columns

-- what a question about columns finds
abbrev pub asked : ℕ → ℕ → ℕ → Columns → Option Pair
asked question a b columns = cond (eqb question 0) (located columns a) (cond (eqb question 1) (head_at columns a) (swept_at columns a b))

abbrev pub number_of : Option Pair → ℕ
number_of (Some p) = 0
number_of None = 1

abbrev pub written_of : Option Pair → List ℕ → List ℕ
written_of (Some p) old = p.low ∷ p.high ∷ []
written_of None old = old

-- the number that a question about columns answers
abbrev pub answer_of : ℕ → Columns → Option Pair → ℕ
answer_of width columns found = cond (usable_in width columns) (number_of found) outside

-- what it leaves in the lent pair
abbrev pub found_after : ℕ → Columns → Option Pair → List ℕ → List ℕ
found_after width columns found old = cond (usable_in width columns) (written_of found old) old

-- tallies to which the first n runs of positions were added
unfoldable pub with_runs : ℕ → ℕ → List ℕ → List ℕ → ℕ → List ℕ → List ℕ
with_runs first c low high zero ts = ts
with_runs first c low high (suc n) ts = with_positions first c (get_or low n 0) (get_or high n 0) (with_runs first c low high n ts)

-- the most runs that the tallies are asked about at once
abbrev pub most_runs : ℕ
most_runs = 4096

-- the tallies of so many bins may be asked
abbrev pub runs_taken : ℕ → ℕ → ℕ → ℕ → ℕ → Bool
runs_taken bins first c lows highs =
    ((leb bins max_side && is_within 1 max_cells c) && leb first (2 ^ 64 - 1 - c)) && (leb lows most_runs && eqb lows highs)

abbrev pub tallies_answer : ℕ → ℕ → ℕ → ℕ → ℕ → ℕ
tallies_answer bins first c lows highs = cond (runs_taken bins first c lows highs) 0 outside

abbrev pub tallies_after : ℕ → ℕ → List ℕ → List ℕ → List ℕ → List ℕ
tallies_after first c low high ts =
    cond (runs_taken (length ts) first c (length low) (length high)) (with_runs first c low high (length low) (cleared ts)) ts
