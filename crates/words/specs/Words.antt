-- A record as words, as the interface takes and gives it.
use Rattle.std.specs.Prelude.{ℕ, Bool, true, false, ◌&&◌, cond, List, [], ◌∷◌, ◌++◌, leb, eqb, get_or, Result, Ok, Err}
use Rattle.columns.specs.declared.Columns.{Columns}
use Rattle.columns.specs.declared.Columns.TheVariants.{Cells, Bins}
use Rattle.grid.specs.declared.Grid.{Grid}
use Rattle.grid.specs.Soundness.{rows_done, grid_by}
use Rattle.refusal.specs.declared.Refusal.{Refusal}

abbrev pub bit : Bool → ℕ
bit true = 1
bit false = 0

-- words 4 to 8: cells or bins, first, count or cells, p, left margin
abbrev pub column_words : Columns → List ℕ
column_words (Cells first count px x0) = 0 ∷ first ∷ count ∷ px ∷ x0 ∷ []
column_words (Bins first cells width) = 1 ∷ first ∷ cells ∷ 0 ∷ 0 ∷ []

abbrev pub words_of : Grid → List ℕ
words_of g =
    g.width ∷ g.height ∷ g.symbols ∷ bit g.exact
    ∷ (column_words g.columns
    ++ (g.row_px ∷ g.rows ∷ g.first ∷ g.stride ∷ g.last ∷ g.progress.done ∷ g.progress.left ∷ g.progress.right ∷ []))

-- the columns of words
abbrev pub columns_at : List ℕ → Columns
columns_at ws =
    cond (eqb (get_or ws 4 0) 0)
    (Cells (get_or ws 5 0) (get_or ws 6 0) (get_or ws 7 0) (get_or ws 8 0))
    (Bins (get_or ws 5 0) (get_or ws 6 0) (get_or ws 0 0))

-- words that stand for a record: words 3 and 4 are 0 or 1, and in bins words 7 and 8 are 0
abbrev pub words_stand : List ℕ → Bool
words_stand ws =
    (leb (get_or ws 3 0) 1 && leb (get_or ws 4 0) 1)
    && cond (eqb (get_or ws 4 0) 0) true (eqb (get_or ws 7 0) 0 && eqb (get_or ws 8 0) 0)

-- the width of a record, 0, which no sound one has, where the words stand for none
abbrev pub width_at : List ℕ → ℕ
width_at ws = cond (words_stand ws) (get_or ws 0 0) 0

unfoldable pub grid_of : List ℕ → Grid
grid_of ws =
    grid_by (width_at ws) (get_or ws 1 0) (get_or ws 2 0) (eqb (get_or ws 3 0) 1) (columns_at ws)
    (get_or ws 9 0) (get_or ws 10 0) (get_or ws 11 0) (get_or ws 12 0) (get_or ws 13 0)
    (rows_done (get_or ws 14 0) (get_or ws 15 0) (get_or ws 16 0))

-- the words after a fit: the fitted grid's, or what they were
abbrev pub fit_words : Result Grid Refusal → List ℕ → List ℕ
fit_words (Ok g) old = words_of g
fit_words (Err refusal) old = old
