-- A picture as a page of text (RULES, Page): for each drawn row 80 characters, by their numbers in ASCII, and a line feed.
use Rattle.std.specs.Prelude.{ℕ, ◌+◌, ◌-◌, ◌*◌, ◌/◌, ◌%◌, ◌^◌, Bool, ◌||◌, cond, List, [], ◌∷◌, ltb, leb, eqb, length, get_or, Option}
use Rattle.refusal.specs.declared.Refusal.{Refusal}
use Rattle.refusal.specs.declared.Refusal.TheVariants as refusal
use Rattle.refusal.specs.Checks.{first_failed, kept_if}
use Rattle.slices.specs.Tabulate.{tabulate}
use Rattle.slices.specs.Filled.{within}
use Rattle.shade.specs.Index as byte
use Rattle.grid.specs.declared.Grid.{Grid}
use Rattle.grid.specs.Soundness.{grid_sound, step_of}
use Rattle.grid.specs.Memory.{index_fits}

-- the character of an index byte: `.` for paper, the digit (i - 1) div 16 + 1 for ink i, `-` for swept paper, `@` for the head, `4` for a spare
abbrev pub character_of : ℕ → ℕ
character_of i =
    cond (eqb i byte.background) 46
    (cond (leb i byte.ink_max) (48 + ((i - 1) / 16 + 1))
    (cond (eqb i byte.head_range) 45
    (cond (eqb i byte.head) 64
    52)))

-- character k of a step, right-aligned in 20: the digit of 10^(19 - k), and a space before the first digit
abbrev pub step_character : ℕ → ℕ → ℕ
step_character step k = cond (eqb k 19 || leb (10 ^ (19 - k)) step) (48 + step / 10 ^ (19 - k) % 10) 32

-- character k of a row's line: the step, a space, a character for each pixel, spaces, and the line feed at 80
unfoldable pub line_character : ℕ → ℕ → (ℕ → ℕ) → ℕ → ℕ
line_character step width pixel k =
    cond (ltb k 20) (step_character step k)
    (cond (within 21 (21 + width) k) (character_of (pixel (k - 21)))
    (cond (eqb k 80) 10 32))

-- pixel x of the first line of a row's band
abbrev pub first_line : Grid → List ℕ → ℕ → ℕ → ℕ
first_line g index row x = get_or index (row * g.row_px * g.width + x) 0

-- character k of the line of a row
abbrev pub row_character : Grid → List ℕ → ℕ → ℕ → ℕ
row_character g index row k = line_character (step_of g row) g.width (first_line g index row) k

-- 81 bytes for each row that is drawn
unfoldable pub page_of : Grid → List ℕ → List ℕ
page_of g index = tabulate (λ k. row_character g index (k / 81) (k % 81)) (81 * g.progress.done)

-- 15, 7, 17 and 18, by the grid and the two lengths
abbrev pub page_checks : Grid → ℕ → ℕ → List (Bool × Refusal)
page_checks g index page =
    (grid_sound g, refusal.Record) ∷ (index_fits g index, refusal.IndexLength) ∷ (leb g.width 59, refusal.PageWidth)
    ∷ (eqb page (81 * g.progress.done), refusal.PageLength) ∷ []

unfoldable pub page_refusal : Grid → ℕ → ℕ → Option Refusal
page_refusal g index page = first_failed (page_checks g index page)

-- the page, or what the output held
abbrev pub page_out : Grid → List ℕ → List ℕ → List ℕ
page_out g index page = kept_if (page_refusal g (length index) (length page)) page (page_of g index)
