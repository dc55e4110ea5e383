-- Uprights: columns that stand unbroken over some rows (RULES, Clicks, whose word it is), by what each of their pixels says.
use Rattle.std.specs.Prelude.{ℕ, zero, suc, ◌+◌, ◌-◌, ◌*◌, Bool, true, false, ◌&&◌, ◌||◌, cond, List, [], ◌∷◌, ◌++◌, ltb, leb, length, get_or, Option, Some, None, Result}
use Rattle.refusal.specs.declared.Refusal.{Refusal}
use Rattle.refusal.specs.declared.Refusal.TheVariants as refusal
use Rattle.refusal.specs.Checks.{first_failed, answer_by, said}
use Rattle.colours.specs.declared.Meaning.{Meaning}
use Rattle.colours.specs.declared.Meaning.TheVariants.{Paper, Ink, Spare, Swept, Head}
use Rattle.colours.specs.Meanings.{meaning_of}
use Rattle.grid.specs.declared.Grid.{Grid}
use Rattle.grid.specs.Opening.{open_checks}
use Rattle.picture.specs.declared.clicks.Location.{Location}
use Rattle.picture.specs.declared.clicks.Location.TheVariants as location
use Rattle.picture.specs.Clicks.{clicked}
use Rattle.picture.specs.declared.uprights.Verdict.{Verdict}
use Rattle.picture.specs.declared.uprights.Verdict.TheVariants.{Yes, No, Unknown}

-- 15, 7 and 8 as at an opening, then 16, by the grid, the lengths of index and store, the column and the first and the last row
abbrev pub upright_checks : Grid → ℕ → ℕ → ℕ → ℕ → ℕ → List (Bool × Refusal)
upright_checks g index store column a b =
    open_checks g index store ++ ((ltb column g.width && (leb a b && ltb b g.progress.done), refusal.Upright) ∷ [])

unfoldable pub upright_refusal : Grid → ℕ → ℕ → ℕ → ℕ → ℕ → Option Refusal
upright_refusal g index store column a b = first_failed (upright_checks g index store column a b)

-- a stored symbol says yes exactly if it is written
abbrev pub symbol_says : ℕ → Verdict
symbol_says symbol = cond (ltb 0 symbol) Yes No

-- a head says, by what a click on it finds: in cells what the symbol stored for its cell says, in a margin no; in bins unknown
abbrev pub head_says : Option Location → Verdict
head_says (Some (location.Cell step position symbol)) = symbol_says symbol
head_says (Some (location.Bin step from to)) = Unknown
head_says None = No

-- ink says yes; paper, spare and swept say no; a head what is given for it
abbrev pub meaning_says : Meaning → Verdict → Verdict
meaning_says Paper head = No
meaning_says (Ink share) head = Yes
meaning_says Spare head = No
meaning_says (Swept tint) head = No
meaning_says Head head = head

-- what pixel (x, y) says
abbrev pub pixel_says : Grid → List ℕ → List ℕ → ℕ → ℕ → Verdict
pixel_says g index store x y = meaning_says (meaning_of (get_or index (y * g.width + x) 0)) (head_says (clicked g store x y))

abbrev pub says_no : Verdict → Bool
says_no Yes = false
says_no No = true
says_no Unknown = false

abbrev pub says_unknown : Verdict → Bool
says_unknown Yes = false
says_unknown No = false
says_unknown Unknown = true

-- one of 0, 1, .., n - 1 passes a test
unfoldable pub any_to : ℕ → (ℕ → Bool) → Bool
any_to zero test = false
any_to (suc n) test = any_to n test || test n

-- what n pixels say together: no if any of them says no, else unknown if any does, else yes
abbrev pub together : ℕ → (ℕ → Verdict) → Verdict
together n says = cond (any_to n (λ k. says_no (says k))) No (cond (any_to n (λ k. says_unknown (says k))) Unknown Yes)

-- what the pixels of a column say together on the lines of the rows a..b
unfoldable pub column_says : Grid → List ℕ → List ℕ → ℕ → ℕ → ℕ → Verdict
column_says g index store column a b = together ((b + 1 - a) * g.row_px) (λ k. pixel_says g index store column (a * g.row_px + k))

unfoldable pub upright_call : Grid → List ℕ → List ℕ → ℕ → ℕ → ℕ → Result Verdict Refusal
upright_call g index store column a b =
    answer_by (upright_refusal g (length index) (length store) column a b) (column_says g index store column a b)

-- 1 for yes, 0 for no, 2 for unknown
abbrev pub number_of : Verdict → ℕ
number_of Yes = 1
number_of No = 0
number_of Unknown = 2

-- the number and the value that an answer stands for
abbrev pub upright_said : Result Verdict Refusal → ℕ × List ℕ
upright_said = said [] (λ says. number_of says ∷ [])
