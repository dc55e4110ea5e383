-- What can be read back from a page (RULES, Page): its lines, the step of each, and of each pixel whether it is paper, swept paper, the head or a mark.
use Rattle.std.specs.Prelude.{ℕ, zero, suc, ◌+◌, ◌-◌, ◌*◌, ◌^◌, ◌≤◌, ◌<◌, max, ◌≡◌, ◌↔◌, List, eqb, length, get_or}
use Rattle.grid.specs.declared.Grid.{Grid}
use Rattle.grid.specs.Soundness.{step_of}
use Rattle.page.specs.Page.{character_of, step_character, first_line, page_of}

-- the number that the first n characters of a text stand for in decimal: digits from the character 48 on, and nothing for a space
unfoldable pub number_of : (ℕ → ℕ) → ℕ → ℕ
number_of text zero = 0
number_of text (suc n) = 10 * number_of text n + (text n - 48)

-- a number below 10^20 is read back from its 20 characters
abbrev pub StepRead : Type 0
StepRead = (step : ℕ) → step < 10 ^ 20 → number_of (step_character step) 20 ≡ step

-- a number of n digits, 0 being of one
abbrev pub HasDigits : ℕ → ℕ → Type 0
HasDigits number n = (1 ≤ n) × (10 ^ (n - 1) ≤ max 1 number) × (number < 10 ^ n)

-- a step of n digits stands on the last n of the 20 places, behind spaces
abbrev pub RightAligned : Type 0
RightAligned = (step n k : ℕ) → HasDigits step n → k < 20
    → (k + n < 20 → step_character step k ≡ 32) × (20 ≤ k + n → (48 ≤ step_character step k) × (step_character step k ≤ 57))

-- character k of the page's line of a row
abbrev pub character_at : List ℕ → ℕ → ℕ → ℕ
character_at page row k = get_or page (81 * row + k) 0

-- the page has a line of 81 bytes for each drawn row, with a line feed at its end and nowhere else
abbrev pub Lines : Type 0
Lines = (g : Grid) (index : List ℕ) → g.width ≤ 59 → (length (page_of g index) ≡ 81 * g.progress.done)
    × ((row k : ℕ) → row < g.progress.done → k < 81 → (character_at (page_of g index) row k ≡ 10) ↔ (k ≡ 80))

-- a character is `.` for paper alone, `-` for swept paper alone and `@` for the head alone
abbrev pub PixelRead : Type 0
PixelRead = (i : ℕ) → (eqb (character_of i) 46 ≡ eqb i 0) × (eqb (character_of i) 45 ≡ eqb i 254) × (eqb (character_of i) 64 ≡ eqb i 255)

-- two index bytes are both paper or neither, both swept or neither, both a head or neither
abbrev pub Alike : ℕ → ℕ → Type 0
Alike i j = (eqb i 0 ≡ eqb j 0) × (eqb i 254 ≡ eqb j 254) × (eqb i 255 ≡ eqb j 255)

-- pages that are the same, of pictures of one width with as many rows drawn, have the same steps, paper, swept paper and heads
abbrev pub Tells : Type 0
Tells = (g h : Grid) (a b : List ℕ) → g.width ≡ h.width → g.progress.done ≡ h.progress.done → g.width ≤ 59
    → g.last < 10 ^ 20 → h.last < 10 ^ 20 → page_of g a ≡ page_of h b
    → (row : ℕ) → row < g.progress.done
    → (step_of g row ≡ step_of h row) × ((x : ℕ) → x < g.width → Alike (first_line g a row x) (first_line h b row x))
