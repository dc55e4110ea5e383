-- What the answer about an upright means, after every list of row calls (RULES, Clicks): a claim beside `Demand3`, over the same calls.
-- proofs/UprightMeaning.antt shows it.
use Rattle.std.specs.Prelude.{ℕ, ◌≤◌, ◌<◌, ◌≡◌, true, false, List, ◌↔◌, Some, Result, Ok}
use Rattle.refusal.specs.declared.Refusal.{Refusal}
use Rattle.columns.specs.declared.Columns.TheVariants.{Cells, Bins}
use Rattle.columns.specs.Found.{pair, among}
use Rattle.columns.specs.Pixels.{located, head_at}
use Rattle.grid.specs.declared.Grid.{Grid}
use Rattle.grid.specs.Opening.{open_input, open_call}
use Rattle.line.specs.Line.{written}
use Rattle.rows.specs.RowCall.{RowInput}
use Rattle.picture.specs.declared.uprights.Verdict.{Verdict}
use Rattle.picture.specs.declared.uprights.Verdict.TheVariants.{Yes, No, Unknown}
use Rattle.picture.specs.Upright.{upright_call}
use Rattle.picture.specs.Calls.{Order, fit, State, opened, after, Allowed}
use Rattle.picture.specs.Plain.{Plain, plain_of, plain_after}

-- whether column x is upright over the rows a..b
abbrev pub ask : State → ℕ → ℕ → ℕ → Result Verdict Refusal
ask s x a b = upright_call s.grid s.index s.store x a b

-- a column of the picture, and drawn rows
abbrev pub Asks : Plain → ℕ → ℕ → ℕ → Type 0
Asks q x a b = (x < q.grid.width) × (a ≤ b) × (b < q.n)

-- in row i a cell that column x locates to is written
abbrev pub SomeWritten : Plain → ℕ → ℕ → Type 0
SomeWritten q x i = (k : ℕ) × (among (located q.grid.columns x) k ≡ true) × (written (q.tapes i) k ≡ true)

-- in row i none is
abbrev pub NoneWritten : Plain → ℕ → ℕ → Type 0
NoneWritten q x i = (k : ℕ) → among (located q.grid.columns x) k ≡ true → written (q.tapes i) k ≡ false

-- in row i the head is not drawn on column x
abbrev pub HeadElsewhere : Plain → ℕ → ℕ → Type 0
HeadElsewhere q x i = among (head_at q.grid.columns (q.tapes i).head) x ≡ false

pub record Uprights (q : Plain) (s : State) : Type 0 where
  -- such a question is answered
  pub answered : (x a b : ℕ) → Asks q x a b → (says : Verdict) × (ask s x a b ≡ Ok says)
  -- in cells yes exactly if the column is a cell's, and that cell is written on the tape of every row; else no
  pub yes_in_cells : (first count px x0 : ℕ) → q.grid.columns ≡ Cells first count px x0 → (x a b : ℕ) → Asks q x a b
      → (ask s x a b ≡ Ok Yes) ↔ ((k : ℕ) × (located q.grid.columns x ≡ Some (pair k k)) × ((i : ℕ) → a ≤ i → i ≤ b → written (q.tapes i) k ≡ true))
  pub known_in_cells : (first count px x0 : ℕ) → q.grid.columns ≡ Cells first count px x0 → (x a b : ℕ) → Asks q x a b
      → ask s x a b ≡ Ok Unknown → ⊥
  -- in bins yes exactly if in every row some cell that the column locates to is written, and the head is not drawn on it
  pub yes_in_bins : (first cells width : ℕ) → q.grid.columns ≡ Bins first cells width → (x a b : ℕ) → Asks q x a b
      → (ask s x a b ≡ Ok Yes) ↔ ((i : ℕ) → a ≤ i → i ≤ b → SomeWritten q x i × HeadElsewhere q x i)
  -- and no exactly if in some row no such cell is written, nor is the head drawn on it
  pub no_in_bins : (first cells width : ℕ) → q.grid.columns ≡ Bins first cells width → (x a b : ℕ) → Asks q x a b
      → (ask s x a b ≡ Ok No) ↔ ((i : ℕ) × (a ≤ i) × (i ≤ b) × NoneWritten q x i × HeadElsewhere q x i)

-- for every list of calls that `Demand3` speaks of
abbrev pub UprightsMean : Type 0
UprightsMean =
    (o : Order) (g : Grid) → fit o ≡ Ok g
    → (index store : List ℕ) (start : Grid) → (open_call (open_input g index store)).answer ≡ Ok start
    → (calls : List RowInput)
    → Allowed (opened start (open_call (open_input g index store))) calls
    → Uprights (plain_after (plain_of o) calls).0 (after (opened start (open_call (open_input g index store))) calls).0
