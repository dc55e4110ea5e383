-- The number of each refusal (RULES, Refusals), 0 where nothing refuses.
use Rattle.std.specs.Prelude.{ℕ, zero, suc, Option, None, Some, Result, Ok, Err}
use Rattle.refusal.specs.declared.Refusal.{Refusal}
use Rattle.refusal.specs.declared.Refusal.TheVariants.{Size, Symbols, Position, Reversed, Heads, Cells, IndexLength, StoreLength, TalliesLength, OutputLength, Runs, Unjoined, Reach, Swept, Complete, Record, Upright, PageWidth, PageLength}

abbrev pub number_of : Refusal → ℕ
number_of Size = 1
number_of Symbols = 2
number_of Position = 3
number_of Reversed = 4
number_of Heads = 5
number_of Cells = 6
number_of IndexLength = 7
number_of StoreLength = 8
number_of TalliesLength = 9
number_of OutputLength = 10
number_of Runs = 11
number_of Reach = 12
number_of Swept = 13
number_of Complete = 14
number_of Record = 15
number_of Upright = 16
number_of PageWidth = 17
number_of PageLength = 18
number_of Unjoined = 19

-- the number that a call of the interface answers
abbrev pub said_number : Option Refusal → ℕ
said_number None = 0
said_number (Some refusal) = number_of refusal

-- the number of an answer
abbrev pub answered : {A : Type 0} → Result A Refusal → ℕ
answered (Ok given) = 0
answered (Err refusal) = number_of refusal

-- what a place holds after an answer is put there: what it held where nothing is given
abbrev pub put_by : {A : Type 0} → Result A Refusal → A → A
put_by (Ok given) old = given
put_by (Err refusal) old = old

-- what a slice holds after a call that answers a number: what it held where that is not 0
abbrev pub kept_by : {A : Type 0} → ℕ → A → A → A
kept_by zero old new = new
kept_by (suc number) old new = old
