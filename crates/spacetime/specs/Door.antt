-- The claim about every list of row calls, for the interface: records are words, and a call answers a number and units. `AtDoor` is what is
-- proved, in proofs/Door.antt, of `row_at_door`, which the contract of `spacetime_row` cites.
use Rattle.std.specs.Prelude.{ℕ, ◌<◌, ◌≡◌, List, [], ◌∷◌, map, get_or, Option, Result, Ok}
use Rattle.refusal.specs.declared.Refusal.{Refusal}
use Rattle.refusal.specs.Numbers.{kept_by}
use Rattle.tape.specs.Tape.{Tape}
use Rattle.columns.specs.declared.Pair.{Pair}
use Rattle.grid.specs.declared.Grid.{Grid}
use Rattle.grid.specs.Opening.{OpenOutput, open_input, open_call}
use Rattle.rows.specs.declared.Drawn.{Drawn}
use Rattle.rows.specs.RowCall.{RowInput, row_input, row_call, row_said, drawn_grid}
use Rattle.picture.specs.Calls.{Order, fit, State}
use Rattle.picture.specs.Plain.{plain_of, plain_after}
use Rattle.picture.specs.Demand3.{Picture}
use Rattle.words.specs.Words.{words_of, grid_of}

-- what a row call is handed
pub record RowWords : Type 0 where
  pub words : List ℕ
  pub index : List ℕ
  pub store : List ℕ
  pub tallies : List ℕ
  pub tape : Tape
  pub swept : Option Pair

-- what it answers, and what it leaves
pub record RowLeft : Type 0 where
  pub number : ℕ
  pub units : ℕ
  pub words : List ℕ
  pub index : List ℕ
  pub store : List ℕ
  pub tallies : List ℕ

abbrev pub row_words : List ℕ → List ℕ → List ℕ → List ℕ → Tape → Option Pair → RowWords
row_words words index store tallies t swept = record { words = words; index = index; store = store; tallies = tallies; tape = t; swept = swept }

-- the call with its record read
abbrev pub row_of : RowWords → RowInput
row_of call = row_input (grid_of call.words) call.index call.store call.tallies call.tape call.swept

unfoldable pub row_at_door : RowWords → RowLeft
row_at_door call =
    let out = row_call (row_of call) in
    let number = (row_said out.answer).0 in
    record {
      number = number;
      units = (row_said out.answer).1;
      words = kept_by number call.words (words_of (drawn_grid out.answer (grid_of call.words)));
      index = out.index;
      store = out.store;
      tallies = out.tallies;
    }

-- what the caller keeps between calls
pub record Kept : Type 0 where
  pub words : List ℕ
  pub index : List ℕ
  pub store : List ℕ

-- after an opening that was accepted with a grid
abbrev pub opened_with : Grid → OpenOutput → Kept
opened_with g out = record { words = words_of g; index = out.index; store = out.store }

-- after a call: what an accepted one left, the same as before after a refused one
abbrev pub kept_after : Kept → RowLeft → Kept
kept_after k left = kept_by left.number k (record { words = left.words; index = left.index; store = left.store })

-- after a list of calls
unfoldable pub after_all : Kept → List RowWords → Kept
after_all k [] = k
after_all k (call ∷ calls) = after_all (kept_after k (row_at_door call)) calls

-- each accepted call was handed words, index and store as they then stood; a refused one may be handed anything
unfoldable pub AllowedAll : Kept → List RowWords → Type 0
AllowedAll k [] = Unit
AllowedAll k (call ∷ calls) =
    ((row_at_door call).number ≡ 0 → (call.words ≡ k.words) × (call.index ≡ k.index) × (call.store ≡ k.store))
    × AllowedAll (kept_after k (row_at_door call)) calls

-- number and units of a call
abbrev pub door_said : RowWords → ℕ × ℕ
door_said call = ((row_at_door call).number, (row_at_door call).units)

-- the answer of a call before it is said in numbers
abbrev pub answer_of : RowWords → Result Drawn Refusal
answer_of call = (row_call (row_of call)).answer

-- what the caller keeps, its record read
abbrev pub state_of : Kept → State
state_of k = record { grid = grid_of k.words; index = k.index; store = k.store }

-- the words of the rows done, and of the written cells left and right of the window; they are the last
abbrev pub done_word : ℕ
done_word = 14

abbrev pub left_word : ℕ
left_word = 15

abbrev pub right_word : ℕ
right_word = 16

-- for every accepted fit, every accepted opening handed its words, and every list of calls in which each accepted one was handed words, index
-- and store as they then stood: the picture is the plain one, what was said is what it says, and of the words those of the rows done and of the two
-- counts alone moved
abbrev pub AtDoor : Type 0
AtDoor =
    (o : Order) (g : Grid) → fit o ≡ Ok g
    → (index store : List ℕ) (start : Grid) → (open_call (open_input (grid_of (words_of g)) index store)).answer ≡ Ok start
    → (calls : List RowWords)
    → AllowedAll (opened_with start (open_call (open_input (grid_of (words_of g)) index store))) calls
    → let end = after_all (opened_with start (open_call (open_input (grid_of (words_of g)) index store))) calls in
    let plain = plain_after (plain_of o) (map row_of calls) in
    Picture (state_of end) (map answer_of calls) plain.0 plain.1
    × (map door_said calls ≡ plain.1)
    × ((k : ℕ) → k < done_word → get_or end.words k 0 ≡ get_or (words_of g) k 0)
    × (get_or end.words done_word 0 ≡ plain.0.n)
    × (get_or end.words left_word 0 ≡ plain.0.left)
    × (get_or end.words right_word 0 ≡ plain.0.right)
