-- The claim about every list of row calls at the interface (specs/Door.antt): words stand for the record that the picture's claim speaks of.
use Rattle.std.proofs.Common.{Option, None, Some, Result, Ok, Err}
use Rattle.refusal.specs.declared.Refusal.{Refusal}
use Prim.Native.Nat.{ℕ, ◌<◌}
use mathlib.Core.Path.{◌≡◌, refl, sym, ap, ◌∙◌, subst}
use mathlib.Core.Bool.{true, false≢true}
use mathlib.Core.List.{List, [], ◌∷◌, ◌++◌, map}
use lib.ListN.{length, get_or, get_or-append}
use Rattle.columns.specs.declared.Columns.{Columns}
use Rattle.columns.specs.declared.Columns.TheVariants.{Cells, Bins}
use Rattle.grid.specs.declared.Progress.{Progress}
use Rattle.grid.specs.declared.Grid.{Grid}
use Rattle.grid.specs.Soundness.{grid_sound, rows_done, grid_with, with_progress}
use Rattle.grid.specs.Opening.{open_input, open_call}
use Rattle.refusal.proofs.Kept.{kept_by_number}
use Rattle.grid.proofs.Openings.{open_grid_lem}
use Rattle.line.specs.Line.{row_units}
use Rattle.rows.specs.declared.Drawn.{Drawn}
use Rattle.rows.specs.RowCall.{RowInput, row_input_refusal, row_call, row_said, advanced}
use Rattle.rows.proofs.RowChecks.{not_refused, advanced_sound}
use Rattle.picture.specs.Calls.{Order, fit, State, opened, after_call, after, accepted, Handed, Allowed}
use Rattle.picture.specs.Plain.{Plain, plain_of, plain_row, plain_after}
use Rattle.picture.specs.Demand3.{Picture}
use Rattle.picture.proofs.Demand3.{demand_3, fitted, restarted_sound}
use Rattle.picture.proofs.Accounts.{row_grid}
use Rattle.words.specs.Words.{bit, column_words, words_of, grid_of}
use Rattle.words.proofs.Back.{words_back}
use Rattle.spacetime.specs.Door.{RowWords, row_of, row_at_door, Kept, opened_with, kept_after, after_all, AllowedAll, door_said, answer_of, state_of, done_word, left_word, right_word, AtDoor}

-- what is kept as words is what is kept as a record
record Same (k : Kept) (s : State) : Type 0 where
  words : k.words ≡ words_of s.grid
  index : k.index ≡ s.index
  store : k.store ≡ s.store
  sound : grid_sound s.grid ≡ true

-- one call
record Stepped (k : Kept) (s : State) (call : RowWords) : Type 0 where
  same : Same (kept_after k (row_at_door call)) (after_call s (row_of call))
  handed : accepted (answer_of call) ≡ true → Handed s (row_of call)

one_call : (k : Kept) (s : State) (call : RowWords) → Same k s
    → ((row_at_door call).number ≡ 0 → (call.words ≡ k.words) × (call.index ≡ k.index) × (call.store ≡ k.store))
    → Stepped k s call
unfolding row_at_door
one_call k s call same allowed = by (row_input_refusal (row_of call)) refl
  where
    by : (r : Option Refusal) → row_input_refusal (row_of call) ≡ r → Stepped k s call
    by None e =
        let i = row_of call in
        let answer : (row_call i).answer ≡ Ok (record { grid = advanced i.grid i.tape; units = row_units i.grid.columns i.tape }) = unfold row_call in rw e in
        let h = allowed (ap (λ a. (row_said a).0) answer) in
        record {
          same =
              rw answer
              (record {
                words = refl;
                index = refl;
                store = refl;
                sound = advanced_sound i (not_refused i e);
              });
          handed = λ a. (ap grid_of (h.0 ∙ same.words) ∙ words_back s.grid same.sound, h.1 ∙ same.index, h.2 ∙ same.store);
        }
    by (Some refusal) e =
        let answer : answer_of call ≡ Err refusal = unfold row_call in rw e in
        record { same = rw (answer, kept_by_number) same; handed = λ a. absurd (false≢true (sym (ap accepted answer) ∙ a)) }

-- all calls
record Ran (k : Kept) (s : State) (calls : List RowWords) : Type 0 where
  same : Same (after_all k calls) (after s (map row_of calls)).0
  allowed : Allowed s (map row_of calls)
  answers : (after s (map row_of calls)).1 ≡ map answer_of calls

all_calls : (calls : List RowWords) (k : Kept) (s : State) → Same k s → AllowedAll k calls → Ran k s calls
unfolding after_all AllowedAll after Allowed
all_calls [] k s same allowed = record { same = same; allowed = tt; answers = refl }
all_calls (call ∷ calls) k s same allowed =
    let one = one_call k s call same allowed.0 in
    let rest = all_calls calls (kept_after k (row_at_door call)) (after_call s (row_of call)) one.same allowed.1 in
    record { same = rest.same; allowed = (one.handed, rest.allowed); answers = ap (λ (answers : _). answer_of call ∷ answers) rest.answers }

-- the words of a record but for those of its progress
abbrev front : Grid → Columns → List ℕ
front g c = g.width ∷ g.height ∷ g.symbols ∷ bit g.exact ∷ (column_words c ++ (g.row_px ∷ g.rows ∷ g.first ∷ g.stride ∷ g.last ∷ []))

front_long : (g : Grid) (c : Columns) → length (front g c) ≡ done_word
front_long g (Cells first count px x0) = refl
front_long g (Bins first cells width) = refl

words_split : (g : Grid) (c : Columns) (p : Progress) → words_of (grid_with g g.exact c p) ≡ front g c ++ (p.done ∷ p.left ∷ p.right ∷ [])
words_split g (Cells first count px x0) p = refl
words_split g (Bins first cells width) p = refl

words_moved : (g : Grid) (c : Columns) (p : Progress) → let words = words_of (grid_with g g.exact c p) in
    (get_or words done_word 0 ≡ p.done) × (get_or words left_word 0 ≡ p.left) × (get_or words right_word 0 ≡ p.right)
words_moved g (Cells first count px x0) p = (refl, refl, refl)
words_moved g (Bins first cells width) p = (refl, refl, refl)

words_front : (g : Grid) (p : Progress) (k : ℕ) → k < done_word → get_or (words_of (with_progress g p)) k 0 ≡ get_or (front g g.columns) k 0
words_front g p k h =
    ap (λ (ws : List ℕ). get_or ws k 0) (words_split g g.columns p)
    ∙ get_or-append (front g g.columns) (p.done ∷ p.left ∷ p.right ∷ []) 0 k (rw (front_long g g.columns) h)

words-apart : (g : Grid) (p : Progress) (k : ℕ) → k < done_word → get_or (words_of (with_progress g p)) k 0 ≡ get_or (words_of g) k 0
words-apart g p k h = words_front g p k h ∙ sym (words_front g g.progress k h)

-- the plain picture keeps its grid
plain_grid_lem : (calls : List RowInput) (q : Plain) → (plain_after q calls).0.grid ≡ q.grid
unfolding plain_after
plain_grid_lem [] q = refl
plain_grid_lem (call ∷ calls) q = plain_grid_lem calls (plain_row q call).0 ∙ row_grid q call

said_same : (calls : List RowWords) → map door_said calls ≡ map row_said (map answer_of calls)
unfolding row_at_door
said_same [] = refl
said_same (call ∷ calls) = ap (λ (rest : List (ℕ × ℕ)). door_said call ∷ rest) (said_same calls)

-- the claim, for an opening that is handed the record itself
abbrev Claim : Order → Grid → Grid → Type 0
Claim o g h =
    (index store : List ℕ) (start : Grid) → (open_call (open_input h index store)).answer ≡ Ok start
    → (calls : List RowWords)
    → AllowedAll (opened_with start (open_call (open_input h index store))) calls
    → let end = after_all (opened_with start (open_call (open_input h index store))) calls in
    let plain = plain_after (plain_of o) (map row_of calls) in
    Picture (state_of end) (map answer_of calls) plain.0 plain.1
    × (map door_said calls ≡ plain.1)
    × ((k : ℕ) → k < done_word → get_or end.words k 0 ≡ get_or (words_of g) k 0)
    × (get_or end.words done_word 0 ≡ plain.0.n)
    × (get_or end.words left_word 0 ≡ plain.0.left)
    × (get_or end.words right_word 0 ≡ plain.0.right)

claimed : (o : Order) (g : Grid) → fit o ≡ Ok g → Claim o g g
claimed o g fits index store start opens calls allowed =
    let f = fitted o g fits in
    let out = open_call (open_input g index store) in
    let s = opened start out in
    let first : Same (opened_with start out) s =
    record { words = refl; index = refl; store = refl; sound = rw (open_grid_lem (open_input g index store) start opens) (restarted_sound g f.0) } in
    let ran = all_calls calls (opened_with start out) s first allowed in
    let drawn = demand_3 o g fits index store start opens (map row_of calls) ran.allowed in
    let q = (plain_after (plain_of o) (map row_of calls)).0 in
    let end = after_all (opened_with start out) calls in
    let last = (after s (map row_of calls)).0 in
    let grid : grid_of end.words ≡ last.grid = ap grid_of ran.same.words ∙ words_back last.grid ran.same.sound in
    let state : last ≡ state_of end = λ i. record { grid = sym grid i; index = sym ran.same.index i; store = sym ran.same.store i } in
    let made = rows_done q.n q.left q.right in
    let words : end.words ≡ words_of (with_progress g made) =
    ran.same.words ∙ ap words_of (drawn.same_record ∙ ap (λ (h : Grid). with_progress h made) (plain_grid_lem (map row_of calls) (plain_of o) ∙ f.1)) in
    let moved = words_moved g g.columns made in (
      subst (λ (st : State). Picture st (map answer_of calls) q (plain_after (plain_of o) (map row_of calls)).1) state
          (subst (λ (answers : List (Result Drawn Refusal)). Picture last answers q (plain_after (plain_of o) (map row_of calls)).1) ran.answers drawn),
      said_same calls ∙ ap (map row_said) (sym ran.answers) ∙ drawn.same_answers,
      λ k h. rw words (words-apart g made k h),
      rw words moved.0,
      rw words moved.1,
      rw words moved.2,
    )

at_door : AtDoor
at_door o g fits = subst (Claim o g) (sym (words_back g (fitted o g fits).0)) (claimed o g fits)
