-- The worked pictures (RULES). `Worked` is their list, in the words and numbers of RULES, over the definitions that the contracts
-- cite; proofs/Worked.antt shows that it follows from them.
use Rattle.std.specs.Prelude.{ℕ, ◌-◌, ◌^◌, ◌<◌, ◌≡◌, Bool, true, false, List, [], ◌∷◌, ◌++◌, map, pos, negsuc, replicate, Some, None, Option, Result, Ok, Err}
use Rattle.refusal.specs.declared.Refusal.{Refusal}
use Rattle.refusal.specs.declared.Refusal.TheVariants as refusal
use Rattle.position.specs.Position.{offset_of}
use Rattle.tape.specs.Tape.{Tape, tape_of}
use Rattle.columns.specs.declared.Columns.{Columns}
use Rattle.columns.specs.declared.Columns.TheVariants.{Cells, Bins}
use Rattle.columns.specs.Found.{pair, among}
use Rattle.columns.specs.Window.{in_window}
use Rattle.columns.specs.Pixels.{head_at}
use Rattle.colours.specs.declared.Rgb.{Rgb}
use Rattle.colours.specs.Palettes.{light}
use Rattle.colours.specs.Mix.{mix_of, tint}
use Rattle.colours.specs.Meanings.{colour_at}
use Rattle.grid.specs.declared.Grid.{Grid}
use Rattle.grid.specs.Soundness.{step_of, rows_done, no_rows, grid_by, with_progress}
use Rattle.grid.specs.Orders.{pair_of, exact_order, overview_order}
use Rattle.grid.specs.Opening.{open_input, open_call}
use Rattle.grid.specs.Asking.{range_call}
use Rattle.line.specs.Line.{written}
use Rattle.rows.specs.RowCall.{RowInput, row_input, RowOutput, row_call, row_said}
use Rattle.picture.specs.declared.clicks.Location.{Location}
use Rattle.picture.specs.declared.clicks.Location.TheVariants.{Cell, Bin}
use Rattle.picture.specs.Clicks.{locate_call}
use Rattle.picture.specs.Calls.{Order, exact, overview, fit, State, opened, after_call, after}
use Rattle.picture.specs.Demand3.{click}
use Rattle.picture.specs.declared.uprights.Verdict.{Verdict}
use Rattle.picture.specs.declared.uprights.Verdict.TheVariants.{Yes, No, Unknown}
use Rattle.picture.specs.Upright.{upright_call}
use Rattle.picture.specs.UprightMeaning.{ask}
use Rattle.picture.specs.Equal.{lent, looks_equal, equal_call}

-- a position in its offset form
abbrev pub at : ℕ → ℕ
at n = offset_of (pos n)

-- the record of an exact picture of 2 symbols from step 0 on, by width, height, columns, row height and rows
abbrev pub exact_record : ℕ → ℕ → Columns → ℕ → ℕ → Grid
exact_record width height columns row rows = grid_by width height 2 true columns row rows 0 1 (2 ^ 64 - 1) no_rows

-- the record of an overview of 2 symbols, by the same, stride and T
abbrev pub overview_record : ℕ → ℕ → Columns → ℕ → ℕ → ℕ → ℕ → Grid
overview_record width height columns row rows stride total = grid_by width height 2 false columns row rows 0 stride total no_rows

-- an overview by W, H, T and the high end of an extent from 0 on
abbrev pub overview_of : ℕ → ℕ → ℕ → ℕ → Order
overview_of width height total high = overview (overview_order width height 2 total (pos 0) (pos high))

-- an exact picture of one row and no size by W, H and the high end of a written pair from 0 on; halted or not
abbrev pub exact_row : ℕ → ℕ → ℕ → Bool → Order
exact_row width height high halted = exact (exact_order width height 2 0 None (pos 0 ∷ []) (pair_of true (pos 0) (pos high)) halted)

-- a picture that was just opened; what the memory held before is of no account
abbrev pub opened_on : Grid → ℕ → ℕ → State
opened_on g index store = opened g (open_call (open_input g (replicate index 7) (replicate store 7)))

-- a call that is handed record, index and store as they stand
abbrev pub call_on : State → List ℕ → Tape → RowInput
call_on s tallies t = row_input s.grid s.index s.store tallies t None

-- 1

-- halted or not
abbrev pub first_order : Bool → Order
first_order halted = exact (exact_order 8 4 2 0 (Some 2) (pos 0 ∷ pos 1 ∷ []) (pair_of true (pos 0) (pos 0)) halted)

abbrev pub first : Grid
first = exact_record 8 4 (Cells (offset_of (negsuc 0)) 4 2 0) 2 2

abbrev pub first_opened : State
first_opened = opened_on first 32 8

-- row 0: head 0 on a symbol
abbrev pub passing_call : ℕ → RowInput
passing_call symbol = call_on first_opened [] (tape_of (pos 0) symbol [] [] [] [])

-- row 1: head 1 on blank, left run of one 1
abbrev pub passed_call : ℕ → RowInput
passed_call symbol = call_on (after_call first_opened (passing_call symbol)) [] (tape_of (pos 1) 0 (1 ∷ []) (1 ∷ []) [] [])

-- after both rows
abbrev pub passed : ℕ → State
passed symbol = (after first_opened (passing_call symbol ∷ passed_call symbol ∷ [])).0

-- with symbol 1
abbrev pub first_call : RowInput
first_call = passing_call 1

abbrev pub second_call : RowInput
second_call = passed_call 1

abbrev pub first_drawn : State
first_drawn = passed 1

-- 3 and 4

abbrev pub third : Grid
third = overview_record 4 3 (Bins (at 0) 10 4) 1 3 3 5

-- row 0 of picture 3
abbrev pub third_row : Tape → RowOutput
third_row t = row_call (call_on (opened_on third 12 0) (replicate 4 7) t)

-- cell 2 alone is written; the head is on cell -1, outside the window, or on cell 2
abbrev pub beside_cell2 : Tape
beside_cell2 = tape_of (negsuc 0) 0 [] [] (1 ∷ 0 ∷ []) (1 ∷ 2 ∷ [])

abbrev pub on_cell2 : Tape
on_cell2 = tape_of (pos 2) 1 [] [] [] []

-- the clicks on pixels 0 to 3 of a row of picture 3, all rows of which are drawn
abbrev pub third_clicks : ℕ → List (Result (Option Location) Refusal)
third_clicks y = map (λ x. locate_call (with_progress third (rows_done 3 0 0)) [] x y) (0 ∷ 1 ∷ 2 ∷ 3 ∷ [])

-- the ranges of picture 3 at a step
abbrev pub third_ranges : ℕ → List (Result (Option Location) Refusal)
third_ranges step = map (λ found. Ok (Some found)) (Bin step (pos 0) (pos 2) ∷ Bin step (pos 2) (pos 4) ∷ Bin step (pos 5) (pos 7) ∷ Bin step (pos 7) (pos 9) ∷ [])

-- 6

abbrev pub sixth : Grid
sixth = overview_record 20 10 (Cells (at 0) 3 6 1) 2 5 1 4

-- a click once all rows are drawn
abbrev pub sixth_click : ℕ → ℕ → Result (Option Location) Refusal
sixth_click = locate_call (with_progress sixth (rows_done 5 0 0)) (replicate 15 0)

-- 9

abbrev pub ninth : Grid
ninth = overview_record 1 1 (Bins (at 0) (2 ^ 50) 1) 1 1 1 0

-- cell m of 2^50 is written, and no other
abbrev pub OneWritten : Tape → ℕ → Type 0
OneWritten t m = (m < 2 ^ 50) × ((k : ℕ) → k < 2 ^ 50 → written t (at k) ≡ among (Some (pair m m)) k)

-- cell 0 alone is written, right of the head
abbrev pub beside_cell0 : Tape
beside_cell0 = tape_of (negsuc 0) 0 [] [] (1 ∷ []) (1 ∷ [])

-- its row
abbrev pub ninth_row : Tape → RowOutput
ninth_row t = row_call (call_on (opened_on ninth 1 0) (7 ∷ []) t)

-- swept, beside the list of RULES: over paper, ink and head

-- row 0 of picture 3, cell 2 written, the head on cell 8 and the cells 4 to 8 swept
abbrev pub swept_bins : RowOutput
swept_bins =
    let s = opened_on third 12 0 in
    row_call (row_input s.grid s.index s.store (replicate 4 7) (tape_of (pos 8) 0 (1 ∷ 0 ∷ []) (1 ∷ 5 ∷ []) [] []) (Some (pair (at 4) (at 8))))

-- row 0 of picture 6, cell 0 written, the head on cell 2 and the cells 0 to 2 swept
abbrev pub swept_cells : RowOutput
swept_cells =
    let s = opened_on sixth 200 15 in
    row_call (row_input s.grid s.index s.store [] (tape_of (pos 2) 0 (1 ∷ 0 ∷ []) (1 ∷ 1 ∷ []) [] []) (Some (pair (at 0) (at 2))))

-- the first line of row 0 of picture 6
abbrev pub swept_line : List ℕ
swept_line = 0 ∷ (replicate 6 64 ++ replicate 6 254 ++ replicate 6 255 ++ (0 ∷ []))

-- 10 and 11

abbrev pub rgb : ℕ → ℕ → ℕ → Rgb
rgb red green blue = record { red = red; green = green; blue = blue }

-- the same in each channel
abbrev pub grey : ℕ → Rgb
grey n = rgb n n n

-- 13: picture 3, its rows with the head on cell 2, which is written; with cell 2 written and the head outside; and blank, with the head on cell 9

abbrev pub blank_tape : Tape
blank_tape = tape_of (pos 9) 0 [] [] [] []

-- the calls, each handed the picture as it then stands
abbrev pub third_call : State → Tape → RowInput
third_call s t = call_on s (replicate 4 7) t

abbrev pub third_drawn : State
third_drawn =
    let s = opened_on third 12 0 in
    let r = after_call s (third_call s on_cell2) in
    after_call (after_call r (third_call r beside_cell2)) (third_call (after_call r (third_call r beside_cell2)) blank_tape)

-- 14: picture 6 with all rows done, all of its bytes alike and each of its symbols 1

abbrev pub sixth_ask : ℕ → ℕ → Result Verdict Refusal
sixth_ask column byte = upright_call (with_progress sixth (rows_done 5 0 0)) (replicate 200 byte) (replicate 15 1) column 0 4

-- 15 and 16: picture 1 with one of its rows drawn, and its index with another grid and store

abbrev pub half_drawn : State
half_drawn = after_call first_opened first_call

abbrev pub beside_half : Grid → List ℕ → State
beside_half g rest = lent g half_drawn.index (0 ∷ 1 ∷ 0 ∷ 0 ∷ rest)

-- by alphabet, exact or not, the window's first cell, first step and stride
abbrev pub half_record : ℕ → Bool → ℕ → ℕ → ℕ → Grid
half_record symbols is-exact cell step stride = grid_by 8 4 symbols is-exact (Cells cell 4 2 0) 2 2 step stride (2 ^ 64 - 1) (rows_done 1 0 0)

-- whether half of picture 1 equals another with these, and these symbols in the row that is not drawn
abbrev pub half_equals : ℕ → Bool → ℕ → ℕ → ℕ → List ℕ → Result Bool Refusal
half_equals symbols is-exact cell step stride rest = equal_call half_drawn (beside_half (half_record symbols is-exact cell step stride) rest)

pub record Worked : Type 0 where
  -- 1. the window is -1..2; the index after both rows
  pub picture_1 :
      ((halted : Bool) → fit (first_order halted) ≡ Ok first)
      × (range_call first ≡ Ok (record { low = negsuc 0; high = pos 2 }))
      × (first_drawn.index
      ≡ 0 ∷ 0 ∷ 255 ∷ 255 ∷ 0 ∷ 0 ∷ 0 ∷ 0
      ∷ 0 ∷ 0 ∷ 255 ∷ 255 ∷ 0 ∷ 0 ∷ 0 ∷ 0
      ∷ 0 ∷ 0 ∷ 64 ∷ 64 ∷ 255 ∷ 255 ∷ 0 ∷ 0
      ∷ 0 ∷ 0 ∷ 64 ∷ 64 ∷ 255 ∷ 255 ∷ 0 ∷ 0 ∷ [])
  -- 2. there (0, 3) locates to cell -1, step 1, symbol 0; (2, 0) to cell 0, symbol 1
  pub picture_2 : (click first_drawn 0 3 ≡ Ok (Some (Cell 1 (negsuc 0) 0))) × (click first_drawn 2 0 ≡ Ok (Some (Cell 0 (pos 0) 1)))
  -- 3. steps 0, 3, 5; pixels locate to 0..2, 2..4, 5..7, 7..9
  pub picture_3 :
      (fit (overview_of 4 3 5 9) ≡ Ok third)
      × (map (step_of third) (0 ∷ 1 ∷ 2 ∷ []) ≡ 0 ∷ 3 ∷ 5 ∷ [])
      × (map third_clicks (0 ∷ 1 ∷ 2 ∷ []) ≡ third_ranges 0 ∷ third_ranges 3 ∷ third_ranges 5 ∷ [])
  -- 4. cell 2 alone written: tallies 2 2 0 0, units 4, ink 19 19; a head at 2 is in bin 1
  pub picture_4 :
      ((third_row beside_cell2).tallies ≡ 2 ∷ 2 ∷ 0 ∷ 0 ∷ [])
      × (row_said (third_row beside_cell2).answer ≡ (0, 4))
      × ((third_row beside_cell2).index ≡ 19 ∷ 19 ∷ 0 ∷ 0 ∷ replicate 8 0)
      × (head_at third.columns (at 2) ≡ Some (pair 1 1))
      × ((third_row on_cell2).index ≡ 19 ∷ 255 ∷ 0 ∷ 0 ∷ replicate 8 0)
  -- 5. H 1, T 5: one row, step 0; T 0: stride 1, one row, with H 1 and with more
  pub picture_5 :
      (fit (overview_of 4 1 5 9) ≡ Ok (overview_record 4 1 (Bins (at 0) 10 4) 1 1 5 5))
      × (step_of (overview_record 4 1 (Bins (at 0) 10 4) 1 1 5 5) 0 ≡ 0)
      × (fit (overview_of 4 1 0 9) ≡ Ok (overview_record 4 1 (Bins (at 0) 10 4) 1 1 1 0))
      × (fit (overview_of 4 3 0 9) ≡ Ok (overview_record 4 3 (Bins (at 0) 10 4) 1 1 1 0))
  -- 6. p 6, row height 2, margin 1; x 0 and 19 locate to nothing, those beside them to the first and the last cell
  pub picture_6 :
      (fit (overview_of 20 10 4 2) ≡ Ok sixth)
      × ((y : ℕ) → (sixth_click 0 y ≡ Ok None) × (sixth_click 19 y ≡ Ok None))
      × (sixth_click 1 0 ≡ Ok (Some (Cell 0 (pos 0) 0)))
      × (sixth_click 18 0 ≡ Ok (Some (Cell 0 (pos 2) 0)))
  -- 7. W 4096: span 4096 is cells, 4097 bins
  pub picture_7 :
      (fit (overview_of 4096 1 0 4095) ≡ Ok (overview_record 4096 1 (Cells (at 0) 4096 1 0) 1 1 1 0))
      × (fit (overview_of 4096 1 0 4096) ≡ Ok (overview_record 4096 1 (Bins (at 0) 4097 4096) 1 1 1 0))
      × ((halted : Bool) → fit (exact_row 4096 1 4095 halted) ≡ Ok (exact_record 4096 1 (Cells (at 0) 4096 1 0) 1 1))
      × ((halted : Bool) → fit (exact_row 4096 1 4096 halted) ≡ Ok (exact_record 4096 1 (Bins (at 0) 4097 4096) 1 1))
  -- 8. 2^50 cells in bins pass, one more is 6
  pub picture_8 :
      (fit (overview_of 4096 1 0 (2 ^ 50 - 1)) ≡ Ok (overview_record 4096 1 (Bins (at 0) (2 ^ 50) 4096) 1 1 1 0))
      × (fit (overview_of 4096 1 0 (2 ^ 50)) ≡ Err refusal.Cells)
      × ((halted : Bool) → fit (exact_row 4096 1 (2 ^ 50 - 1) halted) ≡ Ok (exact_record 4096 1 (Bins (at 0) (2 ^ 50) 4096) 1 1))
      × ((halted : Bool) → fit (exact_row 4096 1 (2 ^ 50) halted) ≡ Err refusal.Cells)
  -- 9. W 1, 2^50 cells, one written: ink 8, whichever it is
  pub picture_9 :
      (fit (overview_of 1 1 0 (2 ^ 50 - 1)) ≡ Ok ninth)
      × ((t : Tape) (m : ℕ) → OneWritten t m → in_window ninth.columns t.head ≡ false → (row_said (ninth_row t).answer).0 ≡ 0 → (ninth_row t).index ≡ 8 ∷ [])
      × (row_said (ninth_row beside_cell0).answer ≡ (0, 1))
      × ((ninth_row beside_cell0).index ≡ 8 ∷ [])
  -- swept goes over paper alone, and the head over all
  pub picture_swept :
      (swept_bins.index ≡ 19 ∷ 19 ∷ 254 ∷ 255 ∷ replicate 8 0)
      × (swept_cells.index ≡ swept_line ++ swept_line ++ replicate 160 0)
  -- 10. LIGHT: index 1 is 251 each, 32 is 136, swept is 177 198 227
  pub picture_10 : (colour_at light 1 ≡ grey 251) × (colour_at light 32 ≡ grey 136) × (colour_at light 254 ≡ rgb 177 198 227)
  -- 11. tint 0.35 from 0 to 90 is 31, from 1 to 91 is 33
  pub picture_11 : (mix_of (grey 0) (grey 90) tint ≡ grey 31) × (mix_of (grey 1) (grey 91) tint ≡ grey 33)
  -- 12. the head passes over a mark, and over blank: the same bytes, and column 2 is upright in the one and not in the other
  pub picture_12 : ((passed 1).index ≡ (passed 0).index) × (ask (passed 1) 2 0 1 ≡ Ok Yes) × (ask (passed 0) 2 0 1 ≡ Ok No)
  -- 13. in bins: ink says yes; under the head it is unknown, unless another pixel says no
  pub picture_13 :
      (third_drawn.index ≡ 19 ∷ 255 ∷ 0 ∷ 0 ∷ 19 ∷ 19 ∷ 0 ∷ 0 ∷ 0 ∷ 0 ∷ 0 ∷ 255 ∷ [])
      × (ask third_drawn 0 0 1 ≡ Ok Yes)
      × (ask third_drawn 1 0 1 ≡ Ok Unknown)
      × (ask third_drawn 1 0 2 ≡ Ok No)
  -- 14. what the bytes 0, 1, 64, 65, 253, 254 and 255 say in column 1, and a head in the margin
  pub picture_14 :
      (map (sixth_ask 1) (0 ∷ 1 ∷ 64 ∷ 65 ∷ 253 ∷ 254 ∷ 255 ∷ []) ≡ Ok No ∷ Ok Yes ∷ Ok Yes ∷ Ok No ∷ Ok No ∷ Ok No ∷ Ok Yes ∷ [])
      × (sixth_ask 0 255 ≡ Ok No)
  -- 15. the two of 12 are one hidden symbol apart: they look equal, and are not
  pub picture_15 :
      ((passed 1).store ≡ 0 ∷ 1 ∷ 0 ∷ 0 ∷ 0 ∷ 1 ∷ 0 ∷ 0 ∷ [])
      × ((passed 0).store ≡ 0 ∷ 0 ∷ 0 ∷ 0 ∷ 0 ∷ 1 ∷ 0 ∷ 0 ∷ [])
      × (looks_equal (passed 1) (passed 0) ≡ true)
      × (equal_call (passed 1) (passed 0) ≡ Ok false)
  -- 16. another alphabet, an overview, other symbols in the row that is not drawn, and another stride before it make no difference; another
  -- first step and another window do
  pub picture_16 :
      (half_equals 2 true (offset_of (negsuc 0)) 0 1 (0 ∷ 0 ∷ 0 ∷ 0 ∷ []) ≡ Ok true)
      × (half_equals 64 false (offset_of (negsuc 0)) 0 5 (1 ∷ 2 ∷ 3 ∷ 4 ∷ []) ≡ Ok true)
      × (half_equals 2 true (offset_of (negsuc 0)) 1 1 (0 ∷ 0 ∷ 0 ∷ 0 ∷ []) ≡ Ok false)
      × (half_equals 2 true (offset_of (pos 0)) 0 1 (0 ∷ 0 ∷ 0 ∷ 0 ∷ []) ≡ Ok false)
