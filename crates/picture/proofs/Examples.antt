-- That the claim about every list of row calls (specs/Demand3.antt) isn't empty: two lists of accepted and refused calls, in cells and in
-- bins, for which its hypotheses hold, and what the plain picture says to each call: 0 and the units, or the refusal's number.
use Rattle.std.proofs.Common.{ℕ, ◌≡◌, refl, false, List, [], ◌∷◌, pos, replicate, Option, Some, Ok}
use Rattle.std.proofs.Math.Bool.{false≢true}
use Rattle.slices.specs.Tabulate.{tabulate}
use Rattle.tape.specs.Tape.{Tape, tape_of, cells, symbol_at}
use Rattle.tape.specs.Checks.{total}
use Rattle.tape.specs.Joined.{differing}
use Rattle.columns.specs.declared.Pair.{Pair}
use Rattle.columns.specs.Found.{pair}
use Rattle.columns.specs.Window.{sound_in}
use Rattle.columns.specs.Bins.{sum_to, tally, tallies, units_of, written_in}
use Rattle.grid.specs.declared.Grid.{Grid}
use Rattle.grid.specs.Soundness.{grid_sound}
use Rattle.grid.specs.Fit.{least_of, greatest_of, layout_of, exact_refusal, fit_exact, overview_refusal, fit_overview}
use Rattle.grid.specs.Opening.{open_refusal, open_input, open_call}
use Rattle.line.specs.Altered.{repeated, overwritten}
use Rattle.line.specs.Line.{line_of}
use Rattle.rows.specs.RowCall.{RowInput, row_input, row_refusal, drawn_index, drawn_store, row_call}
use Rattle.picture.specs.Calls.{Order, fit, State, opened, after_call, after, Allowed}
use Rattle.picture.specs.Plain.{same_grid, plain_of, plain_row, plain_after}
use Rattle.picture.specs.Demand3.{Picture}
use Rattle.picture.specs.Grey.{Greys}
use Rattle.picture.specs.UprightMeaning.{Uprights}
use Rattle.picture.specs.Worked.{at, first_order, first, first_opened, first_call, second_call, overview_of, third, beside_cell2, on_cell2, blank_tape, opened_on, call_on}
use Rattle.picture.proofs.Demand3.{demand_3}
use Rattle.picture.proofs.Grey.{greys_drawn}
use Rattle.picture.proofs.UprightMeaning.{uprights_mean}

-- a fit and an opening that are accepted, and a list of calls that the claim is about, with what the plain picture says to each
pub record Example (o : Order) (g : Grid) (index store : List ℕ) (calls : List RowInput) (told : List (ℕ × ℕ)) : Type 0 where
  pub fits : fit o ≡ Ok g
  pub opens : (open_call (open_input g index store)).answer ≡ Ok g
  pub allowed : Allowed (opened g (open_call (open_input g index store))) calls
  pub tells : (plain_after (plain_of o) calls).1 ≡ told

-- the claim holds of it
pub holds : (o : Order) (g : Grid) (index store : List ℕ) (calls : List RowInput) (told : List (ℕ × ℕ)) → Example o g index store calls told
    → Picture (after (opened g (open_call (open_input g index store))) calls).0 (after (opened g (open_call (open_input g index store))) calls).1
    (plain_after (plain_of o) calls).0 (plain_after (plain_of o) calls).1
holds o g index store calls told e = demand_3 o g e.fits index store g e.opens calls e.allowed

-- worked picture 1, each call after the one before it
abbrev first_after : State
first_after = after_call first_opened first_call

abbrev first_calls : List RowInput
first_calls =
    first_call
    -- another record
    ∷ row_input third first_after.index first_after.store [] on_cell2 (Some (pair (at 0) (at 0)))
    -- a run of length 0
    ∷ call_on first_after [] (tape_of (pos 1) 0 (1 ∷ []) (0 ∷ []) [] [])
    -- a blank outermost run
    ∷ call_on first_after [] (tape_of (pos 1) 0 (0 ∷ 1 ∷ []) (1 ∷ 1 ∷ []) [] [])
    ∷ second_call
    -- all rows are drawn
    ∷ call_on (after_call first_after second_call) [] (tape_of (pos 1) 0 (1 ∷ []) (1 ∷ []) [] [])
    ∷ []

pub in_cells : Example (first_order false) first (replicate 32 7) (replicate 8 7) first_calls
    ((0, 1) ∷ (7, 0) ∷ (11, 0) ∷ (19, 0) ∷ (0, 1) ∷ (14, 0) ∷ [])
unfolding fit_exact exact_refusal layout_of total differing least_of greatest_of grid_sound sound_in open_call open_refusal Allowed row_call row_refusal drawn_index drawn_store repeated overwritten line_of plain_after plain_row same_grid tabulate symbol_at cells sum_to written_in
in_cells =
    record {
      fits = refl;
      opens = refl;
      allowed = (λ e. (refl, refl, refl), (λ e. absurd (false≢true e), (λ e. (refl, refl, refl), (λ e. (refl, refl, refl), (λ e. (refl, refl, refl), (λ e. (refl, refl, refl), tt))))));
      tells = refl;
    }

-- worked picture 3, each call after the one before it
abbrev third_opened : State
third_opened = opened_on third 12 0

-- a call that is handed the picture as it stands, a tape with the pair that the head swept
abbrev swept_on : State → Tape → Option Pair → RowInput
swept_on s t swept = row_input s.grid s.index s.store (replicate 4 7) t swept

abbrev third_first : RowInput
third_first = call_on third_opened (replicate 4 7) beside_cell2

abbrev third_after : State
third_after = after_call third_opened third_first

abbrev third_second : RowInput
third_second = swept_on third_after on_cell2 (Some (pair (at 0) (at 5)))

abbrev third_after2 : State
third_after2 = after_call third_after third_second

abbrev third_last : RowInput
third_last = call_on third_after2 (replicate 4 7) blank_tape

abbrev third_calls : List RowInput
third_calls =
    third_first
    -- another record
    ∷ row_input first third_after.index third_after.store [] on_cell2 (Some (pair (at 0) (at 5)))
    -- a symbol that is not below symbols
    ∷ call_on third_after (replicate 4 7) (tape_of (pos 2) 2 [] [] [] [])
    -- neighbours of one symbol
    ∷ call_on third_after (replicate 4 7) (tape_of (pos 2) 1 [] [] (1 ∷ 1 ∷ []) (1 ∷ 2 ∷ []))
    -- a swept pair reversed
    ∷ swept_on third_after on_cell2 (Some (pair (at 5) (at 0)))
    ∷ third_second
    ∷ third_last
    -- all rows are drawn
    ∷ call_on (after_call third_after2 third_last) (replicate 4 7) blank_tape
    ∷ []

pub in_bins : Example (overview_of 4 3 5 9) third (replicate 12 7) [] third_calls
    ((0, 4) ∷ (7, 0) ∷ (11, 0) ∷ (19, 0) ∷ (13, 0) ∷ (0, 4) ∷ (0, 0) ∷ (14, 0) ∷ [])
unfolding fit_overview overview_refusal total differing grid_sound sound_in open_call open_refusal Allowed row_call row_refusal drawn_index drawn_store repeated overwritten line_of plain_after plain_row same_grid tabulate symbol_at cells sum_to written_in tally tallies units_of
in_bins =
    record {
      fits = refl;
      opens = refl;
      allowed = (λ e. (refl, refl, refl), (λ e. absurd (false≢true e), (λ e. (refl, refl, refl), (λ e. (refl, refl, refl), (λ e. (refl, refl, refl), (λ e. (refl, refl, refl), (λ e. (refl, refl, refl), (λ e. (refl, refl, refl), tt))))))));
      tells = refl;
    }

-- so the claim about greys (specs/Grey.antt) isn't empty either
pub in_bins_greys : Greys (plain_after (plain_of (overview_of 4 3 5 9)) third_calls).0 (at 0) 10 4 (after third_opened third_calls).0
in_bins_greys = greys_drawn (overview_of 4 3 5 9) third in_bins.fits (replicate 12 7) [] third in_bins.opens third_calls in_bins.allowed (at 0) 10 4 refl

-- nor is the claim about uprights (specs/UprightMeaning.antt)
pub in_cells_uprights : Uprights (plain_after (plain_of (first_order false)) first_calls).0 (after first_opened first_calls).0
in_cells_uprights = uprights_mean (first_order false) first in_cells.fits (replicate 32 7) (replicate 8 7) first in_cells.opens first_calls in_cells.allowed

pub in_bins_uprights : Uprights (plain_after (plain_of (overview_of 4 3 5 9)) third_calls).0 (after third_opened third_calls).0
in_bins_uprights = uprights_mean (overview_of 4 3 5 9) third in_bins.fits (replicate 12 7) [] third in_bins.opens third_calls in_bins.allowed
