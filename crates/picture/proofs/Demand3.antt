-- The claim about every list of row calls (specs/Demand3.antt): from the step of one call, by induction over the list.
use Prim.Native.Nat.{ℕ, ◌+◌, ◌*◌, ◌/◌}
use Rattle.std.proofs.Common.{Option, None, Some, Result, Ok}
use mathlib.Core.Path.{◌≡◌, refl, sym, ap, ◌∙◌, subst}
use mathlib.Core.Bool.{true, false≢true}
use mathlib.Core.List.{List, [], ◌∷◌, map}
use native.Mathlib.Omega.{arith}
use native.Mathlib.Nat.{zero-add, add-zero, mul-zero}
use lib.ListN.{length-replicate, get_or-replicate}
use borrow.Author.Tests.{le-ltb}
use Rattle.columns.specs.Bins.{sum_to}
use Rattle.grid.specs.declared.Grid.{Grid}
use Rattle.refusal.specs.declared.Refusal.{Refusal}
use Rattle.grid.specs.Soundness.{grid_sound, no_rows}
use Rattle.grid.specs.Memory.{stored_cells}
use Rattle.grid.specs.Opening.{restarted, open_input, open_call}
use Rattle.grid.proofs.Sound.{progress_by, sound_with}
use Rattle.grid.proofs.Fits.{exact_sound, exact-grid, overview_sound, overview-grid}
use Rattle.grid.proofs.Openings.{open_grid_lem, open_index, open_store, open_lengths}
use Rattle.rows.specs.declared.Drawn.{Drawn}
use Rattle.line.specs.Line.{units_each}
use Rattle.rows.specs.RowCall.{RowInput, row_input_refusal, row_said, row_call}
use Rattle.picture.specs.Calls.{Order, exact, overview, fit, State, opened, after_call, after, Allowed, units_in}
use Rattle.picture.specs.Plain.{Plain, plain_grid, blank, plain_of, plain_row, plain_after}
use Rattle.picture.specs.Demand3.{Demand3, RefusedKeeps}
use Rattle.picture.proofs.RowCalls.{row_refused, row_drawn}
use Rattle.picture.proofs.Step.{Stands, inked, one_call}
use Rattle.picture.proofs.PlainClicks.{click_plain}
use Rattle.picture.proofs.Seen.{nothing_drawn, outside, paper_is, head_is, head_seen, every_cell}

-- what a list of calls makes of a picture and of a plain one that stand alike, and what they say
pub record Ran (q : Plain) (s : State) (answers : List (Result Drawn Refusal)) (r : Plain) (told : List (ℕ × ℕ)) : Type 0 where
  pub stands : Stands s r
  same_answers : map row_said answers ≡ told
  more_ink : units_in answers + inked q ≡ inked r

runs : (calls : List RowInput) (s : State) (q : Plain) → Stands s q → Allowed s calls
    → Ran q (after s calls).0 (after s calls).1 (plain_after q calls).0 (plain_after q calls).1
unfolding after Allowed plain_after units_in
runs [] s q st allowed = record { stands = st; same_answers = refl; more_ink = zero-add (inked q) }
runs (call ∷ calls) s q st allowed =
    let one = one_call s q st call allowed.0 in
    let rest = runs calls (after_call s call) (plain_row q call).0 one.stands allowed.1 in
    record {
      stands = rest.stands;
      same_answers = rw (one.same_answer, rest.same_answers);
      more_ink = omega (arith, one.more_ink, rest.more_ink);
    }

-- an accepted fit's grid is the plain one, and sound
pub fitted : (o : Order) (g : Grid) → fit o ≡ Ok g → (grid_sound g ≡ true) × (plain_grid o ≡ g)
fitted (exact o) g e = ((exact_sound o g e).0, exact-grid o g e)
fitted (overview o) g e = ((overview_sound o g e).0, overview-grid o g e)

-- a sound grid is sound when it is opened
pub restarted_sound : (g : Grid) → grid_sound g ≡ true → grid_sound (restarted g) ≡ true
restarted_sound g sound = sound_with g no_rows sound (progress_by no_rows g.rows (omega arith) (omega arith) (omega arith))

-- a picture that was just opened stands as a blank one
starts : (g : Grid) (index store : List ℕ) (start : Grid) → grid_sound g ≡ true → (open_call (open_input g index store)).answer ≡ Ok start
    → Stands (opened start (open_call (open_input g index store))) (blank g)
starts g index store start sound e =
    let i = open_input g index store in
    let long = open_lengths i start e in
    record {
      sound = restarted_sound g sound;
      same_record = open_grid_lem i start e;
      same_index = open_index i start e ∙ rw long.0;
      same_store = open_store i start e ∙ rw long.1;
      index_long = length-replicate (g.width * g.height) 0;
      store_long = length-replicate (g.rows * stored_cells g.columns) 0;
      stored = λ i j h l. absurd (omega arith);
      below = λ i h. absurd (omega arith);
      bytes = λ k h. get_or-replicate (g.width * g.height) k 0 0 h ∙ rw (le-ltb (k / g.width / g.row_px) 0 (omega arith));
    }

-- and so as the plain one of its order
pub begins : (o : Order) (g : Grid) → fit o ≡ Ok g → (index store : List ℕ) (start : Grid) → (open_call (open_input g index store)).answer ≡ Ok start
    → Stands (opened start (open_call (open_input g index store))) (plain_of o)
begins o g fits index store start opens =
    let f = fitted o g fits in
    subst (λ (h : Grid). Stands (opened start (open_call (open_input g index store))) (blank h)) (sym f.1) (starts g index store start f.0 opens)

-- what a list of calls makes of a picture that was fitted and opened
module _ (o : Order) (g : Grid) (fits : fit o ≡ Ok g) (index store : List ℕ) (start : Grid) (opens : (open_call (open_input g index store)).answer ≡ Ok start) (calls : List RowInput) where
  abbrev pub begun : State
  begun = opened start (open_call (open_input g index store))

  pub list_ran : Allowed begun calls → Ran (plain_of o) (after begun calls).0 (after begun calls).1 (plain_after (plain_of o) calls).0 (plain_after (plain_of o) calls).1
  list_ran = runs calls begun (plain_of o) (begins o g fits index store start opens)

pub demand_3 : Demand3
unfolding sum_to
demand_3 o g fits index store start opens calls allowed =
    let s = opened start (open_call (open_input g index store)) in
    let ran = list_ran o g fits index store start opens calls allowed in
    let end = (after s calls).0 in
    let q = (plain_after (plain_of o) calls).0 in
    let now = ran.stands in
    record {
      same_record = now.same_record;
      same_index = now.same_index;
      same_store = now.same_store;
      same_clicks = click_plain end q now;
      same_answers = ran.same_answers;
      blank_elsewhere = nothing_drawn end q now;
      nothing_outside = outside end q now;
      paper = paper_is end q now;
      head = head_is end q now;
      head_seen = head_seen end q now;
      every_cell = every_cell end q now;
      ink = sym (add-zero _) ∙ ap (λ (n : ℕ). units_in (after s calls).1 + n) (sym (mul-zero (units_each (plain_grid o).columns))) ∙ ran.more_ink;
    }

pub refused_keeps : RefusedKeeps
refused_keeps call e = by (row_input_refusal call) refl
  where
    by : (refusal : Option Refusal) → row_input_refusal call ≡ refusal
        → ((row_call call).index ≡ call.index) × ((row_call call).store ≡ call.store) × ((row_call call).tallies ≡ call.tallies)
    by None is = absurd (false≢true (sym e ∙ rw (row_drawn call is)))
    by (Some refusal) is = rw (row_refused call is) (refl, refl, refl)
