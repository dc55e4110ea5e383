-- One row call: where a picture stands as the plain one does, it does so after any call, and both say the same.
use Prim.Native.Nat.{ℕ, suc, ◌+◌, ◌-◌, ◌*◌, ◌/◌, ◌%◌, ◌≤◌, ◌<◌}
use mathlib.Core.Path.{◌≡◌, refl, sym, ap, ◌∙◌, subst}
use Rattle.std.proofs.Common.{Option, None, Some}
use mathlib.Core.Bool.{Bool, true, false, cond, false≢true}
use native.Mathlib.Omega.{arith}
use native.Mathlib.Decide.{dec_lt}
use native.Mathlib.Nat.{mul-add, add-mul, add_comm, zero-add, one-mul, div-eq_of_lt-le, div-mul-le_self, lt-div-mul-add}
use lib.Dec.{ltb}
use lib.ListN.{length, get_or}
use borrow.Author.Tests.{eq-eqb, ne_eqb, lt-ltb, le-ltb}
use Rattle.slices.proofs.Tabulated.{length-tabulate, get_or-tabulate}
use Rattle.slices.proofs.Within.{within_inside, inside_within, within_below}
use Rattle.columns.specs.Window.{first_of}
use Rattle.columns.specs.Bins.{sum_to}
use Rattle.columns.proofs.Sums.{sum_same}
use Rattle.grid.specs.declared.Grid.{Grid}
use Rattle.grid.specs.Soundness.{grid_sound}
use Rattle.grid.specs.Memory.{stored_cells}
use Rattle.grid.proofs.Sound.{sound_facts}
use Rattle.refusal.specs.declared.Refusal.{Refusal}
use Rattle.refusal.specs.Numbers.{number_of}
use Rattle.line.specs.Line.{row_units, units_each, written_cells, pixel_at}
use Rattle.rows.specs.RowCall.{RowInput, row_refusal, row_input_refusal, advanced, row_call, row_said}
use Rattle.tape.specs.Tape.{symbol_at}
use Rattle.rows.proofs.RowChecks.{not_refused, advanced_sound}
use Rattle.rows.proofs.Overwritten.{index_drawn_at, store_drawn_at}
use Rattle.line.proofs.Laws.{units-written}
use Rattle.picture.specs.Calls.{State, after_call, accepted, Handed}
use Rattle.picture.specs.Plain.{Plain, standing, plain_refusal, in_band, drawn_byte, drawn_symbol, with_row, plain_by, plain_row}
use Rattle.picture.specs.Demand3.{all_written}
use Rattle.picture.proofs.Same.{judged_by}
use Rattle.picture.proofs.Clicking.{place_within}
use Rattle.picture.proofs.RowCalls.{row_refused, row_drawn}

-- the byte at place k of a plain picture: that of its band's row, or 0 where none was drawn
abbrev pub shown : Plain → ℕ → ℕ
shown q k =
    let i = k / q.grid.width / q.grid.row_px in
    cond (ltb i q.n) (pixel_at q.grid (q.tapes i) (q.swept i) (k % q.grid.width)) 0

-- the symbols that are stored for a drawn row are those of its tape
abbrev pub Stored : Plain → Type 0
Stored q = let count = stored_cells q.grid.columns in
    (i j : ℕ) → i < q.n → j < count → get_or q.store (i * count + j) 0 ≡ symbol_at (q.tapes i) (first_of q.grid.columns + j)

-- a picture stands as a plain one does
pub record Stands (s : State) (q : Plain) : Type 0 where
  pub sound : grid_sound (standing q) ≡ true
  pub same_record : s.grid ≡ standing q
  pub same_index : s.index ≡ q.index
  pub same_store : s.store ≡ q.store
  pub index_long : length q.index ≡ q.grid.width * q.grid.height
  pub store_long : length q.store ≡ q.grid.rows * stored_cells q.grid.columns
  pub bytes : (k : ℕ) → k < q.grid.width * q.grid.height → get_or q.index k 0 ≡ shown q k
  pub stored : Stored q
  pub below : (i : ℕ) → i < q.n → (p : ℕ) → symbol_at (q.tapes i) p < q.grid.symbols

-- the units of all rows that are drawn
abbrev pub inked : Plain → ℕ
inked q = units_each q.grid.columns * all_written q

-- the band of a line is its number div the row height
pub band_is : (g : Grid) (i y : ℕ) → in_band g i y ≡ true → y / g.row_px ≡ i
band_is g i y e =
    let f = inside_within (i * g.row_px) (i * g.row_px + g.row_px) y e in
    let h = f.1 in
    div-eq_of_lt-le g.row_px f.0 (rw (add-mul, one-mul) h)

pub in_band_lem : (g : Grid) (y : ℕ) → 1 ≤ g.row_px → in_band g (y / g.row_px) y ≡ true
in_band_lem g y h = within_inside _ _ y (div-mul-le_self y g.row_px) (lt-div-mul-add h)

-- sums up to n + 1
sum_last : (n : ℕ) (f : ℕ → ℕ) → sum_to (n + 1) f ≡ sum_to n f + f n
unfolding sum_to
sum_last n f = let e : n + 1 ≡ suc n = omega arith in rw e

-- drawing row n
module _ (q : Plain) (call : RowInput) (n : ℕ) (here : q.n ≡ n) where
  tape_new : (with_row q call).tapes n ≡ call.tape
  tape_new = rw (eq-eqb n q.n (sym here))

  swept_new : (with_row q call).swept n ≡ call.swept
  swept_new = rw (eq-eqb n q.n (sym here))

module _ (q : Plain) (call : RowInput) (i : ℕ) (other : i ≡ q.n → ⊥) where
  tape_old : (with_row q call).tapes i ≡ q.tapes i
  tape_old = rw (ne_eqb i q.n other)

  swept_old : (with_row q call).swept i ≡ q.swept i
  swept_old = rw (ne_eqb i q.n other)

-- the symbols of row n are below the alphabet's count too
below_drawn : (q : Plain) (call : RowInput) → ((i : ℕ) → i < q.n → (p : ℕ) → symbol_at (q.tapes i) p < q.grid.symbols)
    → ((p : ℕ) → symbol_at call.tape p < q.grid.symbols)
    → (i : ℕ) → i < q.n + 1 → (p : ℕ) → symbol_at ((with_row q call).tapes i) p < q.grid.symbols
below_drawn q call was new i h p = by (dec_lt i q.n)
  where
    by : Dec (i < q.n) → symbol_at ((with_row q call).tapes i) p < q.grid.symbols
    by (yes l) = rw (tape_old q call i (λ here. omega arith)) (was i l p)
    by (no l) = rw (tape_new q call i (omega arith)) (new p)

-- the symbols of row n are stored behind those before
stored_drawn : (q : Plain) (call : RowInput) → length q.store ≡ q.grid.rows * stored_cells q.grid.columns → q.n < q.grid.rows → Stored q → Stored (with_row q call)
stored_drawn q call long left was i j h l =
    let most : i < q.grid.rows = omega arith in
    get_or-tabulate (drawn_symbol q call) (length q.store) (i * count + j) 0 (rw long (place_within i q.grid.rows count j most l)) ∙ by (dec_lt i q.n)
  where
    count : ℕ
    count = stored_cells q.grid.columns

    by : Dec (i < q.n) → drawn_symbol q call (i * count + j) ≡ symbol_at ((with_row q call).tapes i) (first_of q.grid.columns + j)
    by (yes m) = rw (within_below (q.n * count) (q.n * count + count) (i * count + j) (place_within i q.n count j m l), tape_old q call i (λ here. omega arith)) (was i j m l)
    by (no m) =
        let here : i ≡ q.n = omega arith in
        let place : q.n * count + j - q.n * count ≡ j = omega arith in
        rw (here, within_inside (q.n * count) (q.n * count + count) (q.n * count + j) (omega arith) (omega arith), place, tape_new q call q.n refl)

-- the units of row n go on top of those before
ink_drawn : (q : Plain) (call : RowInput) → row_units q.grid.columns call.tape + inked q ≡ inked (with_row q call)
ink_drawn q call =
    let c = q.grid.columns in
    let old : sum_to q.n (λ i. written_cells c (q.tapes i)) ≡ sum_to q.n (λ i. written_cells c ((with_row q call).tapes i)) =
    sum_same q.n _ _ (λ i h. ap (written_cells c) (sym (tape_old q call i (λ e. omega arith)))) in
    let new : written_cells c call.tape ≡ written_cells c ((with_row q call).tapes q.n) = ap (written_cells c) (sym (tape_new q call q.n refl)) in
    rw (units-written c call.tape, new, old, ← mul-add (units_each c), sum_last q.n (λ i. written_cells c ((with_row q call).tapes i)))
    (ap (λ (m : ℕ). units_each c * m) (add_comm _ _))

-- the byte at place k once row n is drawn
byte_drawn : (q : Plain) (call : RowInput) (k : ℕ) → 1 ≤ q.grid.row_px → get_or q.index k 0 ≡ shown q k → drawn_byte q call k ≡ shown (with_row q call) k
byte_drawn q call k h was = by (in_band q.grid q.n (k / q.grid.width)) refl
  where
    i : ℕ
    i = k / q.grid.width / q.grid.row_px

    x : ℕ
    x = k % q.grid.width

    by : (b : Bool) → in_band q.grid q.n (k / q.grid.width) ≡ b
        → cond b (pixel_at q.grid call.tape call.swept x) (get_or q.index k 0)
        ≡ cond (ltb i (q.n + 1)) (pixel_at q.grid ((with_row q call).tapes i) ((with_row q call).swept i) x) 0
    by true e =
        let here : i ≡ q.n = band_is q.grid q.n (k / q.grid.width) e in
        rw (lt-ltb i (q.n + 1) (omega arith), tape_new q call i (sym here), swept_new q call i (sym here))
    by false e =
        let other : i ≡ q.n → ⊥ =
        λ here. false≢true (sym e ∙ subst (λ (j : ℕ). in_band q.grid j (k / q.grid.width) ≡ true) here (in_band_lem q.grid (k / q.grid.width) h)) in
        was ∙ rw (tape_old q call i other, swept_old q call i other, same (dec_lt i q.n) other)
      where
        same : Dec (i < q.n) → (i ≡ q.n → ⊥) → ltb i q.n ≡ ltb i (q.n + 1)
        same (yes l) o = lt-ltb i q.n l ∙ sym (lt-ltb i (q.n + 1) (omega arith))
        same (no l) o = le-ltb i q.n (omega arith) ∙ sym (le-ltb i (q.n + 1) (above (dec_lt q.n i)))
          where
            above : Dec (q.n < i) → q.n + 1 ≤ i
            above (yes m) = omega arith
            above (no m) = absurd (o (omega arith))

-- what one call makes of a picture and of a plain one that stand alike, and what they say
pub record Stepped (q : Plain) (s : State) (answer : ℕ × ℕ) (r : Plain × (ℕ × ℕ)) : Type 0 where
  pub stands : Stands s r.0
  pub same_answer : answer ≡ r.1
  pub more_ink : answer.1 + inked q ≡ inked r.0

-- the plain picture refuses a call as the call does
pub refusal_is : (q : Plain) (call : RowInput) → plain_refusal q call ≡ row_input_refusal call
refusal_is q call =
    ap (λ (g : Grid). row_refusal g (length call.index) (length call.store) (length call.tallies) call.tape call.swept) (judged_by q call.grid)

module _ (s : State) (q : Plain) (st : Stands s q) (call : RowInput) where
  refused : (refusal : Refusal) → row_input_refusal call ≡ Some refusal → Stepped q (after_call s call) (row_said (row_call call).answer) (plain_row q call)
  unfolding plain_row
  refused refusal e =
      let by : plain_by (plain_refusal q call) q call ≡ (q, (number_of refusal, 0)) = rw (refusal_is q call, e) in
      rw (row_refused call e, by) (record { stands = st; same_answer = refl; more_ink = zero-add (inked q) })

  drew : row_input_refusal call ≡ None → Handed s call → Stepped q (after_call s call) (row_said (row_call call).answer) (plain_row q call)
  unfolding plain_row
  drew e handed =
      let g = standing q in
      let sound = sound_facts g st.sound in
      let same : call.grid ≡ g = handed.0 ∙ st.same_record in
      let index : call.index ≡ q.index = handed.1 ∙ st.same_index in
      let store : call.store ≡ q.store = handed.2 ∙ st.same_store in
      let known = not_refused call e in
      let left : q.n < q.grid.rows = subst (λ (h : Grid). h.progress.done < h.rows) same known.left in
      let below : ((p : ℕ) → symbol_at call.tape p < q.grid.symbols) = subst (λ (h : Grid). (p : ℕ) → symbol_at call.tape p < h.symbols) same known.below in
      let by : plain_by (plain_refusal q call) q call ≡ (with_row q call, (0, row_units q.grid.columns call.tape)) = rw (refusal_is q call, e) in
      rw (row_drawn call e, by, same, index, store)
      (record {
        stands =
            record {
              sound = subst (λ (h : Grid). grid_sound (advanced h call.tape) ≡ true) same (advanced_sound call known);
              same_record = refl;
              same_index = index_drawn_at g sound left call.tape call.swept q.index st.index_long;
              same_store = store_drawn_at g sound left call.tape q.store st.store_long;
              index_long = length-tabulate _ _ ∙ st.index_long;
              store_long = length-tabulate _ _ ∙ st.store_long;
              bytes = λ k h. get_or-tabulate (drawn_byte q call) (length q.index) k 0 (rw st.index_long h) ∙ byte_drawn q call k sound.row_least (st.bytes k h);
              stored = stored_drawn q call st.store_long left st.stored;
              below = below_drawn q call st.below below;
            };
        same_answer = refl;
        more_ink = ink_drawn q call;
      })

  pub one_call : (accepted (row_call call).answer ≡ true → Handed s call) → Stepped q (after_call s call) (row_said (row_call call).answer) (plain_row q call)
  one_call allowed = by (row_input_refusal call) refl
    where
      by : (refusal : Option Refusal) → row_input_refusal call ≡ refusal → Stepped q (after_call s call) (row_said (row_call call).answer) (plain_row q call)
      by None e = drew e (allowed (rw (row_drawn call e)))
      by (Some refusal) e = refused refusal e
