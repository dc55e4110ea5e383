-- The worked pictures (RULES) follow from the definitions: all but 9, whose 2^50 cells no one counts, by computing them.
use Rattle.std.proofs.Common.{ℕ, zero, suc, ◌-◌, ◌/◌, ◌^◌, ◌≡◌, refl, ap, ◌∙◌, Bool, true, false, cond, List, [], ◌∷◌, arith, le_refl, mul-one, zero-mul, ltb, get_or, lt-ltb, le-ltb, le-leb, Option, Some, None, Result, Ok}
use borrow.Author.Tests.{lt-leb}
use lib.Ieee.{add, sub, mul, div, round, lt, of_int}
use Rattle.refusal.specs.declared.Refusal.{Refusal}
use Rattle.refusal.specs.declared.Refusal.TheVariants as refusal
use Rattle.refusal.specs.Numbers.{number_of}
use Rattle.slices.specs.Tabulate.{tabulate}
use Rattle.slices.specs.Same.{same}
use Rattle.shade.specs.Byte.{byte_of}
use Rattle.shade.specs.Share.{share}
use Rattle.shade.specs.Shade.{ink_of, tally_shade, symbol_shade}
use Rattle.tape.specs.Tape.{Tape, cells, symbol_at}
use Rattle.tape.specs.Checks.{total}
use Rattle.tape.specs.Joined.{differing}
use Rattle.columns.specs.Found.{pair, among}
use Rattle.columns.specs.Window.{in_window, sound_in}
use Rattle.columns.specs.Bins.{sum_to, tally, tallies, units_of, written_in, overlap}
use Rattle.columns.proofs.Sums.{sum_same}
use Rattle.columns.proofs.Tally.{run-overlap}
use Rattle.colours.specs.Mix.{held_of, channel_of, blend_of, rounded_of, mix_of, tint}
use Rattle.colours.specs.Meanings.{colour_at}
use Rattle.grid.specs.Soundness.{grid_sound}
use Rattle.grid.specs.Fit.{least_of, greatest_of, largest, layout_of, exact_refusal, fit_exact, overview_refusal, fit_overview}
use Rattle.grid.specs.Opening.{open_refusal, open_call}
use Rattle.grid.specs.Asking.{range_call}
use Rattle.line.specs.Altered.{repeated, overwritten}
use Rattle.line.specs.Line.{written, shade_at, row_units, line_of}
use Rattle.rows.specs.RowCall.{RowInput, row_refusal, row_input_refusal, drawn_index, drawn_store, row_call, row_said}
use Rattle.picture.specs.declared.clicks.Location.{Location}
use Rattle.picture.specs.Clicks.{locate_refusal, clicked, locate_call}
use Rattle.picture.specs.Upright.{upright_refusal, any_to, column_says, upright_call}
use Rattle.picture.specs.Equal.{equal_refusal, alike, equal_call}
use Rattle.picture.specs.Calls.{after}
use Rattle.picture.proofs.RowCalls.{row_refused, row_drawn}
use Rattle.picture.specs.Worked.{at, opened_on, call_on, ninth, ninth_row, OneWritten, beside_cell0, Worked}

-- halted or not
either : (P : Bool → Type 0) → P true × P false → (halted : Bool) → P halted
either P p true = p.0
either P p false = p.1

-- drawn or not
nothing_either : (drawn : Bool) → ◌≡◌ {A = Result (Option Location) Refusal} (Ok (cond drawn None None)) (Ok None)
nothing_either true = refl
nothing_either false = refl

-- 9: the one bin's tally is 1
one_unit : (t : Tape) (m : ℕ) → OneWritten t m → tally 1 (2 ^ 50) (λ k. written t (at k)) 0 ≡ 1
unfolding tally
one_unit t m one =
    sum_same (2 ^ 50) _ (λ k. cond (among (Some (pair m m)) k) (overlap 1 (2 ^ 50) k 0) 0) (λ k h. ap (λ (b : Bool). cond b (overlap 1 (2 ^ 50) k 0) 0) (one.1 k h))
    ∙ run-overlap 1 (2 ^ 50) m m 0 (le_refl m) one.0 ∙ rw (mul-one, zero-mul) (omega arith)

least-ink : tally_shade 1 (2 ^ 50) ≡ 8
unfolding tally_shade ink_of share byte_of mul div of_int
least-ink = refl

one_line : (t : Tape) (m : ℕ) → OneWritten t m → in_window ninth.columns t.head ≡ false → line_of ninth t None ≡ 8 ∷ []
unfolding line_of tabulate shade_at
one_line t m one outside = rw (outside, one_unit t m one, least-ink)

-- no refusal's number is 0
no_zero : (refusal : Refusal) → number_of refusal ≡ 0 → ⊥
no_zero refusal.Size e = absurd (omega (arith, e))
no_zero refusal.Symbols e = absurd (omega (arith, e))
no_zero refusal.Position e = absurd (omega (arith, e))
no_zero refusal.Reversed e = absurd (omega (arith, e))
no_zero refusal.Heads e = absurd (omega (arith, e))
no_zero refusal.Cells e = absurd (omega (arith, e))
no_zero refusal.IndexLength e = absurd (omega (arith, e))
no_zero refusal.StoreLength e = absurd (omega (arith, e))
no_zero refusal.TalliesLength e = absurd (omega (arith, e))
no_zero refusal.OutputLength e = absurd (omega (arith, e))
no_zero refusal.Runs e = absurd (omega (arith, e))
no_zero refusal.Unjoined e = absurd (omega (arith, e))
no_zero refusal.Reach e = absurd (omega (arith, e))
no_zero refusal.Swept e = absurd (omega (arith, e))
no_zero refusal.Complete e = absurd (omega (arith, e))
no_zero refusal.Record e = absurd (omega (arith, e))
no_zero refusal.Upright e = absurd (omega (arith, e))
no_zero refusal.PageWidth e = absurd (omega (arith, e))
no_zero refusal.PageLength e = absurd (omega (arith, e))

-- the row by its line
abbrev ninth_call : Tape → RowInput
ninth_call = call_on (opened_on ninth 1 0) (7 ∷ [])

row_by : (t : Tape) (m : ℕ) → OneWritten t m → in_window ninth.columns t.head ≡ false → row_input_refusal (ninth_call t) ≡ None → (ninth_row t).index ≡ 8 ∷ []
unfolding open_call open_refusal grid_sound sound_in drawn_index repeated overwritten
row_by t m one outside e =
    rw (row_drawn (ninth_call t) e) (ap (λ (line : List ℕ). overwritten 0 (repeated 1 line) (0 ∷ [])) (one_line t m one outside))

one_row : (t : Tape) (m : ℕ) → OneWritten t m → in_window ninth.columns t.head ≡ false → (row_said (ninth_row t).answer).0 ≡ 0 → (ninth_row t).index ≡ 8 ∷ []
one_row t m one outside z = by (row_input_refusal (ninth_call t)) refl
  where
    by : (refusal : Option Refusal) → row_input_refusal (ninth_call t) ≡ refusal → (ninth_row t).index ≡ 8 ∷ []
    by None e = row_by t m one outside e
    by (Some refusal) e = absurd (no_zero refusal (rw (row_refused (ninth_call t) e) at z))

-- its units are the one bin's tally
units_by : (t : Tape) (m : ℕ) → OneWritten t m → row_units ninth.columns t ≡ 1
unfolding units_of tallies tabulate sum_to
units_by t m one = rw (one_unit t m one)

one_units : (t : Tape) (m : ℕ) → OneWritten t m → row_input_refusal (ninth_call t) ≡ None → row_said (ninth_row t).answer ≡ (0, 1)
one_units t m one e =
    rw (row_drawn (ninth_call t) e) (ap (λ (units : ℕ). (0, units)) (units_by t m one))

cell_0 : (k : ℕ) → written beside_cell0 (at k) ≡ among (Some (pair 0 0)) k
unfolding symbol_at cells
cell_0 k =
    let right : ltb (at k) (2 ^ 63 - 1) ≡ false = le-ltb (at k) (2 ^ 63 - 1) (omega arith) in
    let past : ltb (2 ^ 63 - 1) (at k) ≡ true = lt-ltb (2 ^ 63 - 1) (at k) (omega arith) in
    let place : at k - suc (2 ^ 63 - 1) ≡ k = omega arith in
    rw (right, past, place) (by k)
  where
    by : (k : ℕ) → ltb 0 (get_or (1 ∷ []) k 0) ≡ among (Some (pair 0 0)) k
    by zero = refl
    by (suc k) = rw (le-leb 0 (suc k) (omega arith), lt-leb (suc k) 0 (omega arith))

alone : OneWritten beside_cell0 0
alone = (omega arith, λ k h. cell_0 k)

pub worked : Worked
unfolding fit_exact exact_refusal layout_of total differing least_of greatest_of largest fit_overview overview_refusal range_call grid_sound sound_in open_call open_refusal
    after row_call row_refusal drawn_index drawn_store repeated overwritten line_of tabulate shade_at symbol_at cells symbol_shade tally_shade ink_of share byte_of tally tallies sum_to units_of written_in
    locate_call locate_refusal clicked upright_call upright_refusal column_says any_to equal_call equal_refusal alike same colour_at mix_of blend_of rounded_of channel_of held_of tint add sub mul div round of_int lt
worked =
    record {
      picture_1 = (λ halted. refl, refl, refl);
      picture_2 = (refl, refl);
      picture_3 = (refl, refl, refl);
      picture_4 = (refl, refl, refl, refl, refl);
      picture_5 = (refl, refl, refl, refl);
      picture_6 = (refl, λ y. (nothing_either (ltb (y / 2) 5), nothing_either (ltb (y / 2) 5)), refl, refl);
      picture_7 = (refl, refl, either _ (refl, refl), either _ (refl, refl));
      picture_8 = (refl, refl, either _ (refl, refl), either _ (refl, refl));
      picture_9 = (refl, one_row, one_units beside_cell0 0 alone refl, row_by beside_cell0 0 alone refl refl);
      picture_swept = (refl, refl);
      picture_10 = (refl, refl, refl);
      picture_11 = (refl, refl);
      picture_12 = (refl, refl, refl);
      picture_13 = (refl, refl, refl, refl);
      picture_14 = (refl, refl);
      picture_15 = (refl, refl, refl, refl);
      picture_16 = (refl, refl, refl, refl);
    }
