-- What the answer about an upright means, after every list of row calls (specs/UprightMeaning.antt): from what one pixel of a row says, by the bytes
-- and the store of a picture that stands as a plain one does.
use Rattle.std.proofs.Common.{ℕ, ◌+◌, ◌-◌, ◌*◌, ◌/◌, ◌≤◌, ◌<◌, ◌≡◌, refl, sym, ap, ◌∙◌, subst, Bool, true, false, cond, ◌↔◌, ◌⊎◌, inl, inr, arith, add-mul, mul-le-mul_right, div-lt_iff_lt-mul, le-div_iff_mul-le, one-mul, length, get_or, eq-eqb, ne_eqb, lt-ltb, le-leb, Option, Some, None, Result, Ok}
use Rattle.std.proofs.Math.Bool.{false≢true}
use Rattle.std.proofs.Math.Decide.{dec_lt}
use borrow.Author.Tests.{lt-leb}
use Rattle.refusal.specs.declared.Refusal.{Refusal}
use Rattle.slices.proofs.Within.{within_inside}
use Rattle.shade.specs.Index as byte
use Rattle.shade.specs.Shade.{symbol_shade}
use Rattle.shade.proofs.Shades.{symbol-paper}
use Rattle.tape.specs.Tape.{symbol_at}
use Rattle.columns.specs.declared.Columns.TheVariants.{Cells, Bins}
use Rattle.columns.specs.declared.Pair.{Pair}
use Rattle.columns.specs.Found.{pair, among}
use Rattle.columns.specs.Inner.Usable.{Usable}
use Rattle.columns.specs.Pixels.{beside, located, head_at}
use Rattle.columns.proofs.Tested.{among_facts, facts_among, beside_facts, nothing_found}
use Rattle.colours.specs.Meanings.{meaning_of}
use Rattle.grid.specs.Memory.{stored_cells}
use Rattle.line.specs.Line.{written, shade_at, is_swept, swept_over, pixel_at}
use Rattle.line.proofs.HeadPixel.{shade_most}
use Rattle.line.proofs.Paper.{shade_blank, pixel_margin, shade_margin}
use Rattle.picture.specs.declared.clicks.Location.{Location}
use Rattle.picture.specs.Clicks.{location_of, clicked}
use Rattle.picture.specs.declared.uprights.Verdict.{Verdict}
use Rattle.picture.specs.declared.uprights.Verdict.TheVariants.{Yes, No, Unknown}
use Rattle.picture.specs.Upright.{upright_refusal, symbol_says, head_says, meaning_says, pixel_says, any_to, together, column_says, upright_call}
use Rattle.picture.specs.Calls.{State}
use Rattle.picture.specs.Plain.{Plain, standing, in_band}
use Rattle.picture.specs.Demand3.{byte_at}
use Rattle.picture.specs.UprightMeaning.{ask, Asks, SomeWritten, NoneWritten, HeadElsewhere, Uprights, UprightsMean}
use Rattle.picture.proofs.Together.{no_yes, unknown_yes, unknown_no, any_found, any_none, all_yes, some_no, some_unknown}
use Rattle.picture.proofs.Step.{Stands, band_is, in_band_lem}
use Rattle.picture.proofs.Seen.{sound, out, byte_drawn}
use Rattle.picture.proofs.Demand3.{list_ran}

-- what a pixel says by its shade and by what goes over it: swept goes over paper alone, and says no as paper does
says_over : (shade : ℕ) → shade ≤ byte.ink_max → (head on : Bool) (under : Verdict)
    → meaning_says (meaning_of (cond head byte.head (cond on (swept_over shade) shade))) under ≡ cond head under (symbol_says shade)
says_over shade most true on under = refl
says_over shade most false on under = by (dec_lt 0 shade) on
  where
    blank : (on : Bool) → meaning_says (meaning_of (cond on (swept_over 0) 0)) under ≡ No
    blank true = refl
    blank false = refl

    over : 0 < shade → (on : Bool) → cond on (swept_over shade) shade ≡ shade
    over h true = rw (ne_eqb shade 0 (λ z. omega arith))
    over h false = refl

    ink : 0 < shade → meaning_says (meaning_of shade) under ≡ symbol_says shade
    ink h = rw (ne_eqb shade 0 (λ z. omega arith), le-leb shade byte.ink_max most, lt-ltb 0 shade h)

    by : Dec (0 < shade) → (on : Bool) → meaning_says (meaning_of (cond on (swept_over shade) shade)) under ≡ symbol_says shade
    by (yes h) on = ap (λ (n : ℕ). meaning_says (meaning_of n) under) (over h on) ∙ ink h
    by (no h) on = let zero : shade ≡ 0 = omega arith in rw zero (blank on)

-- some of the numbers found pass a test, or none does
some_or_none : (f : Option Pair) (test : ℕ → Bool) → ((k : ℕ) × (among f k ≡ true) × (test k ≡ true)) ⊎ ((k : ℕ) → among f k ≡ true → test k ≡ false)
some_or_none None test = inr (λ k e. absurd (false≢true e))
some_or_none (Some p) test = by (any_to (p.high + 1 - p.low) (λ j. test (p.low + j))) refl
  where
    by : (b : Bool) → any_to (p.high + 1 - p.low) (λ j. test (p.low + j)) ≡ b
        → ((k : ℕ) × (among (Some p) k ≡ true) × (test k ≡ true)) ⊎ ((k : ℕ) → among (Some p) k ≡ true → test k ≡ false)
    by true e =
        let f = any_found (p.high + 1 - p.low) (λ j. test (p.low + j)) e in
        inl (p.low + f.0, facts_among p.low p.high (p.low + f.0) (omega arith) (omega (arith, f.1)), f.2)
    by false e =
        inr (λ k a.
        let m = among_facts p.low p.high k a in
        let back : p.low + (k - p.low) ≡ k = omega (arith, m.0) in
        subst (λ (n : ℕ). test n ≡ false) back (any_none (p.high + 1 - p.low) (λ j. test (p.low + j)) e (k - p.low) (omega (arith, m.0, m.1))))

-- a test that says yes or no
test_yes : (b : Bool) → cond b Yes No ≡ Yes → b ≡ true
test_yes true e = refl
test_yes false e = absurd (no_yes e)

test_known : (b : Bool) → cond b Yes No ≡ Unknown → ⊥
test_known true e = unknown_yes (sym e)
test_known false e = unknown_no (sym e)

-- the shade of a symbol says what the symbol says
shade_says : (symbol symbols : ℕ) → symbol_says (symbol_shade symbol symbols) ≡ symbol_says symbol
shade_says symbol symbols = by (dec_lt 0 symbol)
  where
    by : Dec (0 < symbol) → symbol_says (symbol_shade symbol symbols) ≡ symbol_says symbol
    by (yes h) = rw (lt-ltb 0 symbol h, lt-ltb 0 (symbol_shade symbol symbols) (dark (λ z. (symbol-paper symbol symbols).0 z)))
      where
        dark : (symbol_shade symbol symbols ≡ 0 → symbol ≡ 0) → 0 < symbol_shade symbol symbols
        dark paper = above (dec_lt 0 (symbol_shade symbol symbols))
          where
            above : Dec (0 < symbol_shade symbol symbols) → 0 < symbol_shade symbol symbols
            above (yes l) = l
            above (no l) = let z = paper (omega arith) in absurd (omega arith)
    by (no h) = let zero : symbol ≡ 0 = omega arith in rw ((symbol-paper symbol symbols).1 zero, zero)

module _ (s : State) (q : Plain) (st : Stands s q) where
  -- what a head on pixel x of row i says
  abbrev under : ℕ → ℕ → Verdict
  under x i = head_says (location_of (standing q) i q.store (located q.grid.columns x))

  -- what each pixel of column x in row i says
  abbrev row_says : ℕ → ℕ → Verdict
  row_says x i = meaning_says (meaning_of (pixel_at q.grid (q.tapes i) (q.swept i) x)) (under x i)

  pixel_row : (x y i : ℕ) → x < q.grid.width → i < q.n → in_band q.grid i y ≡ true → pixel_says (standing q) q.index q.store x y ≡ row_says x i
  unfolding clicked
  pixel_row x y i h l e =
      let same : byte_at s x y ≡ get_or q.index (y * q.grid.width + x) 0 = rw (st.same_index, st.same_record) in
      let shown : clicked (standing q) q.store x y ≡ location_of (standing q) i q.store (located q.grid.columns x) = rw (band_is q.grid i y e, lt-ltb i q.n l) in
      ap (λ (n : ℕ). meaning_says (meaning_of n) (head_says (clicked (standing q) q.store x y))) (sym same ∙ byte_drawn s q st x y i h l e)
      ∙ ap (λ (found : Option Location). meaning_says (meaning_of (pixel_at q.grid (q.tapes i) (q.swept i) x)) (head_says found)) shown

  -- ---- a column's rows
  module _ (x a b : ℕ) (asks : Asks q x a b) where
    abbrev lines : ℕ
    lines = (b + 1 - a) * q.grid.row_px

    abbrev says : ℕ → Verdict
    says k = pixel_says (standing q) q.index q.store x (a * q.grid.row_px + k)

    asked : ask s x a b ≡ Ok (together lines says)
    unfolding upright_call upright_refusal column_says
    asked =
        rw (
          st.same_record,
          st.same_index,
          st.same_store,
          st.sound,
          eq-eqb (length q.index) (q.grid.width * q.grid.height) st.index_long,
          eq-eqb (length q.store) (q.grid.rows * stored_cells q.grid.columns) st.store_long,
          lt-ltb x q.grid.width asks.0,
          le-leb a b asks.1,
          lt-ltb b q.n asks.2,
        )

    said_is : (v : Verdict) → (ask s x a b ≡ Ok v) ↔ (together lines says ≡ v)
    said_is v = (λ e. there (sym asked ∙ e), λ e. asked ∙ ap Ok e)
      where
        there : ◌≡◌ {A = Result Verdict Refusal} (Ok (together lines says)) (Ok v) → together lines says ≡ v
        there e = cc

    -- line k of the rows is of one of them, and says what its row says
    line_row : (k : ℕ) → k < lines → (i : ℕ) × (a ≤ i) × (i ≤ b) × (says k ≡ row_says x i)
    line_row k h =
        let y = a * q.grid.row_px + k in
        let i = y / q.grid.row_px in
        let least = (sound s q st).row_least in
        let sum : a * q.grid.row_px + (b + 1 - a) * q.grid.row_px ≡ (a + (b + 1 - a)) * q.grid.row_px = sym (add-mul a (b + 1 - a) q.grid.row_px) in
        let whole : a + (b + 1 - a) ≡ b + 1 = omega (arith, asks.1) in
        let low : a ≤ i = (le-div_iff_mul-le least).1 (omega arith) in
        let high : i < b + 1 = (div-lt_iff_lt-mul least).1 (omega (arith, rw whole at sum)) in
        (i, low, omega arith, pixel_row x y i asks.0 (omega (arith, asks.2)) (in_band_lem q.grid y least))

    -- each row has a line
    row_line : (i : ℕ) → a ≤ i → i ≤ b → (k : ℕ) × (k < lines) × (says k ≡ row_says x i)
    row_line i l h =
        let least = (sound s q st).row_least in
        let k = (i - a) * q.grid.row_px in
        let sum : a * q.grid.row_px + (i - a) * q.grid.row_px ≡ (a + (i - a)) * q.grid.row_px = sym (add-mul a (i - a) q.grid.row_px) in
        let whole : a + (i - a) ≡ i = omega arith in
        let at : a * q.grid.row_px + k ≡ i * q.grid.row_px = rw whole at sum in
        let next : (i - a + 1) * q.grid.row_px ≤ (b + 1 - a) * q.grid.row_px = mul-le-mul_right q.grid.row_px (omega arith) in
        let band : in_band q.grid i (a * q.grid.row_px + k) ≡ true =
        within_inside (i * q.grid.row_px) (i * q.grid.row_px + q.grid.row_px) (a * q.grid.row_px + k) (omega (arith, at)) (omega (arith, at, least)) in
        (k, omega (arith, rw (add-mul, one-mul) at next), pixel_row x (a * q.grid.row_px + k) i asks.0 (omega (arith, asks.2)) band)

    all_rows : (ask s x a b ≡ Ok Yes) ↔ ((i : ℕ) → a ≤ i → i ≤ b → row_says x i ≡ Yes)
    all_rows = (
      λ e i l h. let r = row_line i l h in sym r.2 ∙ (all_yes lines says).0 ((said_is Yes).0 e) r.0 r.1,
      λ all. (said_is Yes).1 ((all_yes lines says).1 (λ k h. let r = line_row k h in r.3 ∙ all r.0 r.1 r.2)),
    )

    some_row : (ask s x a b ≡ Ok No) ↔ ((i : ℕ) × (a ≤ i) × (i ≤ b) × (row_says x i ≡ No))
    some_row = (
      λ e. let f = (some_no lines says).0 ((said_is No).0 e) in let r = line_row f.0 f.1 in (r.0, r.1, r.2, sym r.3 ∙ f.2),
      λ f. let r = row_line f.0 f.1 f.2 in (said_is No).1 ((some_no lines says).1 (r.0, r.1, r.2 ∙ f.3)),
    )

    unknown_row : ask s x a b ≡ Ok Unknown → (i : ℕ) × (a ≤ i) × (i ≤ b) × (row_says x i ≡ Unknown)
    unknown_row e =
        let f = some_unknown lines says ((said_is Unknown).0 e) in
        let r = line_row f.0 f.1 in
        (r.0, r.1, r.2, sym r.3 ∙ f.2)

  -- ---- what a row says
  module _ (x i : ℕ) (l : i < q.n) where
    abbrev shade : ℕ
    shade = shade_at q.grid.columns q.grid.symbols (q.tapes i) x

    -- whether the head is drawn there
    abbrev head_on : Bool
    head_on = among (head_at q.grid.columns (q.tapes i).head) x

    row_is : beside q.grid.columns x ≡ false → row_says x i ≡ cond head_on (under x i) (symbol_says shade)
    row_is e =
        says_over shade (shade_most q.grid.columns q.grid.symbols (q.tapes i) x (sound s q st).usable e (st.below i l) (sound s q st).symbols_most) head_on
        (is_swept q.grid.columns (q.swept i) x) (under x i)

    module _ (first count px x0 : ℕ) (cells : q.grid.columns ≡ Cells first count px x0) where
      row_margin : beside (Cells first count px x0) x ≡ true → row_says x i ≡ No
      row_margin side =
          let paper : pixel_at q.grid (q.tapes i) (q.swept i) x ≡ byte.background =
          pixel_margin q.grid (q.tapes i) (q.swept i) x (sound s q st).usable (rw cells side) (rw cells (shade_margin first count px x0 q.grid.symbols (q.tapes i) x side)) in
          ap (λ (n : ℕ). meaning_says (meaning_of n) (under x i)) paper

      row_cell : beside (Cells first count px x0) x ≡ false → row_says x i ≡ symbol_says (symbol_at (q.tapes i) (first + (x - x0) / px))
      unfolding shade_at
      row_cell on = row_is (rw cells on) ∙ by head_on
        where
          within : (x - x0) / px < count
          within =
              let u : Usable (Cells first count px x0) = subst Usable cells (sound s q st).usable in
              let f = beside_facts (Cells first count px x0) x on in
              (div-lt_iff_lt-mul u.0).1 (omega (arith, f.0, f.1))

          kept : get_or q.store (i * count + (x - x0) / px) 0 ≡ symbol_at (q.tapes i) (first + (x - x0) / px)
          kept = rw cells at (st.stored i ((x - x0) / px) l (rw cells within))

          cell : first + (x - x0) / px - first ≡ (x - x0) / px
          cell = omega arith

          by : (head : Bool) → cond head (under x i) (symbol_says shade) ≡ symbol_says (symbol_at (q.tapes i) (first + (x - x0) / px))
          by true = rw (cells, on, cell, kept)
          by false = rw (cells, on) (shade_says (symbol_at (q.tapes i) (first + (x - x0) / px)) q.grid.symbols)

    module _ (first cells width : ℕ) (bins : q.grid.columns ≡ Bins first cells width) (h : x < q.grid.width) where
      inside : beside q.grid.columns x ≡ false
      inside = sym (out s q st x) ∙ rw (lt-leb q.grid.width x h, bins)

      row_bin : row_says x i ≡ cond head_on Unknown (symbol_says shade)
      row_bin = let hidden : under x i ≡ Unknown = rw (inside, bins) in row_is inside ∙ ap (λ (v : Verdict). cond head_on v (symbol_says shade)) hidden

      blank : (shade ≡ byte.background) ↔ NoneWritten q x i
      blank = shade_blank q.grid.columns q.grid.symbols (q.tapes i) x (sound s q st).usable inside

      bin_yes : (row_says x i ≡ Yes) ↔ (SomeWritten q x i × HeadElsewhere q x i)
      bin_yes = (
        λ e. there head_on (some_or_none (located q.grid.columns x) (written (q.tapes i))) (sym row_bin ∙ e),
        λ f. row_bin ∙ rw (f.1, lt-ltb 0 shade (dark f.0 (dec_lt 0 shade))),
      )
        where
          dark : SomeWritten q x i → Dec (0 < shade) → 0 < shade
          dark f (yes m) = m
          dark f (no m) = let zero : shade ≡ 0 = omega arith in absurd (false≢true (sym (blank.0 zero f.0 f.1) ∙ f.2))

          there : (head : Bool) → SomeWritten q x i ⊎ NoneWritten q x i → cond head Unknown (symbol_says shade) ≡ Yes → SomeWritten q x i × (head ≡ false)
          there true f e = absurd (unknown_yes e)
          there false (inl f) e = (f, refl)
          there false (inr f) e = absurd (no_yes (sym (rw (blank.1 f)) ∙ e))

      bin_no : (row_says x i ≡ No) ↔ (NoneWritten q x i × HeadElsewhere q x i)
      bin_no = (λ e. there head_on (dec_lt 0 shade) (sym row_bin ∙ e), λ f. row_bin ∙ rw (f.1, blank.1 f.0))
        where
          there : (head : Bool) → Dec (0 < shade) → cond head Unknown (symbol_says shade) ≡ No → NoneWritten q x i × (head ≡ false)
          there true f e = absurd (unknown_no e)
          there false (yes m) e = absurd (no_yes (sym e ∙ rw (lt-ltb 0 shade m)))
          there false (no m) e = (blank.0 (omega arith), refl)

  -- ---- the clauses
  drawn : (x a b i : ℕ) → Asks q x a b → i ≤ b → i < q.n
  drawn x a b i asks h = omega (arith, asks.2)

  module _ (first count px x0 : ℕ) (cells : q.grid.columns ≡ Cells first count px x0) (x a b : ℕ) (asks : Asks q x a b) where
    -- in every row the column's cell is written
    abbrev Cell : Type 0
    Cell = (k : ℕ) × (located q.grid.columns x ≡ Some (pair k k)) × ((i : ℕ) → a ≤ i → i ≤ b → written (q.tapes i) k ≡ true)

    cell_yes : (ask s x a b ≡ Ok Yes) ↔ Cell
    cell_yes = (λ e. there (beside (Cells first count px x0) x) refl ((all_rows x a b asks).0 e), λ f. (all_rows x a b asks).1 (back f (beside (Cells first count px x0) x) refl))
      where
        there : (side : Bool) → beside (Cells first count px x0) x ≡ side → ((i : ℕ) → a ≤ i → i ≤ b → row_says x i ≡ Yes) → Cell
        there true side all =
            absurd (no_yes (sym (row_margin x a (drawn x a b a asks asks.1) first count px x0 cells side) ∙ all a (omega arith) asks.1))
        there false on all = (
          first + (x - x0) / px,
          rw (cells, on),
          λ i l h. test_yes (written (q.tapes i) (first + (x - x0) / px)) (sym (row_cell x i (drawn x a b i asks h) first count px x0 cells on) ∙ all i l h),
        )

        back : Cell → (side : Bool) → beside (Cells first count px x0) x ≡ side → (i : ℕ) → a ≤ i → i ≤ b → row_says x i ≡ Yes
        back f true side i l h = absurd (nothing_found (pair f.0 f.0) (rw (cells, side) at f.1))
        back f false on i l h =
            let same : first + (x - x0) / px ≡ f.0 = here (rw (cells, on) at f.1) in
            row_cell x i (drawn x a b i asks h) first count px x0 cells on ∙ rw (same, f.2 i l h)
          where
            here : Some (pair (first + (x - x0) / px) (first + (x - x0) / px)) ≡ Some (pair f.0 f.0) → first + (x - x0) / px ≡ f.0
            here e = let same : pair (first + (x - x0) / px) (first + (x - x0) / px) ≡ pair f.0 f.0 = cc in ap (λ (p : Pair). p.low) same

    cell_known : ask s x a b ≡ Ok Unknown → ⊥
    cell_known e = let r = unknown_row x a b asks e in by r.0 r.2 r.3 (beside (Cells first count px x0) x) refl
      where
        by : (i : ℕ) → i ≤ b → row_says x i ≡ Unknown → (side : Bool) → beside (Cells first count px x0) x ≡ side → ⊥
        by i h e true side = unknown_no (sym e ∙ row_margin x i (drawn x a b i asks h) first count px x0 cells side)
        by i h e false on = test_known (written (q.tapes i) (first + (x - x0) / px)) (sym (row_cell x i (drawn x a b i asks h) first count px x0 cells on) ∙ e)

  uprights : Uprights q s
  uprights =
      record {
        answered = λ x a b asks. (together (lines x a b asks) (says x a b asks), asked x a b asks);
        yes_in_cells = cell_yes;
        known_in_cells = cell_known;
        yes_in_bins = λ first cells width bins x a b asks. (
          λ e i l h. (bin_yes x i (drawn x a b i asks h) first cells width bins asks.0).0 ((all_rows x a b asks).0 e i l h),
          λ f. (all_rows x a b asks).1 (λ i l h. (bin_yes x i (drawn x a b i asks h) first cells width bins asks.0).1 (f i l h)),
        );
        no_in_bins = λ first cells width bins x a b asks. (
          λ e.
              let r = (some_row x a b asks).0 e in
              let f = (bin_no x r.0 (drawn x a b r.0 asks r.2) first cells width bins asks.0).0 r.3 in
              (r.0, r.1, r.2, f.0, f.1),
          λ f. (some_row x a b asks).1 (f.0, f.1, f.2, (bin_no x f.0 (drawn x a b f.0 asks f.2) first cells width bins asks.0).1 (f.3, f.4)),
        );
      }

pub uprights_mean : UprightsMean
uprights_mean o g fits index store start opens calls allowed = uprights _ _ (list_ran o g fits index store start opens calls allowed).stands
