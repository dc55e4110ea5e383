-- What is to be seen where a picture stands as a plain one does: the bytes of its pixels, and the clauses that follow from them.
use Rattle.std.proofs.Common.{ℕ, ◌+◌, ◌-◌, ◌*◌, ◌/◌, ◌%◌, ◌≤◌, ◌<◌, ◌≡◌, refl, sym, ◌∙◌, Bool, true, false, ◌||◌, cond, ◌↔◌, ◌⊎◌, inl, inr, arith, mod-eq_of_lt, add-mul, one-mul, mul-le-mul_right, le-div_iff_mul-le, ltb, leb, get_or, lt-ltb, le-leb, ltb-true, ltb-false, Some, None, Ok}
use Rattle.std.proofs.Math.Bool.{false≢true, or-true}
use Rattle.std.proofs.Math.Nat.{mul-add-div_right, mul-add-mod_self_right, div-eq_of_lt}
use borrow.Author.Tests.{lt-leb}
use Rattle.slices.proofs.Within.{inside_within}
use Rattle.shade.specs.Index as byte
use Rattle.tape.specs.Tape.{Tape}
use Rattle.columns.specs.declared.Columns.{Columns}
use Rattle.columns.specs.declared.Columns.TheVariants.{Cells, Bins}
use Rattle.columns.specs.Found.{pair, among}
use Rattle.columns.specs.Window.{first_of, in_window}
use Rattle.columns.specs.Pixels.{beside, located, head_at, cells_of, head_on}
use Rattle.columns.proofs.Laws as columns
use Rattle.columns.proofs.Soundness.{sound_right}
use Rattle.grid.proofs.Sound.{Sound, sound_facts, sound_columns}
use Rattle.line.specs.Line.{shade_at, pixel_at}
use Rattle.columns.proofs.Tested.{facts_among}
use Rattle.line.proofs.HeadPixel.{pixel-head}
use Rattle.line.proofs.Paper.{pixel-paper, pixel_margin, shade_margin}
use Rattle.picture.specs.Calls.{State}
use Rattle.picture.specs.Plain.{Plain, standing, in_band, in_margin, plain_locate}
use Rattle.picture.specs.Demand3.{cells_at, byte_at, click, Undrawn, NothingSeen}
use Rattle.picture.proofs.Indexed.{pixel_place}
use Rattle.picture.proofs.Step.{Stands, band_is, in_band_lem}
use Rattle.picture.proofs.PlainClicks.{outside-beside, click_plain, click-cells}

-- a pixel in a margin has no shade
margin_shade : (columns : Columns) (symbols : ℕ) (t : Tape) (x : ℕ) → in_margin columns x ≡ true → shade_at columns symbols t x ≡ byte.background
margin_shade (Cells first count px x0) symbols t x e = shade_margin first count px x0 symbols t x e
margin_shade (Bins first cells width) symbols t x e = absurd (false≢true e)

-- a pixel that is not beside the window locates to the cells that it shows, and a head in the window is drawn on its pixels
some_cells : (columns : Columns) (x : ℕ) → beside columns x ≡ false → located columns x ≡ Some (cells_of columns x)
some_cells columns x e = rw e

some_pixels : (columns : Columns) (head : ℕ) → in_window columns head ≡ true → head_at columns head ≡ Some (head_on columns (head - first_of columns))
some_pixels columns head e = rw e

module _ (s : State) (q : Plain) (st : Stands s q) where
  pub sound : Sound (standing q)
  sound = sound_facts (standing q) st.sound

  w : ℕ
  w = q.grid.width

  pub out : (x : ℕ) → (leb q.grid.width x || in_margin q.grid.columns x) ≡ beside q.grid.columns x
  out x = outside-beside q.grid.width q.grid.columns x (sound_columns (standing q) st.sound)

  -- the drawn lines are lines of the picture
  band_within : (i y : ℕ) → i < q.n → in_band q.grid i y ≡ true → y < q.grid.height
  band_within i y h e =
      let f = inside_within (i * q.grid.row_px) (i * q.grid.row_px + q.grid.row_px) y e in
      let m : (i + 1) * q.grid.row_px ≤ q.grid.rows * q.grid.row_px = mul-le-mul_right q.grid.row_px (omega (arith, sound.done_most)) in
      omega (arith, f.1, rw (add-mul, one-mul) at m, sound.rows_within)

  pub byte_is : (x y : ℕ) → x < q.grid.width → y < q.grid.height
      → byte_at s x y ≡ cond (ltb (y / q.grid.row_px) q.n) (pixel_at q.grid (q.tapes (y / q.grid.row_px)) (q.swept (y / q.grid.row_px)) x) 0
  byte_is x y h l =
      let k = y * q.grid.width + x in
      let line : k / q.grid.width ≡ y = mul-add-div_right sound.width_least y x ∙ rw (div-eq_of_lt h) (omega arith) in
      let column : k % q.grid.width ≡ x = mul-add-mod_self_right y q.grid.width x ∙ mod-eq_of_lt h in
      let at : byte_at s x y ≡ get_or q.index k 0 = rw (st.same_index, st.same_record) in
      at ∙ st.bytes k (pixel_place q.grid.width q.grid.height x y h l) ∙ rw (line, column)

  module _ (x y i : ℕ) (h : x < q.grid.width) (l : i < q.n) (e : in_band q.grid i y ≡ true) where
    row_is : y / q.grid.row_px ≡ i
    row_is = band_is q.grid i y e

    -- in a drawn band
    pub byte_drawn : byte_at s x y ≡ pixel_at q.grid (q.tapes i) (q.swept i) x
    byte_drawn = byte_is x y h (band_within i y l e) ∙ rw (row_is, lt-ltb i q.n l)

    cells_drawn : cells_at (click s x y) ≡ located q.grid.columns x
    cells_drawn = click-cells s q st x y (rw row_is l)

  pub nothing_drawn : (x y : ℕ) → x < q.grid.width → y < q.grid.height → Undrawn q y ⊎ (in_margin q.grid.columns x ≡ true)
      → (byte_at s x y ≡ byte.background) × (click s x y ≡ Ok None)
  unfolding plain_locate
  nothing_drawn x y h l (inl undrawn) = by (ltb (y / q.grid.row_px) q.n) refl
    where
      by : (b : Bool) → ltb (y / q.grid.row_px) q.n ≡ b → (byte_at s x y ≡ byte.background) × (click s x y ≡ Ok None)
      by true e = absurd (false≢true (sym (undrawn (y / q.grid.row_px) (ltb-true _ _ e)) ∙ in_band_lem q.grid y sound.row_least))
      by false e = (byte_is x y h l ∙ rw e, click_plain s q st x y ∙ rw (le-leb q.n (y / q.grid.row_px) (ltb-false _ _ e)))
  nothing_drawn x y h l (inr margin) = (byte_is x y h l ∙ by (ltb (y / q.grid.row_px) q.n), click_plain s q st x y ∙ rw (margin, or-true, or-true))
    where
      side : beside q.grid.columns x ≡ true
      side = sym (out x) ∙ rw (margin, or-true)

      by : (b : Bool) → cond b (pixel_at q.grid (q.tapes (y / q.grid.row_px)) (q.swept (y / q.grid.row_px)) x) 0 ≡ byte.background
      by true = pixel_margin q.grid (q.tapes _) (q.swept _) x sound.usable side (margin_shade q.grid.columns q.grid.symbols (q.tapes _) x margin)
      by false = refl

  pub outside : (x y : ℕ) → (q.grid.width ≤ x) ⊎ (q.grid.height ≤ y) → click s x y ≡ Ok None
  unfolding plain_locate
  outside x y (inl h) = click_plain s q st x y ∙ rw (le-leb q.grid.width x h, or-true)
  outside x y (inr h) =
      let m : q.n * q.grid.row_px ≤ q.grid.rows * q.grid.row_px = mul-le-mul_right q.grid.row_px sound.done_most in
      let past : q.n ≤ y / q.grid.row_px = (le-div_iff_mul-le sound.row_least).1 (omega (arith, m, sound.rows_within)) in
      click_plain s q st x y ∙ rw (le-leb q.n (y / q.grid.row_px) past)

  pub paper_is : (x y i : ℕ) → x < q.grid.width → i < q.n → in_band q.grid i y ≡ true → in_margin q.grid.columns x ≡ false
      → (from : ℕ) × (to : ℕ) × (cells_at (click s x y) ≡ Some (pair from to)) × ((byte_at s x y ≡ byte.background) ↔ NothingSeen q i x from to)
  paper_is x y i h l e margin =
      let on : beside q.grid.columns x ≡ false = sym (out x) ∙ rw (lt-leb q.grid.width x h, margin) in
      let c = cells_of q.grid.columns x in
      let some = some_cells q.grid.columns x on in
      let paper = pixel-paper q.grid (q.tapes i) (q.swept i) x sound.usable on in
      let at = byte_drawn x y i h l e in (
        c.low,
        c.high,
        cells_drawn x y i h l e ∙ some,
        (λ z. rw some at (paper.0 (sym at ∙ z)), λ seen. at ∙ paper.1 (rw some seen)),
      )

  pub head_is : (x y i : ℕ) → x < q.grid.width → i < q.n → in_band q.grid i y ≡ true
      → ((byte_at s x y ≡ byte.head) ↔ (among (head_at q.grid.columns (q.tapes i).head) x ≡ true))
      × (byte_at s x y ≡ byte.head → among (cells_at (click s x y)) (q.tapes i).head ≡ true)
  head_is x y i h l e = by (beside q.grid.columns x) refl
    where
      t : Tape
      t = q.tapes i

      at : byte_at s x y ≡ pixel_at q.grid t (q.swept i) x
      at = byte_drawn x y i h l e

      located_there : among (head_at q.grid.columns t.head) x ≡ true → among (cells_at (click s x y)) t.head ≡ true
      located_there on = rw (cells_drawn x y i h l e) (columns.head-located q.grid.columns sound.usable t.head x on)

      by : (b : Bool) → beside q.grid.columns x ≡ b
          → ((byte_at s x y ≡ byte.head) ↔ (among (head_at q.grid.columns t.head) x ≡ true))
          × (byte_at s x y ≡ byte.head → among (cells_at (click s x y)) t.head ≡ true)
      by true side =
          let margin : in_margin q.grid.columns x ≡ beside q.grid.columns x = rw (lt-leb q.grid.width x h) at (out x) in
          let paper : byte_at s x y ≡ byte.background = at ∙ pixel_margin q.grid t (q.swept i) x sound.usable side (margin_shade q.grid.columns q.grid.symbols t x (margin ∙ side)) in
          let none : among (head_at q.grid.columns t.head) x ≡ true → ⊥ =
          λ on. false≢true (rw side at (columns.head-located q.grid.columns sound.usable t.head x on)) in
          ((λ z. absurd (omega arith), λ on. absurd (none on)), λ z. absurd (omega arith))
      by false on =
          let p = pixel-head q.grid t (q.swept i) x sound.usable on (st.below i l) sound.symbols_most in
          ((λ z. p.0 (sym at ∙ z), λ a. at ∙ p.1 a), λ z. located_there (p.0 (sym at ∙ z)))

  pub head_seen : (y i : ℕ) → i < q.n → in_band q.grid i y ≡ true → in_window q.grid.columns (q.tapes i).head ≡ true
      → (x : ℕ) × (x < q.grid.width) × (byte_at s x y ≡ byte.head)
  head_seen y i l e window =
      let head = (q.tapes i).head in
      let p = head_on q.grid.columns (head - first_of q.grid.columns) in
      let drawn = some_pixels q.grid.columns head window in
      let r = columns.head_range_lem q.grid.columns sound.usable head p drawn in
      let h : p.low < q.grid.width = omega (arith, r.0, r.1, sound_right q.grid.width q.grid.columns (sound_columns (standing q) st.sound)) in
      (p.low, h, (head_is p.low y i h l e).0.1 (rw drawn (facts_among p.low p.high p.low (omega arith) r.0)))

  pub every_cell : (y i k : ℕ) → i < q.n → in_band q.grid i y ≡ true → in_window q.grid.columns k ≡ true
      → (x : ℕ) × (x < q.grid.width) × (among (cells_at (click s x y)) k ≡ true)
  every_cell y i k l e window =
      let c = columns.every_cell q.grid.columns sound.usable k window in
      let x = c.0 in
      let h : x < q.grid.width = omega (arith, c.1, sound_right q.grid.width q.grid.columns (sound_columns (standing q) st.sound)) in
      (x, h, rw (cells_drawn x y i h l e) c.2)
