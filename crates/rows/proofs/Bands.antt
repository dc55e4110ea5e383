-- The lines of a row: a first line that is shaded, marked and copied down is the row's line, as often as the row is high.
use Rattle.std.proofs.Common.{Option, Some, None, ℕ, zero, suc, ◌+◌, ◌-◌, ◌*◌, ◌%◌, ◌≤◌, ◌<◌, ◌≡◌, refl, sym, ap, ◌∙◌, subst, false, cond, List, ◌++◌, arith, suc-mul, zero-mul, mod-lt, mod-eq_of_lt, length, get_or, drop, length-append, length-drop, ext_get_or, get_or-append-add, get_or-drop}
use Rattle.std.proofs.Math.Bool.{and-false}
use Rattle.std.proofs.Math.Decide.{dec_lt}
use Rattle.std.proofs.Math.Nat.{mul-add-mod_self_right}
use Rattle.std.proofs.Math.ListN.{get_or-append}
use borrow.Author.Tests.{lt-leb}
use Rattle.slices.proofs.Tabulated.{length-tabulate, get_or-tabulate}
use Rattle.shade.specs.Index as byte
use Rattle.tape.specs.Tape.{Tape}
use Rattle.columns.specs.declared.Pair.{Pair}
use Rattle.columns.specs.Found.{among}
use Rattle.columns.specs.Pixels.{end_pixel, head_at}
use Rattle.grid.specs.declared.Grid.{Grid}
use Rattle.slices.specs.Inner.Filled.{altered}
use Rattle.line.specs.Altered.{repeated}
use Rattle.line.specs.Inner.Altered.{altered_on, Within}
use Rattle.line.proofs.SweptPixel.{swept_is}
use Rattle.line.specs.Line.{shade_at, swept_over, pixel_at, line_of}
use Rattle.line.specs.Inner.Swept.{swept_pixels}
use Rattle.grid.proofs.Sound.{Sound, line_within}
use Rattle.slices.proofs.Altered.{length-altered, altered_inside, altered_above}
use Rattle.line.proofs.Altered.{length_on, on_at}
use Rattle.line.proofs.Shading.{copied_at}
use Rattle.line.proofs.Parts.{head-within, swept-within}

pub length-repeated : (h : ℕ) (line : List ℕ) → length (repeated h line) ≡ h * length line
unfolding repeated
length-repeated zero line = sym (zero-mul (length line))
length-repeated (suc h) line = rw (length-append, length-repeated h line, suc-mul)

-- each byte of a repeated line is that of its column
pub repeated-at : (h : ℕ) (line : List ℕ) (k : ℕ) → k < h * length line → get_or (repeated h line) k 0 ≡ get_or line (k % length line) 0
unfolding repeated
repeated-at zero line k l = let none : k < 0 = rw zero-mul at l in absurd (omega arith)
repeated-at (suc h) line k l = by (repeated-at h line k) (dec_lt k (h * length line))
  where
    by : (k < h * length line → get_or (repeated h line) k 0 ≡ get_or line (k % length line) 0) → Dec (k < h * length line)
        → get_or (repeated h line ++ line) k 0 ≡ get_or line (k % length line) 0
    by rest (yes b) = get_or-append (repeated h line) line 0 k (rw length-repeated b) ∙ rest b
    by rest (no b) =
        let j = k - h * length line in
        let at : length (repeated h line) + j ≡ k = rw length-repeated (omega arith) in
        let split : h * length line + j ≡ k = omega arith in
        let last : j < length line = omega (arith, rw suc-mul at l) in
        let column : k % length line ≡ j = ap (λ (n : ℕ). n % length line) (sym split) ∙ mul-add-mod_self_right h (length line) j ∙ mod-eq_of_lt last in
        ap (λ (n : ℕ). get_or (repeated h line ++ line) n 0) (sym at) ∙ get_or-append-add (repeated h line) line j 0 ∙ ap (λ (n : ℕ). get_or line n 0) (sym column)

among-past : (found : Option Pair) (n k : ℕ) → Within found n → n ≤ k → among found k ≡ false
among-past None n k w h = refl
among-past (Some p) n k w h = rw (lt-leb k p.high (omega arith), and-false)

module _ (g : Grid) (t : Tape) (swept : Option Pair) (band shaded marked out : List ℕ) (s : Sound g) (right : end_pixel g.columns ≤ g.width)
    (room : g.row_px * g.width ≤ length band)
    (shades : shaded ≡ altered (λ x b. shade_at g.columns g.symbols t x) 0 g.width band)
    (marks : marked ≡ altered_on (λ b. byte.head) (head_at g.columns t.head) (altered_on swept_over (swept_pixels g.columns swept) shaded))
    (copies : out ≡ altered (λ k b. get_or marked (k % g.width) 0) g.width (g.row_px * g.width) marked) where
  w : ℕ
  w = g.width

  size : ℕ
  size = g.row_px * g.width

  one_line : w ≤ size
  unfolding w size
  one_line = line_within g s size (omega arith)

  some : 0 < w
  unfolding w
  some = s.width_least

  shaded_long : length shaded ≡ length band
  shaded_long = ap length shades ∙ length-altered _ _ _ _

  marked_long : length marked ≡ length band
  marked_long = ap length marks ∙ length_on (λ b. byte.head) _ (head_at g.columns t.head) ∙ length_on swept_over shaded (swept_pixels g.columns swept) ∙ shaded_long

  marked_at : (k : ℕ) → k < length band
      → get_or marked k 0 ≡ cond (among (head_at g.columns t.head) k) byte.head (cond (among (swept_pixels g.columns swept) k) (swept_over (get_or shaded k 0)) (get_or shaded k 0))
  marked_at k h =
      let n : k < length shaded = rw shaded_long h in
      let m : k < length (altered_on swept_over (swept_pixels g.columns swept) shaded) = rw (length_on swept_over shaded (swept_pixels g.columns swept)) n in
      ap (λ (xs : List ℕ). get_or xs k 0) marks ∙ on_at (λ b. byte.head) _ (head_at g.columns t.head) k m
      ∙ rw (on_at swept_over shaded (swept_pixels g.columns swept) k n)

  -- on the line
  pixel : (x : ℕ) → x < w → get_or marked x 0 ≡ pixel_at g t swept x
  unfolding w size
  pixel x h =
      let n : x < length band = omega (arith, one_line) in
      let e : get_or shaded x 0 ≡ shade_at g.columns g.symbols t x = ap (λ (xs : List ℕ). get_or xs x 0) shades ∙ altered_inside _ 0 g.width band x (omega arith) h n in
      marked_at x n ∙ rw (e, swept_is g.columns swept x s.usable)

  -- past it
  past : (k : ℕ) → w ≤ k → k < length band → get_or marked k 0 ≡ get_or band k 0
  unfolding w
  past k h n =
      let nothead = among-past (head_at g.columns t.head) g.width k (head-within g.columns g.width s.usable right t.head) h in
      let notswept = among-past (swept_pixels g.columns swept) g.width k (swept-within g.columns g.width s.usable right swept) h in
      marked_at k n ∙ rw (nothead, notswept) (ap (λ (xs : List ℕ). get_or xs k 0) shades ∙ altered_above _ 0 g.width band k h n)

  line_length : length (line_of g t swept) ≡ w
  unfolding w line_of
  line_length = length-tabulate _ g.width

  line_at : (x : ℕ) → x < w → get_or (line_of g t swept) x 0 ≡ pixel_at g t swept x
  unfolding w line_of
  line_at x h = get_or-tabulate _ g.width x 0 h

  lines : List ℕ
  lines = repeated g.row_px (line_of g t swept)

  lines_length : length lines ≡ size
  unfolding lines size w
  lines_length = length-repeated g.row_px (line_of g t swept) ∙ rw line_length

  out_long : length out ≡ length band
  out_long = ap length copies ∙ length-altered _ _ _ _ ∙ marked_long

  pub band_drawn : out ≡ repeated g.row_px (line_of g t swept) ++ drop (g.row_px * g.width) band
  unfolding lines size w
  band_drawn =
      ext_get_or 0 out (lines ++ drop size band) (out_long ∙ sym (rw (length-append, lines_length, length-drop) (omega arith)))
      (λ k n. by k (subst (λ (m : ℕ). k < m) out_long n) (dec_lt k size))
    where
      by : (k : ℕ) → k < length band → Dec (k < size) → get_or out k 0 ≡ get_or (lines ++ drop size band) k 0
      by k n (yes h) =
          let column : k % w < w = mod-lt k some in
          let inside : size ≤ length marked = rw marked_long room in
          copied_at w marked out size some one_line inside copies k h ∙ pixel (k % w) column
          ∙ sym (get_or-append lines (drop size band) 0 k (rw lines_length h) ∙ repeated-at g.row_px (line_of g t swept) k (rw line_length h) ∙ rw line_length (line_at (k % w) column))
      by k n (no h) =
          let at : length lines + (k - size) ≡ k = rw lines_length (omega arith) in
          let back : size + (k - size) ≡ k = omega arith in
          ap (λ (xs : List ℕ). get_or xs k 0) copies ∙ altered_above _ w size marked k (omega arith) (rw marked_long n) ∙ past k (omega (arith, one_line)) n
          ∙ sym (ap (λ (j : ℕ). get_or (lines ++ drop size band) j 0) (sym at) ∙ get_or-append-add lines (drop size band) (k - size) 0
          ∙ get_or-drop size band (k - size) 0 ∙ ap (λ (j : ℕ). get_or band j 0) back)
