-- The lines of a page, row by row: where a row's pixels stand in the index, and that the characters of its line are those of the page.
use Rattle.std.proofs.Common.{◌≡◌, ℕ, ◌+◌, ◌-◌, ◌*◌, ◌/◌, ◌%◌, ◌<◌, ◌≤◌, List, ◌++◌, length, get_or, take, sym, ap, ◌∙◌, add-mul, one-mul, mul_assoc, mul_comm, mul-le-mul, mul-le-mul_right, length-take-le, get_or-take, arith, refl}
use Rattle.std.proofs.Math.Decide.{dec_lt}
use Rattle.std.proofs.Math.Nat.{div-eq_of_lt-le, mod-eq-sub-div-mul}
use Rattle.std.proofs.Math.ListN.{get_or-append}
use Rattle.std.proofs.lemmas.List.{get_or-append_right}
use Rattle.limits.specs.Limits.{max_side}
use Rattle.slices.specs.Tabulate.{tabulate}
use Rattle.slices.proofs.Tabulated.{length-tabulate, get_or-tabulate, tabulate_is}
use Rattle.grid.specs.declared.Grid.{Grid}
use Rattle.grid.specs.Soundness.{step_of}
use Rattle.grid.proofs.Sound.{Sound}
use Rattle.page.specs.Page.{line_character, row_character, page_of}
use Rattle.page.proofs.Lines.{line_same}

-- a band's bytes are few
pub band_few : (g : Grid) → Sound g → g.row_px * g.width ≤ max_side * max_side
band_few g s =
    let m : 1 * g.row_px ≤ g.rows * g.row_px = mul-le-mul_right g.row_px s.rows_least in
    let few : g.row_px ≤ max_side = omega (arith, one-mul g.row_px, s.rows_within, s.height_most) in
    mul-le-mul few s.width_most

-- the first line of a drawn row's band stands in the index
pub band_within : (g : Grid) → Sound g → (row : ℕ) → row < g.progress.done → row * (g.row_px * g.width) + g.width ≤ g.width * g.height
band_within g s row h =
    let px = g.row_px in
    let later : row + 1 ≤ g.rows = omega (arith, s.done_most) in
    let rows : row * px + px ≤ g.rows * px = rw (add-mul, one-mul) at (mul-le-mul_right px later) in
    let line : row * px + 1 ≤ g.height = omega (arith, s.rows_within, s.row_least) in
    let lines : (row * px + 1) * g.width ≤ g.height * g.width = mul-le-mul_right g.width line in
    omega (arith, rw (add-mul, one-mul, mul_assoc) at lines, mul_comm g.width g.height)

-- the character of a row's line is that of the page at its place
pub same_line : (g : Grid) (index : List ℕ) (row step from p : ℕ) → step ≡ step_of g row → from ≡ row * (g.row_px * g.width) → row * 81 ≤ p → p < row * 81 + 81
    → line_character step g.width (λ x. get_or index (from + x) 0) (p - row * 81) ≡ row_character g index (p / 81) (p % 81)
same_line g index row step from p s f l h =
    let w = g.width in
    let at : p / 81 ≡ row = div-eq_of_lt-le 81 l (omega arith) in
    let rest : p % 81 ≡ p - row * 81 = mod-eq-sub-div-mul p 81 ∙ ap (λ (r : ℕ). p - r * 81) at in
    ap (λ (n : ℕ). line_character n w (λ x. get_or index (from + x) 0) (p - row * 81)) s
    ∙ ap (λ (n : ℕ). line_character (step_of g row) w (λ x. get_or index (n + x) 0) (p - row * 81)) (f ∙ sym (mul_assoc row g.row_px w))
    ∙ ap (row_character g index row) (sym rest)
    ∙ ap (λ (r : ℕ). row_character g index r (p % 81)) (sym at)

-- one line more: character k of the page is one of the line of row k div 81
module _ (g : Grid) (index page line pixels rest : List ℕ) (row from : ℕ) (at : from ≡ row * (g.row_px * g.width)) (room : row * 81 ≤ length page)
    (done : (k : ℕ) → k < 81 * row → get_or page k 0 ≡ row_character g index (k / 81) (k % 81))
    (width : length pixels ≡ g.width) (read : (x : ℕ) → x < g.width → get_or pixels x 0 ≡ get_or index (from + x) 0)
    (stands : line ≡ tabulate (line_character (step_of g row) (length pixels) (λ x. get_or pixels x 0)) 81) where
  characters : (k : ℕ) → row * 81 ≤ k → k < row * 81 + 81 → get_or line (k - row * 81) 0 ≡ row_character g index (k / 81) (k % 81)
  characters k l h =
      let j = k - row * 81 in
      let p = λ (x : ℕ). get_or pixels x 0 in
      ap (λ (l : List ℕ). get_or l j 0) stands
      ∙ get_or-tabulate (line_character (step_of g row) (length pixels) p) 81 j 0 (omega arith)
      ∙ ap (λ (w : ℕ). line_character (step_of g row) w p j) width
      ∙ line_same (step_of g row) g.width p (λ x. get_or index (from + x) 0) j read
      ∙ same_line g index row (step_of g row) from k refl at l h

  long : length line ≡ 81
  long = ap length stands ∙ length-tabulate (line_character (step_of g row) (length pixels) (λ x. get_or pixels x 0)) 81

  pub one_more : (k : ℕ) → k < 81 * (row + 1) → get_or (take (row * 81) page ++ (line ++ rest)) k 0 ≡ row_character g index (k / 81) (k % 81)
  one_more k h = by (dec_lt k (row * 81))
    where
      before : length (take (row * 81) page) ≡ row * 81
      before = length-take-le (row * 81) page room

      by : Dec (k < row * 81) → get_or (take (row * 81) page ++ (line ++ rest)) k 0 ≡ row_character g index (k / 81) (k % 81)
      by (yes l) = get_or-append (take (row * 81) page) (line ++ rest) 0 k (omega (arith, before)) ∙ rw get_or-take (done k (omega arith))
      by (no l) =
          get_or-append_right (take (row * 81) page) (line ++ rest) (row * 81) k 0 before (omega arith)
          ∙ get_or-append line rest 0 (k - row * 81) (omega (arith, long))
          ∙ characters k (omega arith) (omega arith)

pub whole_page : (g : Grid) (index page : List ℕ) (n : ℕ) → length page ≡ 81 * g.progress.done → g.progress.done ≤ n
    → ((k : ℕ) → k < 81 * n → get_or page k 0 ≡ row_character g index (k / 81) (k % 81)) → page ≡ page_of g index
unfolding page_of
whole_page g index page n long all done =
    tabulate_is page (λ k. row_character g index (k / 81) (k % 81)) (81 * g.progress.done) long (λ k h. done k (omega arith))
