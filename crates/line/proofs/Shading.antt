-- The shades of a line as they are written: before, in and behind its cells, and as copies of it are added.
use borrow.Rule.Slice.PartMut.{put_mid}
use Rattle.std.proofs.Common.{ℕ, ◌+◌, ◌-◌, ◌*◌, ◌/◌, ◌%◌, ◌≤◌, ◌<◌, ◌≡◌, sym, ap, ◌∙◌, List, ◌++◌, drop, length-append, length-drop, arith, rules, add-mul, suc-mul, mod-eq_of_lt, mul-le-mul_right, add-one, length, get_or, replicate}
use Rattle.std.proofs.Math.Decide.{dec_lt}
use Rattle.std.proofs.Math.ListN.{length-replicate, get_or-replicate}
use Rattle.std.proofs.Math.Nat.{div-eq_of_lt-le, mul-add-mod_self_right}
use Rattle.std.proofs.lemmas.List.{places}
use Rattle.slices.specs.Inner.Filled.{altered}
use Rattle.slices.proofs.Parts.{ended}
use Rattle.slices.proofs.Within.{within_inside, within_below, within_above}
use Rattle.shade.specs.Shade.{symbol_shade}
use Rattle.line.specs.Inner.Shading.{cell_byte, cell_shade}
use Rattle.slices.proofs.Altered.{length-altered, altered_inside, altered_below, altered-same, altered_more}

-- the bytes of n cells of px pixels from x0 on, by a byte for each symbol
module _ (byte : ℕ → ℕ) (n px x0 : ℕ) (symbols : List ℕ) where
  cell_before : (k : ℕ) → k < x0 → cell_byte byte n px x0 symbols k ≡ 0
  cell_before k h = rw (within_below x0 (x0 + n * px) k h)

  cell_behind : (k : ℕ) → x0 + n * px ≤ k → cell_byte byte n px x0 symbols k ≡ 0
  cell_behind k h = rw (within_above x0 (x0 + n * px) k h)

  -- cell j, from pixel x on
  cell_at : (j x k : ℕ) → j < n → x ≡ x0 + j * px → x ≤ k → k < x + px → cell_byte byte n px x0 symbols k ≡ byte (get_or symbols j 0)
  cell_at j x k h at a b =
      let next : (j + 1) * px ≡ j * px + px = rw (add-one, suc-mul) (omega arith) in
      let within : (j + 1) * px ≤ n * px = mul-le-mul_right px (omega arith) in
      let low : j * px ≤ k - x0 = omega arith in
      let high : k - x0 < (j + 1) * px = omega (arith, next) in
      rw (within_inside x0 (x0 + n * px) k (omega arith) (omega (arith, next)), div-eq_of_lt-le px low high)

  -- cells that are as they will be before pixel x, with the first pixels behind them set to cell j's byte
  pub cell_next : (j x : ℕ) (line part : List ℕ) → j < n → x ≡ x0 + j * px → x + px ≤ length line → length part ≡ length line - x
      → ((k : ℕ) → x0 ≤ k → k < x → get_or line k 0 ≡ cell_byte byte n px x0 symbols k) → ((k : ℕ) → k < px → get_or part k 0 ≡ byte (get_or symbols j 0))
      → (k : ℕ) → x0 ≤ k → k < x + px → get_or (put_mid x (length line - x) line part) k 0 ≡ cell_byte byte n px x0 symbols k
  cell_next j x line part h at fits long before set k low u = by (dec_lt k x)
    where
      by : Dec (k < x) → get_or (put_mid x (length line - x) line part) k 0 ≡ cell_byte byte n px x0 symbols k
      by (yes l) = let e : get_or (put_mid x (length line - x) line part) k 0 ≡ get_or line k 0 = search (rules, places) in e ∙ before k low l
      by (no l) =
          let e : get_or (put_mid x (length line - x) line part) k 0 ≡ get_or part (k - x) 0 = search (rules, places) in
          e ∙ set (k - x) (omega arith) ∙ sym (cell_at j x k h at (omega arith) u)

  -- the cells of a line, once paper is on both sides of them
  pub cells_between : (old line front back : List ℕ) → length line ≡ length old → x0 + n * px ≤ length line
      → ((k : ℕ) → x0 ≤ k → k < x0 + n * px → get_or line k 0 ≡ cell_byte byte n px x0 symbols k)
      → front ≡ replicate x0 0 → back ≡ replicate (length line - (x0 + n * px)) 0
      → put_mid (x0 + n * px) (length (front ++ drop x0 line) - (x0 + n * px)) (front ++ drop x0 line) back
      ≡ altered (λ x b. cell_byte byte n px x0 symbols x) 0 (length old) old
  cells_between old line front back same room cells before behind =
      ended (x0 + n * px) (front ++ drop x0 line) back (altered shades 0 (length old) old) (omega (arith, all)) (omega (arith, all, back-long)) (omega (arith, all, same, length-altered shades 0 (length old) old))
      (λ k h. by k h (dec_lt k x0) ∙ sym (altered_inside shades 0 (length old) old k (omega arith) (omega (arith, same)) (omega (arith, same))))
      (λ k h.
      ap (λ ys. get_or ys k 0) behind ∙ get_or-replicate _ k 0 0 (omega (arith, back-long)) ∙ sym (cell_behind (x0 + n * px + k) (omega arith))
      ∙ sym (altered_inside shades 0 (length old) old (x0 + n * px + k) (omega arith) (omega (arith, back-long, same)) (omega (arith, back-long, same))))
    where
      shades : ℕ → ℕ → ℕ
      shades x b = cell_byte byte n px x0 symbols x

      front-long : length front ≡ x0
      front-long = ap length before ∙ length-replicate x0 0

      back-long : length back ≡ length line - (x0 + n * px)
      back-long = ap length behind ∙ length-replicate _ 0

      all : length (front ++ drop x0 line) ≡ length line
      all = omega (arith, length-append front (drop x0 line), length-drop x0 line, front-long, room)

      by : (k : ℕ) → k < x0 + n * px → Dec (k < x0) → get_or (front ++ drop x0 line) k 0 ≡ cell_byte byte n px x0 symbols k
      by k h (yes l) =
          let e : get_or (front ++ drop x0 line) k 0 ≡ get_or front k 0 = search (rules, places) in
          e ∙ ap (λ ys. get_or ys k 0) before ∙ get_or-replicate x0 k 0 0 l ∙ sym (cell_before k l)
      by k h (no l) =
          let e : get_or (front ++ drop x0 line) k 0 ≡ get_or line k 0 = search (rules, places) in
          e ∙ cells k (omega arith) h

-- by a table of the symbols' shades
pub table_shades : (n px x0 alphabet width : ℕ) (symbols table line : List ℕ) → ((s : ℕ) → s < alphabet → get_or table s 0 ≡ symbol_shade s alphabet) → ((k : ℕ) → get_or symbols k 0 < alphabet)
    → altered (λ x b. cell_byte (λ s. get_or table s 0) n px x0 symbols x) 0 width line ≡ altered (λ x b. cell_shade n px x0 alphabet symbols x) 0 width line
table_shades n px x0 alphabet width symbols table line at below = altered-same _ _ 0 width line (λ x b l h. rw (at _ (below ((x - x0) / px))))

-- a first line of w bytes, copied up to byte i
pub copied_at : (w : ℕ) (xs out : List ℕ) (i : ℕ) → 0 < w → w ≤ i → i ≤ length xs → out ≡ altered (λ k b. get_or xs (k % w) 0) w i xs → (k : ℕ) → k < i → get_or out k 0 ≡ get_or xs (k % w) 0
copied_at w xs out i some l h is k u = ap (λ (ys : List ℕ). get_or ys k 0) is ∙ by (dec_lt k w)
  where
    by : Dec (k < w) → get_or (altered (λ k b. get_or xs (k % w) 0) w i xs) k 0 ≡ get_or xs (k % w) 0
    by (yes b) = altered_below _ w i xs k b (omega arith) ∙ rw (mod-eq_of_lt b)
    by (no b) = altered_inside _ w i xs k (omega arith) u (omega arith)

-- a first line of w bytes, copied onto lines 1..n - 1, and the first m lines onto those behind them
pub copied_more : (w m n : ℕ) (xs out new : List ℕ) → 0 < w → m ≤ n → 1 ≤ n → (n + m) * w ≤ length xs → out ≡ altered (λ k b. get_or xs (k % w) 0) w (n * w) xs
    → new ≡ altered (λ k b. get_or out (k - n * w) 0) (n * w) (n * w + m * w) out
    → new ≡ altered (λ k b. get_or xs (k % w) 0) w ((n + m) * w) xs
copied_more w m n xs out new wide few some h is copy =
    copy
    ∙ altered-same _ (λ k b. get_or xs (k % w) 0) (n * w) (n * w + m * w) out (λ k b l u. column k l u)
    ∙ altered_more (λ k b. get_or xs (k % w) 0) w (n * w) (n * w + m * w) xs out first (omega arith) is
    ∙ ap (λ to. altered (λ k b. get_or xs (k % w) 0) w to xs) (sym (add-mul n m w))
  where
    first : w ≤ n * w
    first = let one : 1 * w ≤ n * w = mul-le-mul_right w some in omega arith

    column : (k : ℕ) → n * w ≤ k → k < n * w + m * w → get_or out (k - n * w) 0 ≡ get_or xs (k % w) 0
    column k l u =
        let within : m * w ≤ n * w = mul-le-mul_right w few in
        let here : n * w + (k - n * w) ≡ k = omega arith in
        copied_at w xs out (n * w) wide first (omega (arith, h, add-mul n m w)) is (k - n * w) (omega arith)
        ∙ ap (λ j. get_or xs j 0) (sym (mul-add-mod_self_right n w (k - n * w)) ∙ ap (λ j. j % w) here)
