-- What drawing a row makes of the index and the store, element by element.
use Rattle.std.proofs.Common.{Option, Some, None, ℕ, ◌+◌, ◌-◌, ◌*◌, ◌/◌, ◌%◌, ◌≤◌, ◌<◌, ◌≡◌, refl, sym, ap, ◌∙◌, Bool, true, false, ◌&&◌, cond, List, ◌++◌, arith, add-mul, le-div_iff_mul-le, div-lt_iff_lt-mul, mod-lt, ltb, leb, length, get_or, take, drop, length-append, length-drop, length-take-le, get_or-take, get_or-drop, get_or-append-add, le-leb, lt-ltb, le-ltb}
use Rattle.std.proofs.Math.Decide.{dec_lt, dec_le}
use Rattle.std.proofs.Math.Nat.{mul-add-mod_self_right}
use Rattle.std.proofs.Math.ListN.{get_or-append}
use borrow.Author.Tests.{lt-leb}
use Rattle.slices.specs.Tabulate.{tabulate}
use Rattle.slices.specs.Filled.{within}
use Rattle.slices.proofs.Tabulated.{length-tabulate, get_or-tabulate, tabulate_is, tabulate-same}
use Rattle.slices.proofs.Within.{within_inside, within_below, within_above, inside_within}
use Rattle.tape.specs.Tape.{Tape, symbol_at}
use Rattle.columns.specs.declared.Pair.{Pair}
use Rattle.columns.specs.Window.{first_of}
use Rattle.grid.specs.declared.Grid.{Grid}
use Rattle.grid.specs.Memory.{stored_cells}
use Rattle.grid.proofs.Sound.{Sound}
use Rattle.line.specs.Altered.{repeated, overwritten}
use Rattle.line.specs.Line.{row_symbols, pixel_at, line_of}
use Rattle.rows.specs.RowCall.{drawn_index, drawn_store}
use Rattle.rows.proofs.Bands.{length-repeated, repeated-at}
use Rattle.rows.proofs.Placed.{lines_fit, part_within}

overwritten_is : (at : ℕ) (new xs : List ℕ) → at + length new ≤ length xs
    → overwritten at new xs ≡ tabulate (λ k. cond (within at (at + length new) k) (get_or new (k - at) 0) (get_or xs k 0)) (length xs)
unfolding overwritten
overwritten_is at new xs fit = tabulate_is (take at xs ++ rest) _ (length xs) long (λ k h. each k h (dec_lt k at) (dec_lt k (at + length new)))
  where
    rest : List ℕ
    rest = new ++ drop (at + length new) xs

    front : length (take at xs) ≡ at
    front = length-take-le at xs (omega arith)

    long : length (take at xs ++ rest) ≡ length xs
    long = rw (length-append, length-append, length-drop, front) (omega arith)

    -- the element j places after the first new one
    on : (k j : ℕ) → k ≡ at + j → get_or (take at xs ++ rest) k 0 ≡ get_or rest j 0
    on k j e = ap (λ (n : ℕ). get_or (take at xs ++ rest) n 0) (e ∙ ap (λ (n : ℕ). n + j) (sym front)) ∙ get_or-append-add (take at xs) rest j 0

    each : (k : ℕ) → k < length xs → Dec (k < at) → Dec (k < at + length new)
        → get_or (take at xs ++ rest) k 0 ≡ cond (within at (at + length new) k) (get_or new (k - at) 0) (get_or xs k 0)
    each k h (yes b) d = rw (within_below at (at + length new) k b) (get_or-append (take at xs) rest 0 k (rw front b) ∙ get_or-take at xs k 0 b)
    each k h (no b) (yes d) =
        rw (within_inside at (at + length new) k (omega arith) d)
        (on k (k - at) (omega arith) ∙ get_or-append new (drop (at + length new) xs) 0 (k - at) (omega arith))
    each k h (no b) (no d) =
        let j = k - (at + length new) in
        let back : at + length new + j ≡ k = omega arith in
        rw (within_above at (at + length new) k (omega arith))
        (on k (length new + j) (omega arith) ∙ get_or-append-add new (drop (at + length new) xs) j 0 ∙ get_or-drop (at + length new) xs j 0
        ∙ ap (λ (n : ℕ). get_or xs n 0) back)

-- place k is on one of the lines a..b - 1, each w long, exactly if its line is
lines_within : (a b w k : ℕ) → 0 < w → within (a * w) (b * w) k ≡ within a b (k / w)
lines_within a b w k h = ap (λ (t : Bool). t && ltb k (b * w)) (low (dec_le a (k / w))) ∙ ap (λ (t : Bool). leb a (k / w) && t) (high (dec_lt (k / w) b))
  where
    low : Dec (a ≤ k / w) → leb (a * w) k ≡ leb a (k / w)
    low (yes e) = le-leb (a * w) k ((le-div_iff_mul-le h).0 e) ∙ sym (le-leb a (k / w) e)
    low (no e) =
        let far : k < a * w = (div-lt_iff_lt-mul h).0 (omega arith) in
        lt-leb (a * w) k far ∙ sym (lt-leb a (k / w) (omega arith))

    high : Dec (k / w < b) → ltb k (b * w) ≡ ltb (k / w) b
    high (yes e) = lt-ltb k (b * w) ((div-lt_iff_lt-mul h).0 e) ∙ sym (lt-ltb (k / w) b e)
    high (no e) =
        let far : b * w ≤ k = (le-div_iff_mul-le h).0 (omega arith) in
        le-ltb k (b * w) far ∙ sym (le-ltb (k / w) b (omega arith))

module _ (g : Grid) (s : Sound g) (left : g.progress.done < g.rows) (t : Tape) where
  module _ (swept : Option Pair) (index : List ℕ) (long : length index ≡ g.width * g.height) where
    w : ℕ
    w = g.width

    a : ℕ
    a = g.progress.done * g.row_px

    line : List ℕ
    line = line_of g t swept

    lines : List ℕ
    lines = repeated g.row_px line

    line_length : length line ≡ w
    unfolding line line_of w
    line_length = length-tabulate (pixel_at g t swept) g.width

    lines_length : length lines ≡ g.row_px * w
    unfolding lines
    lines_length = length-repeated g.row_px line ∙ rw line_length

    end : a * w + length lines ≡ (a + g.row_px) * w
    end = rw (lines_length, add-mul)

    -- the byte of the lines at place a × w + j
    on_line : (k : ℕ) → a * w ≤ k → k < (a + g.row_px) * w → get_or lines (k - a * w) 0 ≡ pixel_at g t swept (k % w)
    unfolding lines line line_of w
    on_line k l h =
        let j = k - a * w in
        let size : g.row_px * length line ≡ g.row_px * w = rw line_length in
        let inside : j < g.row_px * length line = omega (arith, rw add-mul at h) in
        let column : j % w ≡ k % w = sym (mul-add-mod_self_right a w j) ∙ ap (λ (n : ℕ). n % w) (omega arith) in
        repeated-at g.row_px line j inside ∙ rw (line_length, column) (get_or-tabulate (pixel_at g t swept) g.width (k % w) 0 (mod-lt k s.width_least))

    pub index_drawn_at : drawn_index g t swept index
        ≡ tabulate (λ k. cond (within (g.progress.done * g.row_px) (g.progress.done * g.row_px + g.row_px) (k / g.width)) (pixel_at g t swept (k % g.width)) (get_or index k 0)) (length index)
    unfolding drawn_index lines line w a
    index_drawn_at =
        overwritten_is (a * w) lines index (rw (lines_length, long) (lines_fit g s left))
        ∙ tabulate-same _ _ (length index) (λ k h. each k (within (a * w) ((a + g.row_px) * w) k) refl)
      where
        each : (k : ℕ) (b : Bool) → within (a * w) ((a + g.row_px) * w) k ≡ b
            → cond (within (a * w) (a * w + length lines) k) (get_or lines (k - a * w) 0) (get_or index k 0)
            ≡ cond (within a (a + g.row_px) (k / w)) (pixel_at g t swept (k % w)) (get_or index k 0)
        each k true e =
            let f = inside_within (a * w) ((a + g.row_px) * w) k e in
            rw (end, e, sym (lines_within a (a + g.row_px) w k s.width_least) ∙ e) (on_line k f.0 f.1)
        each k false e = rw (end, e, sym (lines_within a (a + g.row_px) w k s.width_least) ∙ e)

  module _ (store : List ℕ) (long : length store ≡ g.rows * stored_cells g.columns) where
    count : ℕ
    count = stored_cells g.columns

    symbols : List ℕ
    symbols = row_symbols g.columns t

    symbols-length : length symbols ≡ count
    unfolding symbols count
    symbols-length = length-tabulate _ (stored_cells g.columns)

    pub store_drawn_at : drawn_store g t store
        ≡ tabulate (λ k. cond (within (g.progress.done * stored_cells g.columns) (g.progress.done * stored_cells g.columns + stored_cells g.columns) k) (symbol_at t (first_of g.columns + (k - g.progress.done * stored_cells g.columns))) (get_or store k 0)) (length store)
    unfolding drawn_store symbols count
    store_drawn_at =
        overwritten_is (g.progress.done * count) symbols store (rw (symbols-length, long) (part_within g.progress.done g.rows count left))
        ∙ tabulate-same _ _ (length store) (λ k h. each k (within (g.progress.done * count) (g.progress.done * count + count) k) refl)
      where
        each : (k : ℕ) (b : Bool) → within (g.progress.done * count) (g.progress.done * count + count) k ≡ b
            → cond (within (g.progress.done * count) (g.progress.done * count + length symbols) k) (get_or symbols (k - g.progress.done * count) 0) (get_or store k 0)
            ≡ cond (within (g.progress.done * count) (g.progress.done * count + count) k) (symbol_at t (first_of g.columns + (k - g.progress.done * count))) (get_or store k 0)
        each k true e =
            let f = inside_within (g.progress.done * count) (g.progress.done * count + count) k e in
            rw (symbols-length, e) (get_or-tabulate _ (stored_cells g.columns) (k - g.progress.done * count) 0 (omega (arith, f.0, f.1)))
        each k false e = rw (symbols-length, e)
