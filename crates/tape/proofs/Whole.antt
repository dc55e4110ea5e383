-- The three parts of a window, left of the head, the head's cell and right of it, make the whole.
use Prim.Native.Nat.{ℕ, ◌+◌, ◌-◌, ◌<◌, ◌≤◌, min}
use mathlib.Core.Path.{◌≡◌, sym, ap, ◌∙◌}
use mathlib.Core.Bool.{true, false}
use mathlib.Core.List.{List}
use native.Mathlib.Omega.{arith}
use native.Mathlib.Decide.{dec_lt}
use borrow.Author.Tests.{lt-ltb, le-ltb}
use lib.ListN.{length, get_or}
use Rattle.slices.specs.Inner.Filled.{filled}
use Rattle.slices.proofs.Filling.{length-filled, filled_inside, filled_below}
use Rattle.slices.proofs.Tabulated.{tabulate_is}
use Rattle.tape.specs.Tape.{Tape, symbol_at, symbols_from}
use Rattle.tape.specs.Inner.Sides.{on_side, side_symbol}
use Rattle.tape.specs.Inner.Windows.{overlaid}
use Rattle.tape.proofs.Symbols.{head_cell, left_cell, right_cell}
use Rattle.tape.proofs.Overlay.{length-overlaid, overlaid-at}

module _ (t : Tape) (from start end : ℕ) (xs left middle whole : List ℕ)
    (left_is : left ≡ overlaid from (on_side true t.head) (side_symbol true t.head t.left.symbols t.left.lengths) xs)
    (starts : start ≡ min (length xs) (t.head - from)) (ends : end ≡ min (length xs) (t.head + 1 - from)) (middle-is : middle ≡ filled start end t.cur left)
    (whole_is : whole ≡ overlaid from (on_side false t.head) (side_symbol false t.head t.right.symbols t.right.lengths) middle) where
  left_long : length left ≡ length xs
  left_long = ap length left_is ∙ length-overlaid _ _ _ _

  middle_long : length middle ≡ length xs
  middle_long = ap length middle-is ∙ length-filled _ _ _ _ ∙ left_long

  -- what the last part leaves, at or before the head
  kept : (k : ℕ) → k < length xs → from + k ≤ t.head → get_or whole k 0 ≡ get_or middle k 0
  kept k h l =
      let n : k < length middle = rw middle_long h in
      ap (λ (w : List ℕ). get_or w k 0) whole_is ∙ overlaid-at _ _ _ middle k n ∙ rw (le-ltb t.head (from + k) l)

  place : (k : ℕ) → k < length xs → Dec (from + k < t.head) → Dec (t.head < from + k) → get_or whole k 0 ≡ symbol_at t (from + k)
  place k h (yes l) r =
      let n : k < length left = rw left_long h in
      kept k h (omega arith) ∙ ap (λ (w : List ℕ). get_or w k 0) middle-is ∙ filled_below start end t.cur left k (omega arith) n
      ∙ ap (λ (w : List ℕ). get_or w k 0) left_is ∙ overlaid-at _ _ _ xs k h ∙ rw (lt-ltb (from + k) t.head l) (sym (left_cell t (from + k) l))
  place k h (no l) (yes r) =
      let n : k < length middle = rw middle_long h in
      ap (λ (w : List ℕ). get_or w k 0) whole_is ∙ overlaid-at _ _ _ middle k n ∙ rw (lt-ltb t.head (from + k) r) (sym (right_cell t (from + k) r))
  place k h (no l) (no r) =
      let n : k < length left = rw left_long h in
      kept k h (omega arith) ∙ ap (λ (w : List ℕ). get_or w k 0) middle-is ∙ filled_inside start end t.cur left k (omega arith) (omega arith) n
      ∙ sym (head_cell t (from + k) (omega arith))

  pub window_whole : whole ≡ symbols_from t from (length xs)
  window_whole =
      tabulate_is whole _ (length xs) (ap length whole_is ∙ length-overlaid _ _ _ _ ∙ middle_long)
      (λ k h. place k h (dec_lt (from + k) t.head) (dec_lt t.head (from + k)))
