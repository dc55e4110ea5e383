-- The written cells of a tape are those in the window, left of it and right of it; and each of these counts is one of positions between two.
use Prim.Native.Nat.{ℕ, ◌+◌, ◌-◌, ◌/◌, ◌^◌, ◌≤◌, ◌<◌}
use mathlib.Core.Path.{◌≡◌, refl, sym, ◌∙◌}
use mathlib.Core.Bool.{Bool, true, false, ◌&&◌, and-true, and-false, and-eq-true_iff, false≢true}
use native.Mathlib.Omega.{arith}
use native.Mathlib.Nat.{mul-div_cancel_left}
use lib.Dec.{ltb, leb}
use borrow.Author.Tests.{lt-ltb, le-ltb, le-leb, lt-leb, ltb-true, ltb-false, leb-true, leb-false}
use Rattle.slices.specs.Filled.{within}
use Rattle.slices.proofs.Within.{within_inside, inside_within}
use Rattle.tape.specs.Tape.{Tape, symbol_at}
use Rattle.tape.specs.Checks.{total}
use Rattle.tape.specs.Inner.Checks.{Readable}
use Rattle.columns.specs.declared.Columns.{Columns}
use Rattle.columns.specs.declared.Columns.TheVariants.{Cells, Bins}
use Rattle.columns.specs.Window.{first_of, cells_in, in_window}
use Rattle.columns.specs.Inner.Usable.{Usable}
use Rattle.columns.proofs.Counts.{count_same, count_few, count_add, count_part}
use Rattle.columns.proofs.Soundness.{usable_window}
use Rattle.line.specs.Line.{written, row_units, units_each, written_cells, leftmost, cells_on, written_where, written_on, written_left, written_right}
use Rattle.line.specs.Inner.Counting.{counted}
use Rattle.line.proofs.Walk.{outside}
use Rattle.line.proofs.Laws.{units-written}

-- no more are written than the tape has cells
pub where_few : (t : Tape) (test : ℕ → Bool) → written_where t test ≤ cells_on t
where_few t test = count_few (cells_on t) _

module _ (t : Tape) (r : Readable t) where
  -- what is written is one of the tape's cells
  on_tape : (p : ℕ) → written t p ≡ true → (leftmost t ≤ p) × (p < leftmost t + cells_on t)
  on_tape p e =
      let high = t.head + 1 + total t.right.lengths in
      let i = inside_within (leftmost t) high p ((and-eq-true_iff (within (leftmost t) high p) (ltb 0 (symbol_at t p))).0 (outside t r p ∙ e)).0 in
      (i.0, omega (arith, i.1, r.left_room))

  -- the test may be put otherwise at positions that a number counts
  where_same : (f g : ℕ → Bool) → ((p : ℕ) → p < 2 ^ 64 - 1 → f p ≡ g p) → written_where t f ≡ written_where t g
  where_same f g e = count_same (cells_on t) _ _ (λ k l. rw (e (leftmost t + k) (omega (arith, r.left_room, r.right_room))))

  -- the written cells at the positions from..to - 1
  where_counted : (from to : ℕ) → from ≤ to → written_where t (within from to) ≡ counted from to (written t)
  unfolding counted
  where_counted from to h =
      let f : ℕ → Bool = λ p. written t p && within from to p in
      let n = leftmost t + cells_on t + to in
      sym (count_part n (leftmost t) (cells_on t) f (omega arith) (λ p e. on_tape p ((and-eq-true_iff (written t p) (within from to p)).0 e).0))
      ∙ count_part n from (to - from) f (omega arith)
      (λ p e. let i = inside_within from to p ((and-eq-true_iff (written t p) (within from to p)).0 e).1 in (i.0, omega (arith, i.1)))
      ∙ count_same (to - from) _ _ (λ k l. rw (within_inside from to (from + k) (omega arith) (omega arith), and-true))

  pub left-counted : (columns : Columns) → counted 0 (first_of columns) (written t) ≡ written_left columns t
  left-counted columns =
      sym (where_counted 0 (first_of columns) (omega arith))
      ∙ where_same (within 0 (first_of columns)) (λ p. ltb p (first_of columns)) (λ p h. rw (le-leb 0 p (omega arith)))

  pub right-counted : (columns : Columns) → Usable columns → counted (first_of columns + cells_in columns) (2 ^ 64 - 1) (written t) ≡ written_right columns t
  right-counted columns u =
      sym (where_counted (first_of columns + cells_in columns) (2 ^ 64 - 1) (omega (arith, (usable_window columns u).1)))
      ∙ where_same (within (first_of columns + cells_in columns) (2 ^ 64 - 1)) (λ p. leb (first_of columns + cells_in columns) p) (λ p h. rw (lt-ltb p (2 ^ 64 - 1) h, and-true))

  window_counted : (columns : Columns) → written_where t (in_window columns) ≡ written_cells columns t
  unfolding counted
  window_counted columns =
      let e : first_of columns + cells_in columns - first_of columns ≡ cells_in columns = omega arith in
      where_counted (first_of columns) (first_of columns + cells_in columns) (omega arith) ∙ rw e

-- cells that pass one of two tests, never both
where_add : (t : Tape) (f g h : ℕ → Bool) → ((p : ℕ) → g p ≡ false → h p ≡ f p) → ((p : ℕ) → g p ≡ true → (h p ≡ true) × (f p ≡ false))
    → written_where t h ≡ written_where t f + written_where t g
where_add t f g h same fresh =
    count_add (cells_on t) _ _ _ (λ k l. same_and (written t (leftmost t + k)) _ _ _ (same (leftmost t + k))) (λ k l. fresh_and (written t (leftmost t + k)) _ _ _ (fresh (leftmost t + k)))
  where
    same_and : (w a b c : Bool) → (b ≡ false → c ≡ a) → (w && b) ≡ false → (w && c) ≡ (w && a)
    same_and true a b c e = e
    same_and false a b c e = λ z. refl

    fresh_and : (w a b c : Bool) → (b ≡ true → (c ≡ true) × (a ≡ false)) → (w && b) ≡ true → ((w && c) ≡ true) × ((w && a) ≡ false)
    fresh_and true a b c e = e
    fresh_and false a b c e = λ z. absurd (false≢true z)

-- all written cells of a tape
written_all : (columns : Columns) (t : Tape) → Readable t → written_on t ≡ written_cells columns t + (written_left columns t + written_right columns t)
written_all columns t r =
    let first = first_of columns in
    let end = first_of columns + cells_in columns in
    let beyond : written_on t ≡ written_where t (λ p. leb first p) + written_left columns t =
    where_add t (λ p. leb first p) (λ p. ltb p first) (λ p. true) (λ p e. sym (le-leb first p (ltb-false p first e))) (λ p e. (refl, lt-leb first p (ltb-true p first e))) in
    let within : written_where t (λ p. leb first p) ≡ written_where t (in_window columns) + written_right columns t =
    where_add t (in_window columns) (λ p. leb end p) (λ p. leb first p) (λ p e. sym (rw (lt-ltb p end (leb-false end p e)) (and-true _)))
    (λ p e. let h = leb-true end p e in (le-leb first p (omega arith), rw (le-ltb p end h, and-false))) in
    omega (arith, beyond, within, window_counted t r columns)

-- the units of a row, divided by those of a written cell, are the cells in the window; with those beside it they are all
pub row_accounted : (columns : Columns) (t : Tape) → Usable columns → Readable t
    → written_on t ≡ row_units columns t / units_each columns + (written_left columns t + written_right columns t)
row_accounted columns t u r =
    let inside : row_units columns t / units_each columns ≡ written_cells columns t =
    rw (units-written columns t) (mul-div_cancel_left (written_cells columns t) (some columns u)) in
    rw inside (written_all columns t r)
  where
    some : (columns : Columns) → Usable columns → 0 < units_each columns
    some (Cells first count px x0) u = omega arith
    some (Bins first cells width) u = u.0
