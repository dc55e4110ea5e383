-- The tests of the definitions as facts: beside the window, in the window, among the numbers found.
use Rattle.std.proofs.Common.{Option, Some, None, ℕ, ◌+◌, ◌≤◌, ◌<◌, ◌≡◌, refl, Bool, true, false, true≢false, ◌||◌, cond, ltb, leb, leb-true, ltb-true, leb-false, ltb-false, le-leb, lt-ltb, le-ltb}
use Rattle.std.proofs.Math.Bool.{false≢true, and-eq-true_iff}
use borrow.Author.Tests.{lt-leb}
use Rattle.limits.proofs.Facts.{within_facts}
use Rattle.columns.specs.declared.Columns.{Columns}
use Rattle.columns.specs.declared.Pair.{Pair}
use Rattle.columns.specs.Window.{first_of, cells_in, in_window}
use Rattle.columns.specs.Found.{pair, among}
use Rattle.columns.specs.Pixels.{left_pixel, end_pixel, beside}

neither : (a b : Bool) → (a || b) ≡ false → (a ≡ false) × (b ≡ false)
neither true b e = absurd (true≢false e)
neither false b e = (refl, e)

pub among_facts : (from to n : ℕ) → among (Some (pair from to)) n ≡ true → (from ≤ n) × (n ≤ to)
among_facts = within_facts

pub facts_among : (from to n : ℕ) → from ≤ n → n ≤ to → among (Some (pair from to)) n ≡ true
facts_among from to n l h = rw (le-leb from n l, le-leb n to h)

module _ (columns : Columns) (n : ℕ) where
  pub window_facts : in_window columns n ≡ true → (first_of columns ≤ n) × (n < first_of columns + cells_in columns)
  window_facts e = let t = (and-eq-true_iff (leb (first_of columns) n) (ltb n (first_of columns + cells_in columns))).0 e in (leb-true _ n t.0, ltb-true n _ t.1)

  pub facts_window : first_of columns ≤ n → n < first_of columns + cells_in columns → in_window columns n ≡ true
  facts_window l h = rw (le-leb (first_of columns) n l, lt-ltb n (first_of columns + cells_in columns) h)

  pub beside_facts : beside columns n ≡ false → (left_pixel columns ≤ n) × (n < end_pixel columns)
  beside_facts e = let t = neither (ltb n (left_pixel columns)) (leb (end_pixel columns) n) e in (ltb-false n _ t.0, leb-false _ n t.1)

  pub facts_beside : left_pixel columns ≤ n → n < end_pixel columns → beside columns n ≡ false
  facts_beside l h = rw (le-ltb n (left_pixel columns) l, lt-leb (end_pixel columns) n h)

-- what is found where a test holds, or fails
pub among_else : (test : Bool) (f : Option Pair) (n : ℕ) → among (cond test None f) n ≡ true → (test ≡ false) × (among f n ≡ true)
among_else true f n e = absurd (false≢true e)
among_else false f n e = (refl, e)

pub else_among : (test : Bool) (f : Option Pair) (n : ℕ) → test ≡ false → among f n ≡ true → among (cond test None f) n ≡ true
else_among test f n e h = rw e h

pub among_then : (test : Bool) (f : Option Pair) (n : ℕ) → among (cond test f None) n ≡ true → (test ≡ true) × (among f n ≡ true)
among_then true f n e = (refl, e)
among_then false f n e = absurd (false≢true e)

pub nothing_found : (p : Pair) → ◌≡◌ {A = Option Pair} None (Some p) → ⊥
nothing_found p e = cc

pub found_else : (test : Bool) (q p : Pair) → cond test None (Some q) ≡ Some p → q ≡ p
found_else true q p e = absurd (nothing_found p e)
found_else false q p e = cc

pub found_then : (test : Bool) (q p : Pair) → cond test (Some q) None ≡ Some p → (test ≡ true) × (q ≡ p)
found_then true q p e = (refl, cc)
found_then false q p e = absurd (nothing_found p e)
