-- The symbol at a position: the head's cell, a side's cell, and blank outside all runs.
use Prim.Native.Nat.{ℕ, suc, ◌+◌, ◌-◌, ◌<◌}
use mathlib.Core.Path.{◌≡◌, ◌∙◌}
use native.Mathlib.Omega.{arith}
use borrow.Author.Tests.{lt-ltb, le-ltb}
use lib.ListN.{length}
use Rattle.tape.specs.Tape.{Side, Tape, symbol_at, cell_of}
use Rattle.tape.specs.Checks.{total}
use Rattle.tape.proofs.Runs.{blank-past}

-- a side's two lists are of one length
abbrev pub Paired : Side → Type 0
Paired side = length side.symbols ≡ length side.lengths

module _ (t : Tape) where
  pub head_cell : (p : ℕ) → p ≡ t.head → symbol_at t p ≡ t.cur
  unfolding symbol_at
  head_cell p e = rw (le-ltb p t.head (omega arith), le-ltb t.head p (omega arith))

  pub left_cell : (p : ℕ) → p < t.head → symbol_at t p ≡ cell_of t.left (t.head - suc p)
  unfolding symbol_at
  left_cell p h = rw (lt-ltb p t.head h)

  pub right_cell : (p : ℕ) → t.head < p → symbol_at t p ≡ cell_of t.right (p - suc t.head)
  unfolding symbol_at
  right_cell p h = rw (le-ltb p t.head (omega arith), lt-ltb t.head p h)

  pub blank-left : (p : ℕ) → Paired t.left → p + total t.left.lengths < t.head → symbol_at t p ≡ 0
  blank-left p e h = left_cell p (omega arith) ∙ blank-past t.left.symbols t.left.lengths (t.head - suc p) e (omega arith)

  pub blank-right : (p : ℕ) → Paired t.right → t.head + total t.right.lengths < p → symbol_at t p ≡ 0
  blank-right p e h = right_cell p (omega arith) ∙ blank-past t.right.symbols t.right.lengths (p - suc t.head) e (omega arith)
