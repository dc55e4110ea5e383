-- When a pixel of a row is the head's: exactly where the head is drawn, since no shade and no swept paper has its byte.
use Rattle.std.proofs.Common.{Option, ℕ, ◌+◌, ◌-◌, ◌/◌, ◌≤◌, ◌<◌, ◌≡◌, refl, Bool, true, false, cond, ◌↔◌, arith, eqb}
use Rattle.limits.specs.Limits.{max_symbols}
use Rattle.shade.specs.Index as byte
use Rattle.shade.proofs.Shades.{tally-most, symbol-most}
use Rattle.tape.specs.Tape.{Tape, symbol_at}
use Rattle.columns.specs.declared.Columns.{Columns}
use Rattle.columns.specs.declared.Columns.TheVariants.{Cells, Bins}
use Rattle.columns.specs.declared.Pair.{Pair}
use Rattle.columns.specs.Found.{among}
use Rattle.columns.specs.Inner.Usable.{Usable}
use Rattle.columns.specs.Pixels.{beside, head_at}
use Rattle.columns.proofs.Tally.{tally-most as bin-most}
use Rattle.columns.proofs.Tested.{beside_facts}
use Rattle.grid.specs.declared.Grid.{Grid}
use Rattle.line.specs.Line.{written, shade_at, is_swept, swept_over, pixel_at}

-- a shade is an ink or paper
pub shade_most : (columns : Columns) (symbols : ℕ) (t : Tape) (x : ℕ) → Usable columns → beside columns x ≡ false → ((p : ℕ) → symbol_at t p < symbols) → symbols ≤ max_symbols
    → shade_at columns symbols t x ≤ byte.ink_max
unfolding shade_at
shade_most (Cells first count px x0) symbols t x u e below few = rw e (symbol-most (symbol_at t (first + (x - x0) / px)) symbols (below _) few)
shade_most (Bins first cells width) symbols t x u e below few =
    let l = (beside_facts (Bins first cells width) x e).1 in
    tally-most _ cells (bin-most width cells (λ k. written t (first + k)) x l) (omega arith) u.3

-- what goes over a shade is not the head's byte
sweeps_less : (on : Bool) (shade : ℕ) → shade ≤ byte.ink_max → cond on (swept_over shade) shade ≡ byte.head → ⊥
sweeps_less true shade h e = by (eqb shade byte.background) e
  where
    by : (b : Bool) → cond b byte.head_range shade ≡ byte.head → ⊥
    by true e = omega arith
    by false e = omega arith
sweeps_less false shade h e = omega arith

pub pixel-head : (g : Grid) (t : Tape) (swept : Option Pair) (x : ℕ) → Usable g.columns → beside g.columns x ≡ false
    → ((p : ℕ) → symbol_at t p < g.symbols) → g.symbols ≤ max_symbols
    → (pixel_at g t swept x ≡ byte.head) ↔ (among (head_at g.columns t.head) x ≡ true)
pixel-head g t swept x u e below few = (there (among (head_at g.columns t.head) x), λ on. rw on)
  where
    there : (b : Bool) → cond b byte.head (cond (is_swept g.columns swept x) (swept_over (shade_at g.columns g.symbols t x)) (shade_at g.columns g.symbols t x)) ≡ byte.head
        → b ≡ true
    there true z = refl
    there false z = absurd (sweeps_less (is_swept g.columns swept x) _ (shade_most g.columns g.symbols t x u e below few) z)
