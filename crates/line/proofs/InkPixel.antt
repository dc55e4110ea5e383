-- When a pixel in bins shows the ink of its bin: exactly where something in the bin is written and the head is not drawn, since swept goes over paper alone.
use Rattle.std.proofs.Common.{Option, ℕ, ◌+◌, ◌≤◌, ◌≡◌, refl, ◌∙◌, Bool, true, false, cond, arith, eqb, eqb-true, ne_eqb}
use borrow.Author.Tests.{eqb-false}
use Rattle.shade.specs.Index as byte
use Rattle.shade.specs.Shade.{tally_shade}
use Rattle.shade.proofs.Shades.{tally-paper}
use Rattle.tape.specs.Tape.{Tape}
use Rattle.columns.specs.declared.Columns.TheVariants.{Bins}
use Rattle.columns.specs.declared.Pair.{Pair}
use Rattle.columns.specs.Found.{among}
use Rattle.columns.specs.Bins.{tally}
use Rattle.columns.specs.Pixels.{head_at}
use Rattle.grid.specs.declared.Grid.{Grid}
use Rattle.line.specs.Line.{written, shade_at, is_swept, pixel_at}

module _ (g : Grid) (t : Tape) (swept : Option Pair) (first cells width x : ℕ) (bins : g.columns ≡ Bins first cells width) where
  abbrev bin_tally : ℕ
  bin_tally = tally width cells (λ k. written t (first + k)) x

  abbrev shade : ℕ
  shade = shade_at g.columns g.symbols t x

  shade_is : shade ≡ tally_shade bin_tally cells
  unfolding shade_at
  shade_is = rw bins

  pub pixel-ink : 1 ≤ bin_tally → among (head_at g.columns t.head) x ≡ false → pixel_at g t swept x ≡ tally_shade bin_tally cells
  pixel-ink some off = rw (off, ne_eqb shade byte.background dark) (either (is_swept g.columns swept x)) ∙ shade_is
    where
      dark : shade ≡ byte.background → ⊥
      dark z = let blank = (tally-paper bin_tally cells).0 (rw shade_is at z) in omega arith

      either : (b : Bool) → cond b shade shade ≡ shade
      either true = refl
      either false = refl

  pub ink-pixel : byte.ink_min ≤ pixel_at g t swept x → pixel_at g t swept x ≤ byte.ink_max → (1 ≤ bin_tally) × (among (head_at g.columns t.head) x ≡ false)
  ink-pixel low high = by (among (head_at g.columns t.head) x) (is_swept g.columns swept x) (eqb shade byte.background) refl low high
    where
      some : eqb shade byte.background ≡ false → 1 ≤ bin_tally
      some e = let dark = eqb-false shade byte.background e in at_least (λ z. dark (shade_is ∙ (tally-paper bin_tally cells).1 z))
        where
          at_least : (bin_tally ≡ 0 → ⊥) → 1 ≤ bin_tally
          at_least h = omega arith

      by : (head on blank : Bool) → eqb shade byte.background ≡ blank
          → byte.ink_min ≤ cond head byte.head (cond on (cond blank byte.head_range shade) shade) → cond head byte.head (cond on (cond blank byte.head_range shade) shade) ≤ byte.ink_max
          → (1 ≤ bin_tally) × (head ≡ false)
      by true on blank e l h = absurd (omega arith)
      by false true true e l h = absurd (omega arith)
      by false true false e l h = (some e, refl)
      by false false true e l h = let z = eqb-true shade byte.background e in absurd (omega arith)
      by false false false e l h = (some e, refl)
