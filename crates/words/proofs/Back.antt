-- The words of a sound record are read back as that record: so what a call wrote is what the next one takes.
use Prim.Native.Nat.{ℕ}
use mathlib.Core.Path.{◌≡◌, refl, sym, ap}
use mathlib.Core.Bool.{Bool, true, false}
use borrow.Author.Tests.{eqb-true}
use Rattle.refusal.proofs.Passed.{all_true}
use Rattle.columns.specs.declared.Columns.{Columns}
use Rattle.columns.specs.declared.Columns.TheVariants.{Cells, Bins}
use Rattle.columns.specs.Window.{bins_tests, sound_in}
use Rattle.grid.specs.declared.Grid.{Grid}
use Rattle.grid.specs.Soundness.{grid_sound, grid_with}
use Rattle.grid.proofs.Sound.{sound_columns}
use Rattle.words.specs.Words.{words_of, grid_of}

by_kind : (g : Grid) (b : Bool) (c : Columns) → sound_in g.width c ≡ true
    → grid_of (words_of (grid_with g b c g.progress)) ≡ grid_with g b c g.progress
unfolding grid_of sound_in
by_kind g true (Cells from count px x0) e = refl
by_kind g false (Cells from count px x0) e = refl
by_kind g true (Bins from cells width) e =
    let same : g.width ≡ width = sym (eqb-true width g.width (all_true (bins_tests g.width from cells width) e).0) in
    ap (λ (v : ℕ). grid_with g true (Bins from cells v) g.progress) same
by_kind g false (Bins from cells width) e =
    let same : g.width ≡ width = sym (eqb-true width g.width (all_true (bins_tests g.width from cells width) e).0) in
    ap (λ (v : ℕ). grid_with g false (Bins from cells v) g.progress) same

pub words_back : (g : Grid) → grid_sound g ≡ true → grid_of (words_of g) ≡ g
words_back g e = by_kind g g.exact g.columns (sound_columns g e)
