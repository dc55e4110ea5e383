-- Records that pass the plain picture's test for being the same are equal: so a call is judged by the record that it was handed.
use mathlib.Core.Path.{◌≡◌, refl, sym}
use mathlib.Core.Bool.{Bool, true, false, cond, false≢true}
use mathlib.Core.List.{[], ◌∷◌}
use lib.Dec.{eqb}
use borrow.Author.Tests.{eqb-true}
use Rattle.refusal.proofs.Passed.{all_true}
use Rattle.columns.specs.declared.Columns.{Columns}
use Rattle.columns.specs.declared.Columns.TheVariants.{Cells, Bins}
use Rattle.grid.specs.declared.Progress.{Progress}
use Rattle.grid.specs.declared.Grid.{Grid}
use Rattle.picture.specs.Plain.{Plain, standing, same_columns, same_flag, same_progress, same_grid, judged}

flags_equal : (a b : Bool) → same_flag a b ≡ true → a ≡ b
flags_equal true true e = refl
flags_equal true false e = absurd (false≢true e)
flags_equal false true e = absurd (false≢true e)
flags_equal false false e = refl

columns_equal : (a b : Columns) → same_columns a b ≡ true → a ≡ b
columns_equal (Cells first count px x0) (Cells first2 count2 px2 x02) e =
    let t = all_true (eqb first first2 ∷ eqb count count2 ∷ eqb px px2 ∷ eqb x0 x02 ∷ []) e in
    λ i. Cells (eqb-true first first2 t.0 i) (eqb-true count count2 t.1.0 i) (eqb-true px px2 t.1.1.0 i) (eqb-true x0 x02 t.1.1.1.0 i)
columns_equal (Bins first cells width) (Bins first2 cells2 width2) e =
    let t = all_true (eqb first first2 ∷ eqb cells cells2 ∷ eqb width width2 ∷ []) e in
    λ i. Bins (eqb-true first first2 t.0 i) (eqb-true cells cells2 t.1.0 i) (eqb-true width width2 t.1.1.0 i)
columns_equal (Cells first count px x0) (Bins first2 cells2 width2) e = absurd (false≢true e)
columns_equal (Bins first cells width) (Cells first2 count2 px2 x02) e = absurd (false≢true e)

progress_equal : (p r : Progress) → same_progress p r ≡ true → p ≡ r
progress_equal p r e =
    let t = all_true (eqb p.done r.done ∷ eqb p.left r.left ∷ eqb p.right r.right ∷ []) e in
    λ i. record { done = eqb-true p.done r.done t.0 i; left = eqb-true p.left r.left t.1.0 i; right = eqb-true p.right r.right t.1.1.0 i }

grids_equal : (g h : Grid) → same_grid g h ≡ true → g ≡ h
unfolding same_grid
grids_equal g h e =
    let t =
    all_true
    (eqb g.width h.width ∷ eqb g.height h.height ∷ eqb g.symbols h.symbols ∷ same_flag g.exact h.exact
    ∷ same_columns g.columns h.columns ∷ eqb g.row_px h.row_px ∷ eqb g.rows h.rows ∷ eqb g.first h.first
    ∷ eqb g.stride h.stride ∷ eqb g.last h.last ∷ same_progress g.progress h.progress ∷ [])
    e in
    let width = eqb-true _ _ t.0 in
    let height = eqb-true _ _ t.1.0 in
    let symbols = eqb-true _ _ t.1.1.0 in
    let exact = flags_equal _ _ t.1.1.1.0 in
    let columns = columns_equal _ _ t.1.1.1.1.0 in
    let lines = eqb-true _ _ t.1.1.1.1.1.0 in
    let rows = eqb-true _ _ t.1.1.1.1.1.1.0 in
    let first = eqb-true _ _ t.1.1.1.1.1.1.1.0 in
    let stride = eqb-true _ _ t.1.1.1.1.1.1.1.1.0 in
    let last = eqb-true _ _ t.1.1.1.1.1.1.1.1.1.0 in
    let progress = progress_equal _ _ t.1.1.1.1.1.1.1.1.1.1.0 in
    λ i.
    record {
      width = width i;
      height = height i;
      symbols = symbols i;
      exact = exact i;
      columns = columns i;
      row_px = lines i;
      rows = rows i;
      first = first i;
      stride = stride i;
      last = last i;
      progress = progress i;
    }

pub judged_by : (q : Plain) (g : Grid) → judged q g ≡ g
judged_by q g = by (same_grid g (standing q)) refl
  where
    by : (b : Bool) → same_grid g (standing q) ≡ b → cond b (standing q) g ≡ g
    by true e = sym (grids_equal g (standing q) e)
    by false e = refl
