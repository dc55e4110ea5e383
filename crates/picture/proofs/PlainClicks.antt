-- Where a picture stands as the plain one does, a click finds what the plain picture's click finds: the cells that its column locates to.
use Rattle.std.proofs.Common.{ap, ℕ, ◌+◌, ◌-◌, ◌*◌, ◌/◌, ◌≤◌, ◌<◌, ◌≡◌, refl, sym, ◌∙◌, Bool, true, false, ◌||◌, cond, List, arith, ltb, leb, length, lt-ltb, le-ltb, le-leb, eq-eqb, eqb-true, Option, Some, None, Ok}
use Rattle.std.proofs.Math.Bool.{or-true, or-false}
use Rattle.std.proofs.Math.Decide.{dec_lt, dec_le}
use borrow.Author.Tests.{lt-leb}
use Rattle.position.proofs.Laws.{offset_position}
use Rattle.columns.specs.declared.Columns.{Columns}
use Rattle.columns.specs.declared.Columns.TheVariants.{Cells, Bins}
use Rattle.columns.specs.declared.Pair.{Pair}
use Rattle.columns.specs.Window.{sound_in, bins_tests}
use Rattle.columns.specs.Inner.Usable.{Usable}
use Rattle.columns.specs.Pixels.{beside, cells_of, located}
use Rattle.columns.proofs.Laws.{located_range}
use Rattle.columns.proofs.Tested.{found_else}
use Rattle.columns.proofs.Soundness.{sound_right, usable_window}
use Rattle.refusal.proofs.Passed.{all_true}
use Rattle.grid.specs.declared.Grid.{Grid}
use Rattle.grid.specs.Soundness.{step_of}
use Rattle.grid.specs.Memory.{stored_cells}
use Rattle.grid.proofs.Sound.{sound_facts, sound_columns}
use Rattle.picture.specs.Clicks.{locate_refusal, location_of, clicked, locate_call}
use Rattle.picture.specs.Calls.{State}
use Rattle.picture.specs.Plain.{Plain, standing, in_margin, shown_at, plain_locate}
use Rattle.picture.specs.Demand3.{cells_at, click}
use Rattle.picture.proofs.Step.{Stands}

-- past the width or in a margin is beside the window
pub outside-beside : (w : ℕ) (columns : Columns) (x : ℕ) → sound_in w columns ≡ true → (leb w x || in_margin columns x) ≡ beside columns x
unfolding sound_in
outside-beside w (Cells first count px x0) x e = by (dec_le w x)
  where
    right : x0 + count * px ≤ w
    right = sound_right w (Cells first count px x0) e

    by : Dec (w ≤ x) → (leb w x || beside (Cells first count px x0) x) ≡ beside (Cells first count px x0) x
    by (yes h) = rw (le-leb w x h, le-leb (x0 + count * px) x (omega (arith, right)), or-true)
    by (no h) = rw (lt-leb w x (omega arith))
outside-beside w (Bins first cells width) x e =
    let same : width ≡ w = eqb-true width w (all_true (bins_tests w first cells width) e).0 in
    rw (same, le-ltb x 0 (omega arith), or-false)

-- what pixel x of row r shows, which is not beside the window
shown_at_lem : (g : Grid) (columns : Columns) (r : ℕ) (store : List ℕ) (x : ℕ) → g.columns ≡ columns
    → location_of g r store (Some (cells_of columns x)) ≡ Some (shown_at columns (step_of g r) r store x)
shown_at_lem g (Cells first count px x0) r store x e =
    let k = (x - x0) / px in
    let cell : first + k - first ≡ k = omega arith in
    rw (e, cell)
shown_at_lem g (Bins first cells width) r store x e = rw e

-- the cells of what is found in a row are those that the column locates to
cells_at_lem : (g : Grid) (columns : Columns) (r : ℕ) (store : List ℕ) (x : ℕ) → Usable columns → g.columns ≡ columns
    → cells_at (Ok (location_of g r store (located columns x))) ≡ located columns x
cells_at_lem g columns r store x u e = by columns (located columns x) refl u e
  where
    by : (columns : Columns) (f : Option Pair) → located columns x ≡ f → Usable columns → g.columns ≡ columns → cells_at (Ok (location_of g r store f)) ≡ f
    by columns None l u e = refl
    by (Cells first count px x0) (Some p) l u e =
        let range = located_range (Cells first count px x0) u x p l in
        let window = usable_window (Cells first count px x0) u in
        let alone : cells_of (Cells first count px x0) x ≡ p = found_else (beside (Cells first count px x0) x) _ p l in
        let same : p.low ≡ p.high = sym (ap (λ (q : Pair). q.low) alone) ∙ ap (λ (q : Pair). q.high) alone in
        rw (e, offset_position p.low (omega (arith, range.0, range.2, window.1)), same)
    by (Bins first cells width) (Some p) l u e =
        let range = located_range (Bins first cells width) u x p l in
        let window = usable_window (Bins first cells width) u in
        rw (e, offset_position p.low (omega (arith, range.0, range.2, window.1)), offset_position p.high (omega (arith, range.2, window.1)))

module _ (s : State) (q : Plain) (st : Stands s q) (x y : ℕ) where
  g : Grid
  g = standing q

  abbrev r : ℕ
  r = y / q.grid.row_px

  -- no click is refused
  click_is : click s x y ≡ Ok (clicked g q.store x y)
  unfolding locate_call locate_refusal g
  click_is = rw (st.same_record, st.same_store, st.sound, eq-eqb (length q.store) (q.grid.rows * stored_cells q.grid.columns) st.store_long)

  pub click_plain : click s x y ≡ Ok (plain_locate q x y)
  unfolding plain_locate clicked g
  click_plain = click_is ∙ ap Ok (by (dec_lt r q.n) (beside q.grid.columns x) refl)
    where
      out : (leb q.grid.width x || in_margin q.grid.columns x) ≡ beside q.grid.columns x
      out = outside-beside q.grid.width q.grid.columns x (sound_columns (standing q) st.sound)

      by : Dec (r < q.n) → (b : Bool) → beside q.grid.columns x ≡ b
          → cond (ltb r q.n) (location_of (standing q) r q.store (cond (beside q.grid.columns x) None (Some (cells_of q.grid.columns x)))) None
          ≡ cond (leb q.n r || (leb q.grid.width x || in_margin q.grid.columns x)) None (Some (shown_at q.grid.columns (step_of q.grid r) r q.store x))
      by (yes h) true e = rw (lt-ltb r q.n h, e, out ∙ e, lt-leb q.n r h)
      by (yes h) false e = rw (lt-ltb r q.n h, e, out ∙ e, lt-leb q.n r h) (shown_at_lem (standing q) q.grid.columns r q.store x refl)
      by (no h) b e = rw (le-ltb r q.n (omega arith), le-leb q.n r (omega arith))

  -- in a drawn band the cells that its column locates to
  pub click-cells : r < q.n → cells_at (click s x y) ≡ located q.grid.columns x
  unfolding clicked g
  click-cells h = rw (click_is, lt-ltb r q.n h) (cells_at_lem (standing q) q.grid.columns r q.store x (sound_facts (standing q) st.sound).usable refl)
