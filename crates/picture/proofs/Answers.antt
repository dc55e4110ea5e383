-- What is known of what a click finds: its positions are 64-bit ones.
use Rattle.std.proofs.Common.{ℕ, ◌/◌, ◌^◌, ◌<◌, ◌≡◌, refl, Bool, true, false, cond, List, arith, ltb, ℤ, length, Option, Some, None, Ok}
use lib.Signed.{mag}
use Rattle.refusal.proofs.Kept.{accepted as answered}
use Rattle.position.proofs.Laws.{position_fits}
use Rattle.columns.specs.declared.Columns.{Columns}
use Rattle.columns.specs.declared.Columns.TheVariants.{Cells, Bins}
use Rattle.columns.specs.declared.Pair.{Pair}
use Rattle.columns.specs.Inner.Usable.{Usable}
use Rattle.columns.specs.Pixels.{located}
use Rattle.columns.proofs.Laws.{located_range}
use Rattle.columns.proofs.Soundness.{usable_window}
use Rattle.grid.specs.declared.Grid.{Grid}
use Rattle.grid.proofs.Sound.{sound_facts}
use Rattle.picture.specs.declared.clicks.Location.{Location}
use Rattle.picture.specs.declared.clicks.Location.TheVariants.{Cell, Bin}
use Rattle.picture.specs.Clicks.{location_at, location_of, clicked, locate_call}
use Rattle.picture.proofs.Clicking.{accepted}

abbrev Known : Location → Type 0
Known (Cell step position symbol) = mag position < 2 ^ 63
Known (Bin step from to) = (mag from < 2 ^ 63) × (mag to < 2 ^ 63)

abbrev KnownIf : Option Location → Type 0
KnownIf None = Unit
KnownIf (Some location) = Known location

at_known : (columns : Columns) (step k : ℕ) (store : List ℕ) (from to : ℕ) → from < 2 ^ 64 → to < 2 ^ 64 → Known (location_at columns step k store from to)
at_known (Cells first count px x0) step k store from to h l = position_fits from h
at_known (Bins first cells width) step k store from to h l = (position_fits from h, position_fits to l)

of_known : (g : Grid) (k : ℕ) (store : List ℕ) (x : ℕ) → Usable g.columns → KnownIf (location_of g k store (located g.columns x))
of_known g k store x u = by (located g.columns x) refl
  where
    by : (f : Option Pair) → located g.columns x ≡ f → KnownIf (location_of g k store f)
    by (Some p) e =
        let r = located_range g.columns u x p e in
        let w = usable_window g.columns u in
        at_known g.columns _ k store p.low p.high (omega arith) (omega arith)
    by None e = tt

clicked_known : (g : Grid) (store : List ℕ) (x y : ℕ) → Usable g.columns → KnownIf (clicked g store x y)
unfolding clicked
clicked_known g store x y u = by (ltb (y / g.row_px) g.progress.done)
  where
    by : (done : Bool) → KnownIf (cond done (location_of g (y / g.row_px) store (located g.columns x)) None)
    by true = of_known g (y / g.row_px) store x u
    by false = tt

module _ (g : Grid) (store : List ℕ) (x y : ℕ) where
  found_known : (found : Option Location) → locate_call g store x y ≡ Ok found → KnownIf found
  unfolding locate_call
  found_known found e =
      let a = answered _ _ e in
      rw a.1 (clicked_known g store x y (sound_facts g (accepted g (length store) a.0).0).usable)

  pub cell_fits : (step : ℕ) (position : ℤ) (symbol : ℕ) → locate_call g store x y ≡ Ok (Some (Cell step position symbol)) → mag position < 2 ^ 63
  cell_fits step position symbol e = found_known (Some (Cell step position symbol)) e

  pub bin_fits : (step : ℕ) (from to : ℤ) → locate_call g store x y ≡ Ok (Some (Bin step from to)) → (mag from < 2 ^ 63) × (mag to < 2 ^ 63)
  bin_fits step from to e = found_known (Some (Bin step from to)) e
