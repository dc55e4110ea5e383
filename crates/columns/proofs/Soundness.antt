-- What sound columns give: the facts that work on columns leans on.
use Rattle.std.proofs.Common.{ℕ, ◌+◌, ◌-◌, ◌*◌, ◌/◌, ◌^◌, ◌≤◌, ◌<◌, ◌≡◌, refl, Bool, true, false, cond, leb, arith, one-mul, div-mul-le_self, div-le_self, le-div_iff_mul-le, leb-true, ltb-true, eqb-true, le-leb, lt-ltb, eq-eqb}
use Rattle.limits.specs.Limits.{max_side, max_cells}
use Rattle.refusal.proofs.Passed.{all_true}
use Rattle.position.specs.Position.{lowest, highest}
use Rattle.columns.specs.declared.Columns.{Columns}
use Rattle.columns.specs.declared.Columns.TheVariants.{Cells, Bins}
use Rattle.columns.specs.Pixels.{end_pixel}
use Rattle.columns.specs.Window.{span_of, margin_of, first_around, cells_around, bins_over, first_of, cells_in, cells_tests, bins_tests, sound_in}
use Rattle.columns.specs.Inner.Usable.{Usable}

pub sound_usable : (w : ℕ) (columns : Columns) → 1 ≤ w → w ≤ max_side → sound_in w columns ≡ true → Usable columns
unfolding sound_in
sound_usable w (Cells first count px x0) l h e =
    let t = all_true (cells_tests w first count px x0) e in
    let one : 1 ≤ px = leb-true _ _ t.0 in
    let fits : 1 * px ≤ w = rw one-mul (leb-true px w t.1.0) in
    let many : count ≡ w / px = eqb-true _ _ t.1.1.0 in
    let margin : x0 ≡ (w - count * px) / 2 = eqb-true _ _ t.1.1.1.0 in
    let high : first ≤ highest = leb-true _ _ t.1.1.1.1.1.0 in
    let some : 1 ≤ w / px = (le-div_iff_mul-le one).1 fits in
    let used : count * px ≤ w = rw many (div-mul-le_self w px) in
    let few : w / px ≤ w = div-le_self w px in
    (one, omega arith, omega arith, omega arith)
sound_usable w (Bins first cells width) l h e =
    let t = all_true (bins_tests w first cells width) e in
    let same : width ≡ w = eqb-true _ _ t.0 in
    let more : w < cells = ltb-true _ _ t.1.0 in
    let most : cells ≤ max_cells = leb-true _ _ t.1.1.0 in
    let high : first ≤ highest = leb-true _ _ t.1.1.1.1.0 in
    (omega arith, omega arith, omega arith, most, omega arith)

-- a sound window ends within the picture
pub sound_right : (w : ℕ) (columns : Columns) → sound_in w columns ≡ true → end_pixel columns ≤ w
unfolding sound_in
sound_right w (Cells first count px x0) e =
    let t = all_true (cells_tests w first count px x0) e in
    let many : count ≡ w / px = eqb-true _ _ t.1.1.0 in
    let margin : x0 ≡ (w - count * px) / 2 = eqb-true _ _ t.1.1.1.0 in
    let used : count * px ≤ w = rw many (div-mul-le_self w px) in
    omega arith
sound_right w (Bins first cells width) e =
    let same : width ≡ w = eqb-true _ _ (all_true (bins_tests w first cells width) e).0 in
    omega arith

-- the window holds a cell, and its end is a number of 64 bits
pub usable_window : (columns : Columns) → Usable columns → (0 < cells_in columns) × (first_of columns + cells_in columns < 2 ^ 64)
usable_window (Cells first count px x0) u = (u.1, u.3)
usable_window (Bins first cells width) u = (omega arith, u.4)

first_low : (count low high : ℕ) → count ≤ max_side → lowest ≤ low → lowest - 2047 ≤ first_around count low high
first_low count low high h l = by (leb (span_of low high) count) refl
  where
    by : (b : Bool) → leb (span_of low high) count ≡ b → lowest - 2047 ≤ cond b (low - (count - span_of low high) / 2) low
    by true e = omega arith
    by false e = omega arith

first_high : (count low high : ℕ) → low ≤ highest → first_around count low high ≤ highest
first_high count low high h = by (leb (span_of low high) count)
  where
    by : (b : Bool) → cond b (low - (count - span_of low high) / 2) low ≤ highest
    by true = omega arith
    by false = omega arith

-- cells around a pair within the domain are sound
pub around_sound : (w px low high : ℕ) → 1 ≤ px → px ≤ w → w ≤ max_side → lowest ≤ low → low ≤ high → high ≤ highest
    → sound_in w (cells_around w px low high) ≡ true
unfolding sound_in
around_sound w px low high one fits wide l o h =
    let few : w / px ≤ max_side = omega (arith, div-le_self w px) in
    let top : low ≤ highest = omega arith in
    rw (
      le-leb 1 px one,
      le-leb px w fits,
      eq-eqb (w / px) (w / px) refl,
      eq-eqb (margin_of w (w / px) px) (margin_of w (w / px) px) refl,
      le-leb (lowest - 2047) (first_around (w / px) low high) (first_low (w / px) low high few l),
      le-leb (first_around (w / px) low high) highest (first_high (w / px) low high top),
    )

-- bins over a pair within the domain are sound if it has more cells than pixels and at most 2^50
pub over_sound : (w low high : ℕ) → w < span_of low high → span_of low high ≤ max_cells → lowest ≤ low → low ≤ high → high ≤ highest
    → sound_in w (bins_over w low high) ≡ true
unfolding sound_in
over_sound w low high more most l o h =
    rw (
      eq-eqb w w refl,
      lt-ltb w (span_of low high) more,
      le-leb (span_of low high) max_cells most,
      le-leb lowest low l,
      le-leb low highest (omega arith),
      le-leb (low + (span_of low high - 1)) highest (omega arith),
    )
